-- Records and their bytes.
use Prim.Native.Nat.{ℕ, zero, suc, ◌+◌, ◌-◌, ◌≤◌, ◌<◌, ◌^◌}
use mathlib.Core.Path.{◌≡◌, refl, sym, ◌∙◌}
use mathlib.Core.Bool.{Bool, true, false, ◌&&◌, and-eq-true_iff}
use mathlib.Core.List.{List, [], ◌∷◌, ◌++◌, append_assoc}
use native.Mathlib.Omega.{arith}
use native.Mathlib.Nat.{add-zero}
use lib.Dec.{ltb, leb, eqb, lit<}
use lib.ListN.{length, get_or, take, drop, length-append}
use lib.Seq.{take_at, drop-append-add, drop-drop, take-add}
use borrow.Author.Tests.{le-leb, lt-leb, ne_eqb, eqb-true}
use Rattle.definitions.specs.Bytes.{number, bytes}
use Rattle.definitions.specs.Tag.{tag_size, emitted, row_of}
use Rattle.definitions.specs.Instr.{Instr, record_length, record_bytes, record_at, good_record, unused0}
use Rattle.instr.specs.declared.tables.Row.{Row}
use Rattle.laws.proofs.Widths.{Within}
use Rattle.instr.specs.Values.{Field, mark, row_marks, slot, fields_of, stored, written}
use Rattle.laws.proofs.Tables.{at}
use Rattle.instr.proofs.NumberLaws.{length_bytes, read_back, write_back}

-- 1. Fields, one after the other

-- their bytes
abbrev field_bytes : List Field → List ℕ
field_bytes [] = []
field_bytes (f ∷ fs) = bytes f.width f.value ++ field_bytes fs

-- each begins where the one before it ends: the first at `at`, and the last ends at `end`
abbrev laid : (at end : ℕ) → List Field → Bool
laid at end [] = eqb at end
laid at end (f ∷ fs) = eqb f.at at && laid (at + f.width) end fs

abbrev nth : List Field → (k : ℕ) → Field
nth fs k = get_or fs k (slot 0 0 0)

record_bytes_law : (i : Instr) → record_bytes i ≡ field_bytes (fields_of i)
unfolding record_bytes bytes
record_bytes_law i = refl

-- 2. Write then read, read then write

-- a field is read from where it stands
read_field : (fs : List Field) (s q p r : List ℕ) (at end k : ℕ) → s ≡ q ++ (p ++ (field_bytes fs ++ r)) → laid at end fs ≡ true → length p ≡ at → k < length fs →
    (nth fs k).value < 256 ^ (nth fs k).width → number (nth fs k).width s (length q + (nth fs k).at) ≡ (nth fs k).value
read_field [] s q p r at end k e h l b v = absurd (omega arith)
read_field (f ∷ fs) s q p r at end zero e h l b v =
    let g = (and-eq-true_iff (eqb f.at at) (laid (at + f.width) end fs)).0 h in
    let a : length q + f.at ≡ length (q ++ p) = rw (eqb-true f.at at g.0, ← l, length-append q p) in
    let d : s ≡ (q ++ p) ++ (bytes f.width f.value ++ (field_bytes fs ++ r)) = e ∙ simp append_assoc in
    rw (a, d) (read_back f.width f.value (q ++ p) (field_bytes fs ++ r) v)
read_field (f ∷ fs) s q p r at end (suc k) e h l b v =
    let g = (and-eq-true_iff (eqb f.at at) (laid (at + f.width) end fs)).0 h in
    let w = bytes f.width f.value in
    let m : length (p ++ w) ≡ at + f.width = rw (length-append p w, length_bytes f.width f.value, l) in
    read_field fs s q (p ++ w) r (at + f.width) end k (e ∙ simp append_assoc) g.1 m (omega arith) v

back : (i : Instr) (p r : List ℕ) (k : ℕ) → k < length (fields_of i) → (nth (fields_of i) k).value < 256 ^ (nth (fields_of i) k).width →
    number (nth (fields_of i) k).width (p ++ (record_bytes i ++ r)) (length p + (nth (fields_of i) k).at) ≡ (nth (fields_of i) k).value
back i p r k l v = read_field (fields_of i) (p ++ (record_bytes i ++ r)) p [] r 0 record_length k (rw (record_bytes_law i)) refl refl l v

-- "write then read is the record again"
pub write_then_read : (i : Instr) → Within i → (p r : List ℕ) → record_at (p ++ (record_bytes i ++ r)) (length p) ≡ i
unfolding record_at
write_then_read i h p r =
    let first : number 1 (p ++ (record_bytes i ++ r)) (length p) ≡ i.tag = rw (add-zero (length p)) at (back i p r 0 (lit< tt) h.tag) in
    rw (
      first,
      back i p r 1 (lit< tt) h.small,
      back i p r 2 (lit< tt) h.first,
      back i p r 3 (lit< tt) h.second,
      back i p r 4 (lit< tt) h.line,
      back i p r 5 (lit< tt) h.flags,
      back i p r 6 (lit< tt) h.value,
      back i p r 7 (lit< tt) h.node,
    )

-- each holds the number that stands in s at its place from `from` on
abbrev Holds : (s : List ℕ) (from : ℕ) → List Field → Type 0
Holds s from [] = Unit {0}
Holds s from (f ∷ fs) = (f.value ≡ number f.width s (from + f.at)) × Holds s from fs

in_order : (fs : List Field) (at end : ℕ) → laid at end fs ≡ true → at ≤ end
in_order [] at end h = let e = eqb-true at end h in omega arith
in_order (f ∷ fs) at end h =
    let g = (and-eq-true_iff (eqb f.at at) (laid (at + f.width) end fs)).0 h in
    omega (arith, in_order fs (at + f.width) end g.1)

-- two pieces of a list, one after the other
pub pieces : (s : List ℕ) (at w m to n : ℕ) → at + w ≡ to → w + m ≡ n → take w (drop at s) ++ take m (drop to s) ≡ take n (drop at s)
pieces s at w m to n e d = rw (← e, ← d, ← drop-drop w at s) (sym (take-add w m (drop at s)))

fields_back : (fs : List Field) (s : List ℕ) (from at end : ℕ) → laid at end fs ≡ true → Holds s from fs → from + end ≤ length s → ((k : ℕ) → get_or s k 0 < 256) →
    field_bytes fs ≡ take (end - at) (drop (from + at) s)
fields_back [] s from at end h v b k = let e = eqb-true at end h in let z : end - at ≡ 0 = omega arith in rw z
fields_back (f ∷ fs) s from at end h v b k =
    let g = (and-eq-true_iff (eqb f.at at) (laid (at + f.width) end fs)).0 h in
    let o = in_order fs (at + f.width) end g.1 in
    rw (v.0, eqb-true f.at at g.0, write_back f.width s (from + at) (omega arith) k, fields_back fs s from (at + f.width) end g.1 v.1 b k)
    (pieces s (from + at) f.width (end - (at + f.width)) (from + (at + f.width)) (end - at) (omega arith) (omega arith))

-- "read then write gives the bytes again"
pub read_then_write : (s : List ℕ) (at : ℕ) → at + record_length ≤ length s → ((k : ℕ) → get_or s k 0 < 256) → record_bytes (record_at s at) ≡ take record_length (drop at s)
unfolding record_at
read_then_write s at h b =
    let i = record_at s at in
    let first : number 1 s at ≡ number 1 s (at + 0) = rw (add-zero at) in
    let e = fields_back (fields_of i) s at 0 record_length refl (first, (refl, (refl, (refl, (refl, (refl, (refl, (refl, tt)))))))) h b in
    record_bytes_law i ∙ rw (add-zero at) at e

-- 3. The writer

-- a part with some fields stored in it
unfoldable pub put_all : List Field → List ℕ → List ℕ
put_all [] s = s
put_all (f ∷ fs) s = put_all fs (stored f.at f.width f.value s)

pub skip : (p q : List ℕ) (at w : ℕ) → length p ≡ at → drop (at + w) (p ++ q) ≡ drop w q
skip p q at w l = rw (← l) (drop-append-add p q w)

-- together they are their bytes, and what stood before and after them stays
put_all_law : (fs : List Field) (p s : List ℕ) (at end : ℕ) → laid at end fs ≡ true → length p ≡ at → put_all fs (p ++ drop at s) ≡ p ++ (field_bytes fs ++ drop end s)
unfolding put_all
put_all_law [] p s at end h l = rw (eqb-true at end h)
put_all_law (f ∷ fs) p s at end h l =
    let b = bytes f.width f.value in
    let g = (and-eq-true_iff (eqb f.at at) (laid (at + f.width) end fs)).0 h in
    let m : length (p ++ b) ≡ at + f.width = rw (length-append p b, length_bytes f.width f.value, l) in
    let q : stored f.at f.width f.value (p ++ drop at s) ≡ (p ++ b) ++ drop (at + f.width) s =
    rw (eqb-true f.at at g.0, take_at p (drop at s) at l, skip p (drop at s) at f.width l, drop-drop f.width at s) (sym (append_assoc p b (drop (at + f.width) s))) in
    rw (q, put_all_law fs (p ++ b) s (at + f.width) end g.1 m) (simp append_assoc)

-- all fields of a record, one after the other
pub put_fields : (i : Instr) (s : List ℕ) {a b c d e f g t : List ℕ} → record_length ≤ length s →
    a ≡ stored 0 1 i.tag s → b ≡ stored 1 1 i.small a → c ≡ stored 2 2 i.first b → d ≡ stored 4 2 i.second c → e ≡ stored 6 2 i.line d →
    f ≡ stored 8 2 i.flags e → g ≡ stored 10 8 i.value f → t ≡ stored 18 4 i.node g → t ≡ written i s
unfolding put_all written
put_fields i s l ea eb ec ed ee ef eg et =
    rw (et, eg, ef, ee, ed, ec, eb, ea, le-leb record_length (length s) l, record_bytes_law i) (put_all_law (fields_of i) [] s 0 record_length refl refl)

pub write_none : (i : Instr) (s : List ℕ) → length s < record_length → s ≡ written i s
unfolding written
write_none i s h = rw (lt-leb record_length (length s) h)

-- 4. A good record

-- a field is at most its mark: it is used, or it is 0
at_most_mark : (used : Bool) (top x : ℕ) → x ≤ top → leb x (mark used top) ≡ unused0 used x
unfolding unused0
at_most_mark true top x h = le-leb x top h
at_most_mark false top zero h = refl
at_most_mark false top (suc x) h = rw (lt-leb (suc x) 0 (omega arith), ne_eqb (suc x) 0 (λ e. absurd (omega (arith, e))))

-- by the size and the row of its tag
unfoldable pub good_with : (size : ℕ) → Row → Instr → Bool
good_with n row i =
    ltb 0 n && leb i.small row.small && leb i.first row.first && leb i.second row.second && leb i.line row.line
    && leb i.flags row.flags && leb i.value row.value

-- of any record of the code: its fields are within the types that they have there
pub good_is : (i : Instr) {n : ℕ} {row : Row} → n ≡ tag_size i.tag → row ≡ row_marks (row_of i.tag) →
    i.small ≤ 255 → i.first ≤ 65535 → i.second ≤ 65535 → i.line ≤ 65535 → i.flags ≤ 65535 →
    i.value ≤ 18446744073709551615 → good_with n row i ≡ good_record i
unfolding good_with good_record emitted
good_is i e r hs hf hn hl hg hv =
    let w = row_of i.tag in
    rw (
      e,
      r,
      at_most_mark w.small 255 i.small hs,
      at_most_mark w.first 65535 i.first hf,
      at_most_mark w.second 65535 i.second hn,
      at_most_mark w.line 65535 i.line hl,
      at_most_mark w.flags 65535 i.flags hg,
      at_most_mark w.value 18446744073709551615 i.value hv,
    ) refl
