-- What the code of a field finds is what the specification of the field says. Assumes nothing.
use Prim.Native.Nat.{ℕ, zero, suc, ◌+◌, ◌-◌, ◌≤◌, ◌<◌}
use mathlib.Core.Path.{◌≡◌, refl, sym, ◌∙◌}
use mathlib.Core.Bool.{Bool, true, false, cond, not, ◌||◌}
use Rattle.std.specs.Prelude.{Option, Some, None}
use mathlib.Core.List.{List, ◌++◌}
use native.Mathlib.Omega.{arith}
use native.Mathlib.Numerals.{sub-one}
use lib.Dec.{leb, ltb, eqb}
use lib.ListN.{length, get_or, take}
use borrow.Author.Tests.{leb-true, leb-false, le-leb, lt-leb, ne_eqb}
use Rattle.definitions.specs.Bytes.{number}
use Rattle.definitions.specs.Tag.{const_widths}
use Rattle.definitions.specs.Strip.{Strip, keep, blank, keep_below, keep_marks, least, blank_payload}
use Rattle.laws.proofs.Inversion.{impossible}
use Rattle.instr.proofs.NumberLaws.{one_byte}
use Rattle.strip.specs.declared.fields.Passed.{Passed}
use Rattle.strip.specs.Passing.{passed, fitting, guarded, below_of, put_if, Copied, Did, KeptBy, params_step, constant_step}
use Rattle.strip.proofs.Laws.{same_end, both, stopped, guards, keeps_byte, keeps_below, blanks_value}

-- 1. Bytes that fit

pub fits : (at w end n : ℕ) → at + w ≤ end → Some (passed (at + w) n) ≡ fitting at w end n
unfolding fitting
fits at w end n h = simp (le-leb (at + w) end h, fitting)

pub fits_not : (at w end n : ℕ) → end < at + w → None ≡ fitting at w end n
unfolding fitting
fits_not at w end n h = simp (lt-leb (at + w) end h, fitting)

pub record Fits (at w end n a m : ℕ) : Type 0 where
  pub to : a ≡ at + w
  pub number : m ≡ n
  pub room : at + w ≤ end

fits_in_of : (at w end n a m : ℕ) (b : Bool) (r : Option Passed) → leb (at + w) end ≡ b → r ≡ Some (passed a m) → r ≡ elim b [ true ↦ Some (passed (at + w) n) | false ↦ None ] → Fits at w end n a m
fits_in_of at w end n a m true r h d e = let s = same_end (sym d ∙ e) in record { to = s.0; number = s.1; room = leb-true (at + w) end h }
fits_in_of at w end n a m false r h d e = impossible (cc)

pub fits_in : (at w end n a m : ℕ) (r : Option Passed) → r ≡ Some (passed a m) → r ≡ fitting at w end n → Fits at w end n a m
unfolding fitting
fits_in at w end n a m r d e = fits_in_of at w end n a m (leb (at + w) end) r refl d e

fits_no_of : (at w end n : ℕ) (b : Bool) (r : Option Passed) → leb (at + w) end ≡ b → r ≡ None → r ≡ elim b [ true ↦ Some (passed (at + w) n) | false ↦ None ] → end < at + w
fits_no_of at w end n true r h d e = impossible (cc)
fits_no_of at w end n false r h d e = leb-false (at + w) end h

pub fits_no : (at w end n : ℕ) (r : Option Passed) → r ≡ None → r ≡ fitting at w end n → end < at + w
unfolding fitting
fits_no at w end n r d e = fits_no_of at w end n (leb (at + w) end) r refl d e

-- 2. Marks

-- what is left of n marks, from `next` on
pub record Marking (s : List ℕ) (end at n next left : ℕ) : Type 0 where
  pub copied : (o : List ℕ) → Copied s at o → Copied s next o
  pub same : (o : List ℕ) → Copied s at o → (q : Strip) (rest : ℕ → List ℕ) → take next o ++ keep_marks s end left q rest next ≡ take at o ++ keep_marks s end n q rest at

marks_on : (s : List ℕ) (end at n next left p m : ℕ) → 0 < left → Marking s end at n next left → Some (passed p m) ≡ below_of 2 (fitting next 1 end (get_or s next 0)) → Marking s end at n p (left - 1)
unfolding keep_marks
marks_on s end at n next zero p m h k e = impossible (omega arith)
marks_on s end at n next (suc left) p m h k e =
    let did : (o : List ℕ) → Copied s at o → Did s next o (keep_below s end 2) (Some (passed p m)) o = λ o c. keeps_below s o next end 2 _ (k.copied o c) e in
    rw sub-one (record {
      copied = λ o c. (did o c).left;
      same = λ o c q rest. (did o c).same (λ m. keep_marks s end left q) rest ∙ k.same o c q rest;
    })

pub marks_next : (s : List ℕ) (end at n next mark p m : ℕ) → mark < n → Marking s end at n next (n - mark) → Some (passed p m) ≡ below_of 2 (fitting next 1 end (get_or s next 0)) → Marking s end at n p (n - (mark + 1))
marks_next s end at n next mark p m h k e = let d : n - (mark + 1) ≡ n - mark - 1 = omega arith in rw d (marks_on s end at n next (n - mark) p m (omega arith) k e)

marks_no : (s : List ℕ) (end at n next left : ℕ) → 0 < left → Marking s end at n next left → None ≡ below_of 2 (fitting next 1 end (get_or s next 0)) → KeptBy s at (λ next. keep_marks s end n (next n)) None
unfolding keep_marks
marks_no s end at n next zero h k e o c = impossible (omega arith)
marks_no s end at n next (suc left) h k e o c =
    let did = keeps_below s o next end 2 None (k.copied o c) e in
    record { same = λ next rest. did.same (λ m. keep_marks s end left (next n)) rest ∙ k.same o c (next n) rest; left = did.left }

pub marks_stopped : (s : List ℕ) (end at n next mark : ℕ) → mark < n → Marking s end at n next (n - mark) → None ≡ below_of 2 (fitting next 1 end (get_or s next 0)) → KeptBy s at (λ next. keep_marks s end n (next n)) None
marks_stopped s end at n next mark h k e = marks_no s end at n next (n - mark) (omega arith) k e

pub marks_end : (s : List ℕ) (end at n next left : ℕ) → left ≤ 0 → Marking s end at n next left → KeptBy s at (λ next. keep_marks s end n (next n)) (Some (passed next n))
unfolding keep_marks
marks_end s end at n next zero h k o c = record { same = λ q rest. k.same o c (q n) rest; left = k.copied o c }
marks_end s end at n next (suc left) h k o c = impossible (omega arith)

-- parameters
pub params_none : (s : List ℕ) (at end : ℕ) → None ≡ fitting at 1 end (get_or s at 0) → KeptBy s at (params_step s end) None
params_none s at end e o c = stopped s o o at (keep s end 1) (λ next n. keep_marks s end n (next n)) (keeps_byte s o at end None c e)

pub params_some : (s : List ℕ) (at end a n : ℕ) (r : Option Passed) → Some (passed a n) ≡ fitting at 1 end (get_or s at 0) → KeptBy s a (λ next. keep_marks s end n (next n)) r → KeptBy s at (params_step s end) r
params_some s at end a n r e k o c =
    let did = keeps_byte s o at end (Some (passed a n)) c e in
    both s o o o at a n (keep s end 1) (λ next n. keep_marks s end n (next n)) r did (k o did.left)

-- 3. Constants

pub least_i32 : (s : List ℕ) (at byte v r : ℕ) → byte ≡ 9 → v ≡ number 4 s at → r ≡ cond (ltb v 2) 0 2 → r ≡ least byte (number (get_or const_widths byte 0) s at)
unfolding least const_widths
least_i32 s at byte v r h d e = rw h (rw d at e)

pub least_bool : (s : List ℕ) (at byte v r : ℕ) → byte ≡ 15 → v ≡ get_or s at 0 → r ≡ cond (ltb v 2) 0 2 → r ≡ least byte (number (get_or const_widths byte 0) s at)
unfolding least const_widths
least_bool s at byte v r h d e = let k : v ≡ number 1 s at = one_byte s at d in rw h (rw k at e)

pub least_other : (byte v : ℕ) → (byte ≡ 9 → ⊥) → (byte ≡ 15 → ⊥) → 0 ≡ least byte v
unfolding least
least_other byte v h k = simp (ne_eqb byte 9 h, ne_eqb byte 15 k, least)

abbrev pub good_payload : (byte v : ℕ) → Bool
good_payload b v = not (eqb b 15) || ltb v 2

pub good_bool : (s : List ℕ) (at byte v : ℕ) → byte ≡ 15 → v ≡ get_or s at 0 → ltb v 2 ≡ good_payload byte (number (get_or const_widths byte 0) s at)
unfolding const_widths
good_bool s at byte v h d = let k : v ≡ number 1 s at = one_byte s at d in rw (h, k)

pub good_other : (s : List ℕ) (at byte : ℕ) → (byte ≡ 15 → ⊥) → true ≡ good_payload byte (number (get_or const_widths byte 0) s at)
good_other s at byte h = rw (ne_eqb byte 15 h)

-- the payload is passed, and checked then
pays_of : (at w n v byte : ℕ) (b : Bool) → good_payload byte v ≡ true
    → elim b [ true ↦ Some (passed (at + w) n) | false ↦ None ] ≡ guarded (λ a v. good_payload byte v) (λ v. n) (elim b [ true ↦ Some (passed (at + w) v) | false ↦ None ])
unfolding guarded
pays_of at w n v byte true h = rw h
pays_of at w n v byte false h = refl

pays_not_of : (at w n v byte : ℕ) (b : Bool) → good_payload byte v ≡ false
    → None ≡ guarded (λ a v. good_payload byte v) (λ v. n) (elim b [ true ↦ Some (passed (at + w) v) | false ↦ None ])
unfolding guarded
pays_not_of at w n v byte true h = rw h
pays_not_of at w n v byte false h = refl

abbrev Payload : (s : List ℕ) (at n end byte : ℕ) (o : List ℕ) → Option Passed → List ℕ → Type 0
Payload s at n end byte o r o' = Did s at o (λ next. blank_payload s end byte (next n)) r o'

payload_is : (s o o' : List ℕ) (at n end byte w v : ℕ) (r : Option Passed) → end ≤ length s → Copied s at o → w ≡ get_or const_widths byte 0 → v ≡ least byte (number (get_or const_widths byte 0) s at)
    → o' ≡ put_if at w end v o → r ≡ guarded (λ a v. good_payload byte v) (λ v. n) (fitting at (get_or const_widths byte 0) end (number (get_or const_widths byte 0) s at)) → Payload s at n end byte o r o'
unfolding blank_payload
payload_is s o o' at n end byte w v r l c d e k g =
    guards s o o' at (λ a v. good_payload byte v) (λ v. n) (blank s end (get_or const_widths byte 0) (least byte)) _ r
    (blanks_value s o o' at end (get_or const_widths byte 0) v (least byte) e l c (rw d at k)) g

pub pays : (s o o' : List ℕ) (at n end byte w v : ℕ) (r : Option Passed) (g : Bool) → end ≤ length s → Copied s at o → w ≡ get_or const_widths byte 0 → v ≡ least byte (number (get_or const_widths byte 0) s at)
    → r ≡ fitting at w end n → o' ≡ put_if at w end v o → g ≡ good_payload byte (number (get_or const_widths byte 0) s at) → g ≡ true → Payload s at n end byte o r o'
unfolding fitting
pays s o o' at n end byte w v r g l c d e f k j t =
    payload_is s o o' at n end byte w v r l c d e k
    ((rw d at f) ∙ pays_of at (get_or const_widths byte 0) n (number (get_or const_widths byte 0) s at) byte (leb (at + get_or const_widths byte 0) end) (sym j ∙ t))

pub pays_not : (s o o' : List ℕ) (at n end byte w v : ℕ) (g : Bool) → end ≤ length s → Copied s at o → w ≡ get_or const_widths byte 0 → v ≡ least byte (number (get_or const_widths byte 0) s at)
    → o' ≡ put_if at w end v o → g ≡ good_payload byte (number (get_or const_widths byte 0) s at) → g ≡ false → Payload s at n end byte o None o'
unfolding fitting
pays_not s o o' at n end byte w v g l c d e k j t =
    payload_is s o o' at n end byte w v None l c d e k
    (pays_not_of at (get_or const_widths byte 0) n (number (get_or const_widths byte 0) s at) byte (leb (at + get_or const_widths byte 0) end) (sym j ∙ t))

-- a constant
pub const_not : (s o : List ℕ) (at n end : ℕ) → Copied s at o → None ≡ below_of 16 (fitting at 1 end (get_or s at 0)) → Did s at o (constant_step s end n) None o
const_not s o at n end c k = stopped s o o at (keep_below s end 16) (λ next b. blank_payload s end b (next n)) (keeps_below s o at end 16 None c k)

pub const_in : (s o : List ℕ) (at end a b : ℕ) → Copied s at o → Some (passed a b) ≡ below_of 16 (fitting at 1 end (get_or s at 0)) → Copied s a o
const_in s o at end a b c k = (keeps_below s o at end 16 _ c k).left

pub a_const : (s o o' : List ℕ) (at n end a b : ℕ) (r : Option Passed) → Copied s at o → Some (passed a b) ≡ below_of 16 (fitting at 1 end (get_or s at 0)) → Payload s a n end b o r o'
    → Did s at o (constant_step s end n) r o'
a_const s o o' at n end a b r c k p = both s o o o' at a b (keep_below s end 16) (λ next b. blank_payload s end b (next n)) r (keeps_below s o at end 16 _ c k) p
