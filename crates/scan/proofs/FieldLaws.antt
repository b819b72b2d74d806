-- Fields that are there and in range are read. Assumes nothing.
use Prim.Native.Nat.{ℕ, zero, suc, ◌+◌, ◌≤◌, ◌<◌}
use mathlib.Core.Path.{◌≡◌, refl, sym, ap, ◌∙◌}
use mathlib.Core.Bool.{Bool, true, false}
use mathlib.Core.List.{List, []}
use Rattle.std.specs.Prelude.{Option, IfSome}
use Rattle.std.proofs.lemmas.Option.{IfSome_then}
use native.Mathlib.Omega.{arith}
use native.Mathlib.Decide.{dec_lt}
use lib.Dec.{eqb}
use lib.ListN.{get_or}
use borrow.Author.Tests.{le-leb, lt-ltb, eq-eqb, eqb-true}
use Rattle.definitions.specs.Answer.{Answer, ok, bind}
use Rattle.definitions.specs.Bytes.{number}
use Rattle.definitions.specs.Tag.{const_widths}
use Rattle.definitions.specs.Read.{Parser, ◌>>=◌, give, unsigned, byte_below, mark_bytes, room, span, head, ended, node, payload, as_const}
use Rattle.ir.proofs.Inversion.{one_byte, bool_width}
use Rattle.steps.specs.Walked.{marks_from}
use Rattle.scan.specs.Scanned.{ConstAt, all_marks}

-- a step and what follows it
pub step : {A B : Type 0} (x : Answer A) (f : A → ℕ → Answer B) {a : A} {k : ℕ} {b : B} {n : ℕ} → x ≡ ok a k → f a k ≡ ok b n → bind x f ≡ ok b n
unfolding bind
step x f e h = ap (λ y. bind y f) e ∙ h

-- and a test that is passed
pub passed : {A : Type 0} {t : Bool} (x y : Answer A) → t ≡ true → (elim t as (λ _. Answer A) [ true ↦ x | false ↦ y ]) ≡ x
passed x y e = rw e

pub unsigned_in : (s : List ℕ) (nd end w at : ℕ) → at + w ≤ end → unsigned s nd end w at ≡ ok (number w s at) (at + w)
unfolding unsigned
unsigned_in s nd end w at h = simp (le-leb (at + w) end h, unsigned)

-- the same, where the next field is
pub number_in : (s : List ℕ) (nd end w at next : ℕ) → next ≡ at + w → next ≤ end → unsigned s nd end w at ≡ ok (number w s at) next
number_in s nd end w at next e h = unsigned_in s nd end w at (omega arith) ∙ ap (ok (number w s at)) (sym e)

pub byte_in : (s : List ℕ) (nd end at next : ℕ) → next ≡ at + 1 → next ≤ end → unsigned s nd end 1 at ≡ ok (get_or s at 0) next
byte_in s nd end at next e h = number_in s nd end 1 at next e h ∙ ap (λ v. ok v next) (one_byte s at)

pub below_in : (s : List ℕ) (nd end bound at next : ℕ) → next ≡ at + 1 → next ≤ end → get_or s at 0 < bound → byte_below s nd end bound at ≡ ok (get_or s at 0) next
unfolding byte_below
below_in s nd end bound at next e h l = step _ _ (byte_in s nd end at next e h) (passed _ _ (lt-ltb (get_or s at 0) bound l))

pub span_in : (s : List ℕ) (end at a n r : ℕ) → (a ≡ at + 4) × (a ≤ end) → n ≡ number 4 s at → (r ≡ a + n) × (r ≤ end) → span s end at ≡ ok r (at + 4)
unfolding span room ◌>>=◌
span_in s end at a n r f e g =
    let z : r ≡ at + 4 + number 4 s at = omega (arith, f.0, e, g.0) in
    rw z (step _ _ (unsigned_in s at end 4 at (omega (arith, f.0, f.1))) (passed _ _ (le-leb (at + 4 + number 4 s at) end (omega (arith, z, g.1)))))

pub span_found : (s : List ℕ) (end at a n : ℕ) (o : Option ℕ) → (a ≡ at + 4) × (a ≤ end) → n ≡ number 4 s at → IfSome o (λ r. (r ≡ a + n) × (r ≤ end)) → IfSome o (λ r. (span s end at ≡ ok r (at + 4)) × (at + 4 ≤ r) × (r ≤ end))
span_found s end at a n o f e h = IfSome_then o h (λ r g. (span_in s end at a n r f e g, omega (arith, f.0, g.0), g.1))

pub head_in : (s : List ℕ) (end at r : ℕ) → span s end at ≡ ok r (at + 4) → at + 5 ≤ r → head s end at ≡ ok (get_or s (at + 4) 0, r) (at + 5)
unfolding head give ◌>>=◌
head_in s end at r e h = step _ _ e (step _ _ (byte_in s at r (at + 4) (at + 5) (omega arith) h) refl)

-- a head and what its kind asks, up to the end
pub node_in : {A : Type 0} (s : List ℕ) (holder : ℕ) (body : (kind at end : ℕ) → Parser A) (at kind stop : ℕ) {a : A} → head s holder at ≡ ok (kind, stop) (at + 5) → body kind at stop (at + 5) ≡ ok a stop → node s holder body at ≡ ok a stop
unfolding node ended ◌>>=◌
node_in s holder body at kind stop {a} e h = step _ _ e (step _ _ h (passed _ _ (eq-eqb stop stop refl)))

-- a field at the first place
pub first : (s : List ℕ) (at : ℕ) {bound : ℕ} → get_or s (at + 0) 0 < bound → get_or s at 0 < bound
first s at h = let z : at + 0 ≡ at = omega arith in rw z at h

-- marks, which are the bytes there
pub marks_in : (s : List ℕ) (nd end n at next : ℕ) → next ≡ at + n → next ≤ end → all_marks s at n → mark_bytes s nd end n at ≡ ok (marks_from s at n) next
unfolding mark_bytes marks_from give ◌>>=◌
marks_in s nd end zero at next e h m = let z : at ≡ next = omega arith in ap (ok []) z
marks_in s nd end (suc n) at next e h m =
    let z : at + 0 ≡ at = omega arith in
    let first : get_or s at 0 < 2 = rw z at (m 0 (omega arith)) in
    let others : all_marks s (at + 1) n = λ k l. let y : at + suc k ≡ at + 1 + k = omega arith in rw y at (m (suc k) (omega arith)) in
    step _ _ (below_in s nd end 2 at (at + 1) refl (omega arith) first) (step _ _ (marks_in s nd end n (at + 1) next (omega arith) h others) refl)

pub marks_more : (s : List ℕ) (at n : ℕ) → all_marks s at n → get_or s (at + n) 0 < 2 → all_marks s at (n + 1)
marks_more s at n m h k l = elim (dec_lt k n) [ yes i ↦ m k i | no i ↦ let e : n ≡ k = omega arith in rw e at h ]

-- a constant
pub payload_in : (s : List ℕ) (nd end byte at next : ℕ) → next ≡ at + get_or const_widths byte 0 → next ≤ end → (byte ≡ 15 → get_or s at 0 < 2)
    → payload s nd end byte at ≡ ok (number (get_or const_widths byte 0) s at) next
unfolding payload
payload_in s nd end byte at next e h m = go (eqb byte 15) refl
  where
    go : (b : Bool) → eqb byte 15 ≡ b
        → (elim b as (λ _. Parser ℕ) [ true ↦ byte_below s nd end 2 | false ↦ unsigned s nd end (get_or const_widths byte 0) ]) at ≡ ok (number (get_or const_widths byte 0) s at) next
    go true t =
        let q : byte ≡ 15 = eqb-true byte 15 t in
        let w : get_or const_widths byte 0 ≡ 1 = bool_width byte q in
        rw (w, one_byte s at) (below_in s nd end 2 at next (omega arith) h (m q))
    go false t = number_in s nd end (get_or const_widths byte 0) at next e h

-- as the code finds its parts: a mark for Bool, else a value of its width
const_in : (s : List ℕ) (stop at v r : ℕ) → (v ≡ at + 1) × (v ≤ stop) × (get_or s (at + 0) 0 < 16) → (get_or s at 0 ≡ 15 → get_or s v 0 < 2) → (r ≡ v + get_or const_widths (get_or s at 0) 0) × (r ≤ stop) → ConstAt s stop at r
unfolding as_const give ◌>>=◌
const_in s stop at v r f m g = record {
  byte = get_or s at 0;
  value = number (get_or const_widths (get_or s at 0) 0) s v;
  reads = λ site. step _ _ (below_in s site stop 16 at v f.0 f.1 (first s at f.2)) (step _ _ (payload_in s site stop (get_or s at 0) v r g.0 g.1 m) refl);
  place = g.1;
}

pub const_bool : (s : List ℕ) (stop at v r byte : ℕ) → (v ≡ at + 1) × (v ≤ stop) × (get_or s (at + 0) 0 < 16) → byte ≡ get_or s at 0 → byte ≡ 15 → (r ≡ v + 1) × (r ≤ stop) × (get_or s (v + 0) 0 < 2) → ConstAt s stop at r
const_bool s stop at v r byte f e q g =
    let w : get_or const_widths (get_or s at 0) 0 ≡ 1 = bool_width (get_or s at 0) (sym e ∙ q) in
    const_in s stop at v r f (λ _. first s v g.2) (rw w (g.0, g.1))

pub const_wide : (s : List ℕ) (stop at v r byte w : ℕ) → (v ≡ at + 1) × (v ≤ stop) × (get_or s (at + 0) 0 < 16) → byte ≡ get_or s at 0 → (byte ≡ 15 → ⊥) → w ≡ get_or const_widths byte 0 → (r ≡ v + w) × (r ≤ stop) → ConstAt s stop at r
const_wide s stop at v r byte w f e q i g =
    let z : w ≡ get_or const_widths (get_or s at 0) 0 = i ∙ ap (λ b. get_or const_widths b 0) e in
    const_in s stop at v r f (λ h. absurd (q (e ∙ h))) (rw (← z) g)
