-- A unit and its stripped copy: as long, read to the same tree but for what is blanked or refused alike, and stripped already. Assumes nothing.
use Prim.Native.Nat.{ℕ, ◌≤◌, ◌<◌}
use mathlib.Core.Path.{◌≡◌, refl, sym, ap, ◌∙◌}
use mathlib.Core.Bool.{Bool, true, false, and-eq-true_iff}
use mathlib.Core.List.{List, [], ◌∷◌, ◌++◌}
use native.Mathlib.Omega.{arith}
use lib.ListN.{length, get_or, take, drop, length-append}
use lib.Seq.{take_at, drop_at, length-take-le, get_or-take}
use borrow.Author.Tests.{leb-true}
use Rattle.definitions.specs.Answer.{Answer, ok, refused}
use Rattle.definitions.specs.Bytes.{number}
use Rattle.definitions.specs.Tree.{Script}
use Rattle.definitions.specs.Read.{Parser, depth_limit, front_good, parse_unit}
use Rattle.definitions.specs.Strip.{Strip, strip_parts, strip_expr, strip_stmt, strip, block}
use Rattle.instep.specs.Moves.{moved_script}
use Rattle.instep.proofs.InStep.{InStep, passes, stops}
use Rattle.alike.proofs.RestLaws.{blanking}
use Rattle.alike.proofs.Blanks.{whole as reading, stripped_reads}
use Rattle.alike.proofs.Settled.{whole as settled}

-- what reading says of the stripped unit, given what it says of the unit
unfoldable pub blank_answer : Answer Script → Answer Script
blank_answer (ok u n) = ok (moved_script blanking u) n
blank_answer (refused n p x) = refused n p x

pub record Stripped (s : List ℕ) : Type 0 where
  pub long : length (strip s) ≡ length s
  pub reads : parse_unit (strip s) ≡ blank_answer (parse_unit s)
  pub twice : strip (strip s) ≡ strip s

-- 1. Behind the front of a unit of n bytes

abbrev stripping : (n : ℕ) → (t : List ℕ) → Strip
stripping n t = strip_parts t (strip_expr depth_limit t) (strip_stmt depth_limit t) n (block ∷ []) 0

-- 2. The front

module _ (t : List ℕ) where
  parse_good : front_good t ≡ true → parse_unit t ≡ reading t t (get_or t 5 0) t 6
  unfolding parse_unit
  parse_good e = ap (λ (b : Bool). elim b as (λ _. Answer Script) [ true ↦ reading t t (get_or t 5 0) t 6 | false ↦ refused 1 0 0 ]) e

  parse_not : front_good t ≡ false → parse_unit t ≡ refused 1 0 0
  unfolding parse_unit
  parse_not e = ap (λ (b : Bool). elim b as (λ _. Answer Script) [ true ↦ reading t t (get_or t 5 0) t 6 | false ↦ refused 1 0 0 ]) e

  strip_good : front_good t ≡ true → strip t ≡ take 6 t ++ stripping (length t) t (λ at. []) 6
  unfolding strip
  strip_good e = ap (λ (b : Bool). elim b as (λ _. List ℕ) [ true ↦ take 6 t ++ stripping (length t) t (λ at. []) 6 | false ↦ t ]) e

  strip_not : front_good t ≡ false → strip t ≡ t
  unfolding strip
  strip_not e = ap (λ (b : Bool). elim b as (λ _. List ℕ) [ true ↦ take 6 t ++ stripping (length t) t (λ at. []) 6 | false ↦ t ]) e

  six : front_good t ≡ true → 6 ≤ length t
  unfolding front_good
  six e =
      leb-true 6 (length t) ((and-eq-true_iff _ _).0 ((and-eq-true_iff _ _).0 ((and-eq-true_iff _ _).0 ((and-eq-true_iff _ _).0 e).0).0).0).0

-- two units of one length that begin with the same six bytes
module _ (s t : List ℕ) (l : length t ≡ length s) (f : take 6 t ≡ take 6 s) where
  same_byte : (i : ℕ) → i < 6 → get_or t i 0 ≡ get_or s i 0
  same_byte i h = sym (get_or-take 6 t i 0 h) ∙ ap (λ (x : List ℕ). get_or x i 0) f ∙ get_or-take 6 s i 0 h

  same_front : front_good t ≡ front_good s
  unfolding front_good number
  same_front =
      rw (
        l,
        same_byte 0 (omega arith),
        same_byte 1 (omega arith),
        same_byte 2 (omega arith),
        same_byte 3 (omega arith),
        same_byte 4 (omega arith),
        same_byte 5 (omega arith),
      )

  parse_same : front_good s ≡ true → parse_unit t ≡ reading s s (get_or s 5 0) t 6
  parse_same e = rw (← l, ← (same_byte 5 (omega arith))) (parse_good t (same_front ∙ e))

  strip_same : front_good s ≡ true → strip t ≡ take 6 s ++ stripping (length s) t (λ at. []) 6
  strip_same e = rw (← l, ← f) (strip_good t (same_front ∙ e))

-- 3. The whole

step_answer : {p p' : Parser Script} {Q : Script → ℕ → Type 0} → InStep (λ p. p) 6 (moved_script blanking) Q p p' → p' 6 ≡ blank_answer (p 6)
unfolding blank_answer
step_answer (passes a n l e e') = rw e e'
step_answer (stops c pl x e e') = rw e e'

whole : (s : List ℕ) → front_good s ≡ true → Stripped s
whole s good =
    let w = stripping (length s) s (λ at. []) 6 in
    let t = take 6 s ++ w in
    let x : strip s ≡ t = strip_good s good in
    let six' = six s good in
    let behind : drop 6 t ≡ w = drop_at (take 6 s) w 6 (length-take-le 6 s six') in
    let begins : take 6 t ≡ take 6 s = take_at (take 6 s) w 6 (length-take-le 6 s six') in
    let h = settled s t (λ at. []) (λ at. []) (omega arith, λ e. sym e) six' in
    let long : length t ≡ length s = omega (arith, length-append (take 6 s) w, length-take-le 6 s six', h.0) in
    record {
      long = rw x long;
      reads = rw (x, parse_good s good) (parse_same s t long begins good ∙ step_answer (stripped_reads s t (get_or s 5 0) six' behind));
      twice = rw x (strip_same s t long begins good ∙ ap (λ (z : List ℕ). take 6 s ++ z) (h.1 behind ∙ behind));
    }

pub stripped : (s : List ℕ) → Stripped s
unfolding blank_answer
stripped s = go (front_good s) refl
  where
    go : (b : Bool) → front_good s ≡ b → Stripped s
    go true e = whole s e
    go false e =
        let y : strip s ≡ s = strip_not s e in
        record { long = rw y; reads = rw (y, parse_not s e); twice = rw (y, y) }
