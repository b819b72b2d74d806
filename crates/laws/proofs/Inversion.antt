-- From 'the parser reads this' to what its steps read. Assumes nothing.
use Prim.Native.Nat.{ℕ, ◌+◌, ◌≤◌}
use mathlib.Core.Path.{◌≡◌, refl}
use mathlib.Core.List.{List}
use mathlib.Core.Bool.{Bool, true, false}
use native.Mathlib.Omega.{arith}
use lib.Dec.{leb}
use borrow.Author.Tests.{leb-true}
use Rattle.definitions.specs.Answer.{Answer, ok, refused, bind, made, refusal}
use Rattle.definitions.specs.Bytes.{number}
use Rattle.definitions.specs.Read.{Parser, ◌>>=◌, give, unsigned, room, span}

-- 1. Steps

-- of two constructors that are said to be equal, `cc` makes 0 ≡ 1
pub impossible : {X : Type 0} → ◌≡◌ {A = ℕ} 0 1 → X
impossible z = absurd (omega arith)

pub refused_not_ok : {A X : Type 0} {n p x k : ℕ} {a : A} → refused n p x ≡ ok a k → X
refused_not_ok e = impossible (cc)

-- the same of what follows reading
pub refusal_not_made : {A X : Type 0} {n p x : ℕ} {a : A} → refusal n p x ≡ made a → X
refusal_not_made e = impossible (cc)

-- a step and what follows it
pub bind_ok : {A B : Type 0} (m : Answer A) (f : A → ℕ → Answer B) {b : B} {n : ℕ} → bind m f ≡ ok b n → (a : A) × (k : ℕ) × (m ≡ ok a k) × (f a k ≡ ok b n)
unfolding bind
bind_ok (ok a k) f e = (a, k, refl, e)
bind_ok (refused n p x) f e = refused_not_ok e

-- a test and what follows it
pub when_ok : {A : Type 0} (b : Bool) (m : Answer A) (n p x : ℕ) {a : A} {k : ℕ} → (elim b as (λ _. Answer A) [ true ↦ m | false ↦ refused n p x ]) ≡ ok a k → (b ≡ true) × (m ≡ ok a k)
when_ok true m n p x e = (refl, e)
when_ok false m n p x e = refused_not_ok e

pub give_ok : {A : Type 0} (a : A) (at : ℕ) {b : A} {n : ℕ} → give a at ≡ ok b n → (b ≡ a) × (at ≡ n)
unfolding give
give_ok a at e = (cc, cc)

-- 2. Fields

-- a number in w bytes
pub unsigned_is : (s : List ℕ) (nd end w at : ℕ) {v n : ℕ} → unsigned s nd end w at ≡ ok v n → (at + w ≤ end) × (number w s at ≡ v) × (at + w ≡ n)
unfolding unsigned
unsigned_is s nd end w at e = let h = when_ok (leb (at + w) end) _ 3 nd 0 e in (leb-true _ _ h.0, cc h.1, cc h.1)

-- and what follows it
pub unsigned_ok : {B : Type 0} (s : List ℕ) (nd end w : ℕ) (f : ℕ → Parser B) (at : ℕ) {b : B} {n : ℕ} → (unsigned s nd end w >>= f) at ≡ ok b n → (at + w ≤ end) × (f (number w s at) (at + w) ≡ ok b n)
unfolding ◌>>=◌
unsigned_ok s nd end w f at e =
    let h = bind_ok (unsigned s nd end w at) f e in
    let i = unsigned_is s nd end w at h.2 in
    (i.0, rw (← i.1, ← i.2) at h.3)

-- a length, and where what it counts ends
pub span_is : (s : List ℕ) (end at : ℕ) {v n : ℕ} → span s end at ≡ ok v n → (at + 4 ≤ at + 4 + number 4 s at) × (at + 4 + number 4 s at ≤ end) × (at + 4 + number 4 s at ≡ v) × (at + 4 ≡ n)
unfolding span room
span_is s end at e =
    let g = unsigned_ok s at end 4 (room at end) at e in
    let w = when_ok (leb (at + 4 + number 4 s at) end) _ 3 at 0 g.1 in
    (omega arith, leb-true _ _ w.0, cc w.1, cc w.1)
