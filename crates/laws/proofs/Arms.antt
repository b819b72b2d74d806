-- A match on a number: what its last arm knows, and a choice by arms. Assumes nothing.
use Prim.Native.Nat.{ℕ, zero, suc, ◌+◌, ◌≤◌, ◌<◌}
use mathlib.Core.Path.{◌≡◌, refl, sym, ◌∙◌, ap}
use mathlib.Core.Bool.{Bool, true, false, cond, true≢false}
use mathlib.Core.List.{List, [], ◌∷◌}
use native.Mathlib.Omega.{arith}
use lib.Dec.{eqb}
use borrow.Author.Tests.{eqb-true, eqb-false}

-- 1. Arms for listed numbers

-- none of these
abbrev pub None : (t : ℕ) → List ℕ → Type 0
None t [] = Unit {0}
None t (k ∷ ks) = None t ks × (t ≡ k → ⊥)

-- the numbers below n that pass a test, the largest first
unfoldable pub those : (f : ℕ → Bool) (n : ℕ) → List ℕ
those f zero = []
those f (suc n) = cond (f n) (n ∷ those f n) (those f n)

last : (f : ℕ → Bool) (n t : ℕ) (b : Bool) → eqb t n ≡ b → t < suc n → f n ≡ false → (t < n → f t ≡ false) → f t ≡ false
last f n t true e h q g = ap f (eqb-true t n e) ∙ q
last f n t false e h q g = let d = eqb-false t n e in g (omega arith)

below : (f : ℕ → Bool) (n t : ℕ) (b : Bool) → f n ≡ b → t < suc n → None t (cond b (n ∷ those f n) (those f n)) → (t < n → None t (those f n) → f t ≡ false) → f t ≡ false
below f n t true e h r g = let d = r.1 in g (omega arith) r.0
below f n t false e h r g = last f n t (eqb t n) refl h e (λ l. g l r)

-- a number that is none of them does not pass
pub others : (f : ℕ → Bool) (n t : ℕ) → t < n → None t (those f n) → f t ≡ false
unfolding those
others f zero t h r = absurd (omega arith)
others f (suc n) t h r = below f n t (f n) refl h r (λ l q. others f n t l q)

-- and the other way
pub none_pass : (f : ℕ → Bool) (n t : ℕ) → f t ≡ false → None t (those f n)
unfolding those
none_pass f zero t h = tt
none_pass f (suc n) t h = go (f n) refl (none_pass f n t h)
  where
    go : (b : Bool) → f n ≡ b → None t (those f n) → None t (cond b (n ∷ those f n) (those f n))
    go true e r = (r, λ q. true≢false (sym e ∙ ap f (sym q) ∙ h))
    go false e r = r

-- none of the first n
pub past_first : (n k : ℕ) → None k (those (λ _. true) n) → n ≤ k
unfolding those
past_first zero k r = omega arith
past_first (suc n) k r = let d = r.1 in let h = past_first n k r.0 in omega arith

-- 2. Arms for numbers in a row

-- none of the n numbers after b
abbrev pub Nones : (b n k : ℕ) → Type 0
Nones b zero k = Unit {0}
Nones b (suc n) k = Nones b n k × (k ≡ b + suc n → ⊥)

pub past : (b n k : ℕ) → Nones b n k → b < k → b + n < k
past b zero k h l = omega arith
past b (suc n) k h l = let i : b + n < k = past b n k h.0 l in let z : k ≡ b + suc n → ⊥ = h.1 in omega arith

-- an answer for each of them
abbrev pub Each : (X : Type 0) (b n k : ℕ) → Type 0
Each X b zero k = Unit {0}
Each X b (suc n) k = Each X b n k × (k ≡ b + suc n → X)

either : {X : Type 0} (k j : ℕ) (b : Bool) → eqb k j ≡ b → (k ≡ j → X) → ((k ≡ j → ⊥) → X) → X
either k j true e f g = f (eqb-true k j e)
either k j false e f g = g (eqb-false k j e)

-- so there is one, with one for every other number
pub one_of : {X : Type 0} (b n k : ℕ) → Each X b n k → (Nones b n k → X) → X
one_of b zero k e g = g tt
one_of b (suc n) k e g = either k (b + suc n) (eqb k (b + suc n)) refl e.1 (λ h. one_of b n k e.0 (λ r. g (r, h)))
