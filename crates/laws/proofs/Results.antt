-- Results, one after another.
use mathlib.Core.Path.{◌≡◌, refl}
use Rattle.definitions.specs.Answer.{Result, made, refusal, onward}
use Rattle.laws.proofs.Inversion.{refusal_not_made}

pub made_is : {A : Type 0} {a b : A} → made a ≡ made b → a ≡ b
made_is e = cc

pub onward_made : {A : Type 0} (r : Result A) → onward r (λ a. made a) ≡ r
unfolding onward
onward_made (made a) = refl
onward_made (refusal n p x) = refl

pub onward_assoc : {A B C : Type 0} (r : Result A) (f : A → Result B) (g : B → Result C) → onward (onward r f) g ≡ onward r (λ a. onward (f a) g)
unfolding onward
onward_assoc (made a) f g = refl
onward_assoc (refusal n p x) f g = refl

-- both go on alike, where the rest is the same after each value that may come
pub onward_same : {A B : Type 0} (r : Result A) (f g : A → Result B) → ((a : A) → r ≡ made a → f a ≡ g a) → onward r f ≡ onward r g
unfolding onward
onward_same (made a) f g h = h a refl
onward_same (refusal n p x) f g h = refl

-- a result that was made, taken apart
pub onward_is : {A B : Type 0} (r : Result A) (f : A → Result B) {b : B} → onward r f ≡ made b → (a : A) × (r ≡ made a) × (f a ≡ made b)
unfolding onward
onward_is (made a) f e = (a, refl, e)
onward_is (refusal n p x) f e = refusal_not_made e
