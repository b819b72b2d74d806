-- Answers. Every refusal gives its number, its place and an extra number.
use Rattle.std.specs.Prelude.{ℕ, Bool, true, false}

-- reading: a value and where the next field begins, or a refusal
pub data Answer (A : Type 0) : Type 0 where
  ok : (value : A) → (next : ℕ) → Answer A
  refused : (number place extra : ℕ) → Answer A

unfoldable pub bind : {A B : Type 0} → Answer A → (A → ℕ → Answer B) → Answer B
bind (ok a n) f = f a n
bind (refused n p x) f = refused n p x

-- everything after reading: a value, or a refusal
pub data Result (A : Type 0) : Type 0 where
  made : (value : A) → Result A
  refusal : (number place extra : ℕ) → Result A

-- the first refusal met wins
unfoldable pub onward : {A B : Type 0} → Result A → (A → Result B) → Result B
onward (made a) f = f a
onward (refusal n p x) f = refusal n p x

-- a result, where a check is passed; else the refusal
unfoldable pub checked : {A : Type 0} → (passed : Bool) → (number place extra : ℕ) → Result A → Result A
checked true n p x r = r
checked false n p x r = refusal n p x
