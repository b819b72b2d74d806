-- The crate's form and answers, in the words of the definitions.
use Rattle.std.specs.Prelude as std
use Rattle.std.specs.Prelude.{ℕ, ◌≡◌, List, length, ℤ, pos}
use Rattle.definitions.specs.Answer.{Result, made, refusal}
use Rattle.definitions.specs.Resolve.{signed}
use Rattle.definitions.specs.Text.{over_if}
use Rattle.instr.specs.declared.refusals.Refusal.{Refusal}
use Rattle.instr.specs.Refusals.{answer}
use Rattle.print.specs.declared.Form.{Form}
use Rattle.print.specs.declared.Form.TheVariants.{Distances, Labels}

-- the number that is shown of a record's first or second
unfoldable pub sign_of : Form → (w : ℕ) → ℤ
sign_of Distances w = signed w
sign_of Labels w = pos w

-- the length in place of the text
unfoldable pub measured : Result (List ℕ) → Result ℕ
measured (made t) = made (length t)
measured (refusal n p x) = refusal n p x

-- the answer for a text or a refusal, and what the lent buffer holds then: the text over what stood there, or all as it was
pub record Answers (t : Result (List ℕ)) (r : std.Result ℕ Refusal) (before after : List ℕ) : Type 0 where
  pub number : answer r ≡ measured t
  pub bytes : after ≡ over_if t before
