-- One case for each form.
use mathlib.Core.Path.{refl}
use native.Mathlib.Omega.{arith}
use Rattle.definitions.specs.Text.{letters, digit}
use Rattle.print.proofs.DigitLaws.{digit_low}
use Rattle.print.proofs.page.digit.Goals as goal

pub returns-then-this-le10 : goal.returns-then-this-le10
returns-then-this-le10 g c = digit_low c.args.d (omega arith)

pub returns : goal.returns
unfolding digit letters
returns g c = refl
