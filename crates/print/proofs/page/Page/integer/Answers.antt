-- A minus sign where it is below 0, and its digits.
use mathlib.Core.Path.{◌∙◌}
use native.Mathlib.Omega.{arith}
use lib.IntN.{pos}
use Rattle.std.specs.Prelude.{◌<ℤ◌, ◌≤ℤ◌}
use Rattle.std.specs.Int.{w16}
use Rattle.std.proofs.lemmas.Int.{ints, to_z-of_z}
use Rattle.print.proofs.FieldLaws.{onward_field, back_field}
use Rattle.print.proofs.page.Page.integer.Goals.{then-n-lt0, else-n-lt0}
use Rattle.print.proofs.page.Page.integer.Goals as goal

pub returns : goal.returns
returns c =
    let n = c.args.n in
    let k = rw (to_z-of_z w16 n c.ranges.n) at (c.from.ensures ∙ c.unsigned_abs.ensures.value) in
    elim c.if-n-lt0.branch [
      | else-n-lt0 w ↦ let h : pos 0 ≤ℤ n = omega (arith, ints) in onward_field n h k (rw (← w.self-is) c.decimal.ensures)
      | then-n-lt0 w ↦ let h : n <ℤ pos 0 = omega (arith, ints) in back_field n h k (rw w.self-is w.put.ensures) c.decimal.ensures
    ]
