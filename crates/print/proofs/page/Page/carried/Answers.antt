-- A case for each form.
use native.Mathlib.Omega.{arith}
use Rattle.std.specs.Int.{w16}
use Rattle.std.proofs.Common.{rules, SFits}
use Rattle.std.proofs.lemmas.Int.{to_z-of_z}
use Rattle.print.proofs.FieldLaws.{label_field, distance_field}
use Rattle.print.proofs.page.Page.carried.Goals as goal

pub returns-in-Labels : goal.returns-in-Labels
returns-in-Labels c = label_field c.args.form c.args.w c.in-Labels.is (rw c.from.ensures at c.decimal.ensures)

pub returns-in-Distances : goal.returns-in-Distances
returns-in-Distances c =
    let z = c.cast_signed.result in
    let fits : SFits w16 z = search rules in
    distance_field c.args.form c.args.w c.in-Distances.is (omega arith) c.cast_signed.ensures (rw (to_z-of_z w16 z fits) at c.integer.ensures)
