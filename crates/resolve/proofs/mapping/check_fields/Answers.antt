-- What is left decides as all records do.
use mathlib.Core.Path.{◌∙◌}
use mathlib.Core.List.{[]}
use native.Mathlib.Omega.{arith}
use Rattle.std.proofs.lemmas.Result.{err_from_is_err_and}
use Rattle.instr.proofs.WholeLaws.{accepted}
use Rattle.resolve.proofs.RecordLaws.{tag_at, size_at, plain, fields_made, fields_refused}
use Rattle.resolve.proofs.Passes.{gone_start, next_of, gone_next, checked_refused, checked_end}
use Rattle.resolve.proofs.mapping.check_fields.Goals.{then-row-ne0+in_ok-map_fields, else-row-ne0}
use Rattle.resolve.proofs.mapping.check_fields.Goals as goal

pub loop-number-init : goal.loop-number-init
loop-number-init g c = ([], gone_start _ _ _ (accepted _ _ c.requires))

pub returns-in_err-map_fields : goal.returns-in_err-map_fields
returns-in_err-map_fields g c =
    let p = err_from_is_err_and c.from_residual.result c.from_residual.ensures.1 in
    rw (p.1, p.2) (checked_refused _ c.loop-number.invariant.1 c.loop-number-test.true _ (fields_refused _ _ _ _ _ c.in_err-map_fields.ensures))

pub overflow_add-start : goal.overflow_add-start
overflow_add-start g c =
    omega (arith, c.from-start.ensures, c.size_of.ensures.1, c.loop-number.invariant.1.low, c.loop-number.invariant.1.few, (accepted _ _ c.requires).few)

pub loop-number-preserved : goal.loop-number-preserved
loop-number-preserved g c = elim c.if-row-ne0.branch [
  | then-row-ne0+in_ok-map_fields w ↦ (_, gone_next c.loop-number.invariant.1 c.loop-number-test.true _ _ (fields_made _ _ _ _ _ _ w.in_ok-map_fields.ensures) (size_at _ _ (c.from-start.ensures ∙ c.size_of.ensures.0)))
  | else-row-ne0 w ↦ (_, gone_next c.loop-number.invariant.1 c.loop-number-test.true (next_of _ _) _ (plain _ _ _ _ _ _ (tag_at _ _) c.row_of-row.ensures w.if-row-ne0.false) (size_at _ _ (c.from-start.ensures ∙ c.size_of.ensures.0)))
]

pub returns : goal.returns
returns g c = checked_end _ c.loop-number.invariant.1 (omega arith)
