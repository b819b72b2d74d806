-- What is left of the marks passes as all of them do.
use Rattle.strip.proofs.FieldLaws.{marks_stopped, marks_next, marks_end}
use native.Mathlib.Omega.{arith}
use Rattle.strip.proofs.fields.Holder.marks.Goals as goal

pub returns-in_err-at : goal.returns-in_err-at
returns-in_err-at c = rw c.from_residual.ensures (marks_stopped _ _ _ _ _ _ c.loop-mark-test.true c.loop-mark.invariant c.in_err-at.ensures)

pub loop-mark-preserved : goal.loop-mark-preserved
loop-mark-preserved c = marks_next _ _ _ _ _ _ _ _ c.loop-mark-test.true c.loop-mark.invariant c.in_ok-at.ensures

pub returns : goal.returns
returns c = marks_end _ _ _ _ _ _ (omega (arith, c.loop-mark-test.false)) c.loop-mark.invariant
