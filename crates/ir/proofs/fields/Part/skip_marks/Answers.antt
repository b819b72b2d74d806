use Rattle.std.proofs.Common.{◌∙◌}
use Rattle.ir.proofs.Laws.{more_marks}
use Rattle.ir.proofs.fields.Part.skip_marks.Goals as goal

pub loop-mark-preserved : goal.loop-mark-preserved
loop-mark-preserved c = c.loop-mark.invariant ∙ more_marks _ _ _ _ _ _ _ c.loop-mark-test.true c.in_ok-next.ensures
