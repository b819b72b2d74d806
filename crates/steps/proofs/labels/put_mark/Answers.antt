use Rattle.steps.proofs.StepLaws.{set_out}
use Rattle.std.proofs.Common.{sym}
use Rattle.steps.proofs.labels.put_mark.Goals as goal

pub returns-else-l-marks : goal.returns-else-l-marks
returns-else-l-marks c = sym (set_out _ _ _ c.if-l-marks.false)
