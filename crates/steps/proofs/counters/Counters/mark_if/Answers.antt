use Rattle.steps.proofs.StepLaws.{marks_some, marks_none}
use Rattle.steps.proofs.counters.Counters.mark_if.Goals as goal

pub returns-then-here-ne0 : goal.returns-then-here-ne0
returns-then-here-ne0 c = marks_some _ _ _ _ _ c.if-here-ne0.true c.mark_label.ensures c.mark_label.auto.marks

pub returns-else-here-ne0 : goal.returns-else-here-ne0
returns-else-here-ne0 c = marks_none _ _ _ _ c.if-here-ne0.false
