use Rattle.steps.proofs.StepLaws.{made_set, made_not}
use Rattle.steps.proofs.labels.put_made.Goals as goal

pub returns-then-l-made : goal.returns-then-l-made
returns-then-l-made c = made_set _ _ _ _ c.if-l-made.true c.put_mark.ensures

pub returns-else-l-made : goal.returns-else-l-made
returns-else-l-made c = made_not _ _ _ _ c.if-l-made.false
