use Rattle.steps.proofs.StepLaws.{weak_none, weak_some}
use Rattle.steps.proofs.counters.Counters.weak_to_ref.Goals as goal

pub returns-then-weak-ne0 : goal.returns-then-weak-ne0
returns-then-weak-ne0 g c = weak_some _ _ c.if-weak-ne0.true c.plain.ensures

pub returns-else-weak-ne0 : goal.returns-else-weak-ne0
returns-else-weak-ne0 g c = weak_none _ _ _ _ c.if-weak-ne0.false
