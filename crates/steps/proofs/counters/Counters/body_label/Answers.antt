use Rattle.steps.proofs.StepLaws.{group_opened, group_open}
use Rattle.steps.proofs.counters.Counters.body_label.Goals as goal

pub returns-in-Some : goal.returns-in-Some
returns-in-Some c = group_open _ _ _ _ _ c.in-Some.is

pub returns-in-None : goal.returns-in-None
returns-in-None c = group_opened _ _ _ _ _ _ _ c.in-None.is c.new_label.ensures
