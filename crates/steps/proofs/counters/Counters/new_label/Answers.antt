use Rattle.steps.proofs.StepLaws.{new_made, new_refused}
use Rattle.steps.proofs.counters.Counters.new_label.Goals as goal

pub returns-then-self-ge-LABELS : goal.returns-then-self-ge-LABELS
returns-then-self-ge-LABELS c = rw c.at.ensures (new_refused _ _ _ c.if-self-ge-LABELS.true)

pub returns : goal.returns
returns c = new_made _ _ _ _ _ c.if-self-ge-LABELS.false c.add_label.ensures.0 c.add_label.ensures.1
