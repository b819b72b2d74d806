use Rattle.definitions.specs.Code.{unmarked}
use Rattle.steps.proofs.counters.Counters.add_label.Goals as goal

pub returns : goal.returns
unfolding unmarked
returns c = ((cc), c.put_mark.ensures)
