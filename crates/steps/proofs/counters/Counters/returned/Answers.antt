use Rattle.definitions.specs.Lower.{lower_return_nothing}
use Rattle.steps.proofs.StepLaws.{emitted_both}
use Rattle.steps.proofs.counters.Counters.returned.Goals as goal

pub returns : goal.returns
unfolding lower_return_nothing
returns g c = emitted_both c.plain.ensures c.plain-2.ensures
