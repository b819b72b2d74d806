use Rattle.definitions.specs.Code.{emits}
use Rattle.steps.specs.Walked.{element_code}
use Rattle.steps.proofs.StepLaws.{emitted_both, none_emitted}
use Rattle.steps.proofs.counters.Counters.element.Goals as goal

pub returns : goal.returns
unfolding element_code emits
returns g c = emitted_both c.plain.ensures (emitted_both c.plain-2.ensures (emitted_both c.plain-3.ensures (emitted_both c.plain-4.ensures none_emitted)))
