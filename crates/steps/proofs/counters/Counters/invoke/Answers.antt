use Rattle.steps.proofs.StepLaws.{emit_did}
use Rattle.steps.proofs.counters.Counters.invoke.Goals as goal

pub returns : goal.returns
returns g c = emit_did _ c.emit.ensures (rw c.new.ensures)
