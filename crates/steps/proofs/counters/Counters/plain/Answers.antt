use Rattle.steps.proofs.StepLaws.{emit_did, plain_is}
use Rattle.steps.proofs.counters.Counters.plain.Goals as goal

pub returns : goal.returns
returns g c = emit_did _ c.emit.ensures (rw c.new.ensures (plain_is _ _ _ _ _ _ _ (rw c.tag_byte.ensures at c.row_of-row.ensures) c.masked.ensures c.masked-2.ensures))
