use Rattle.steps.proofs.StepLaws.{put_in, put_out}
use Rattle.steps.proofs.records.put_record.Goals as goal

pub returns-then-from-out : goal.returns-then-from-out
returns-then-from-out c = put_in _ _ _ _ c.if-from-out.true c.write_record.ensures.1

pub returns-else-from-out : goal.returns-else-from-out
returns-else-from-out c = put_out _ _ _ c.if-from-out.false
