use Rattle.steps.proofs.HeadLaws.{parts_none, parts_some}
use Rattle.steps.proofs.heads.parts_at.Goals as goal

pub returns-then-n-eq0 : goal.returns-then-n-eq0
returns-then-n-eq0 c = parts_none _ _ _ _ c.parts_from-n.ensures.0 c.if-n-eq0.true

pub returns : goal.returns
returns c = parts_some _ _ _ _ c.parts_from-n.ensures.0 c.if-n-eq0.false
