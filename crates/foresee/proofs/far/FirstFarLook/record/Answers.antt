use Rattle.foresee.proofs.FarLaws.{looks_now, looks_on}
use Rattle.foresee.proofs.far.FirstFarLook.record.Goals as goal

pub returns-then-is_none : goal.returns-then-is_none
returns-then-is_none c = looks_now _ _ _ _ c.if-is_none.ensures c.far_of-self.ensures

pub returns-else-is_none : goal.returns-else-is_none
returns-else-is_none c = looks_on _ _ _ c.if-is_none.ensures
