use Rattle.assemble.proofs.LowerLaws.{lowers_accepted, fill_never}
use Rattle.assemble.proofs.fill.Goals as goal

pub list_unit-requires : goal.list_unit-requires
list_unit-requires c = lowers_accepted _ _ _ c.requires

pub returns-in_err-c : goal.returns-in_err-c
returns-in_err-c c = fill_never _ _ _ c.requires _ _ _ c.in_err-c.ensures
