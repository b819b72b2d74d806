use Rattle.std.proofs.Common.{rules}
use Rattle.assemble.proofs.LowerLaws.{listed_as}
use Rattle.assemble.proofs.list_unit.Goals as goal

pub returns : goal.returns
returns c = listed_as _ _ _ _ _ _ _ c.walk.ensures (search rules)
