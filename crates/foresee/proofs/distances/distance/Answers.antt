use Rattle.std.proofs.Common.{arith}
use Rattle.std.proofs.lemmas.Int.{ints}
use Rattle.foresee.proofs.LookLaws.{carried, plain}
use Rattle.foresee.proofs.distances.distance.Goals as goal

pub returns-then-carries : goal.returns-then-carries
returns-then-carries c = carried _ _ _ _ _ _ c.if-carries.true c.mark_of.ensures (omega (arith, ints, c.from.ensures, c.from-then-carries.ensures))

pub returns : goal.returns
returns c = plain _ _ _ _ c.if-carries.false
