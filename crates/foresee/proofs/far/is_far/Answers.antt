use Rattle.std.proofs.Common.{rules, w64}
use mir.Val.{SFits}
use Rattle.std.proofs.lemmas.Int.{to_z-of_z}
use Rattle.foresee.proofs.FarLaws.{far_back, far_ahead, far_none}
use Rattle.foresee.proofs.far.is_far.Goals as goal

pub returns-then-units-lt-FARTHEST_BACK : goal.returns-then-units-lt-FARTHEST_BACK
returns-then-units-lt-FARTHEST_BACK c = let f : SFits w64 c.in-Some.units = search rules in far_back _ _ _ c.in-Some.is (to_z-of_z w64 c.in-Some.units f) c.if-units-lt-FARTHEST_BACK.true

pub returns-else-units-lt-FARTHEST_BACK : goal.returns-else-units-lt-FARTHEST_BACK
returns-else-units-lt-FARTHEST_BACK c = let f : SFits w64 c.in-Some.units = search rules in far_ahead _ _ _ c.in-Some.is (to_z-of_z w64 c.in-Some.units f) c.if-units-lt-FARTHEST_BACK.false

pub returns-in-None : goal.returns-in-None
returns-in-None c = far_none _ c.in-None.is
