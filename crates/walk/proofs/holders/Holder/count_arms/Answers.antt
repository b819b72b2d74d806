use Rattle.walk.proofs.MidLaws.{arms_count_arm, arms_count_next, arms_count_end}
use mathlib.Core.Path.{refl}
use native.Mathlib.Omega.{arith}
use Rattle.walk.proofs.holders.Holder.count_arms.Goals as goal

pub end_of-second-requires : goal.end_of-second-requires
end_of-second-requires c = let k = arms_count_arm c.loop-i.invariant c.loop-i-test.true _ _ refl refl in omega (arith, k.one, k.fits, k.tail, c.args.self.now.nodes.inside)

pub end_of-i-requires : goal.end_of-i-requires
end_of-i-requires c = let k = arms_count_arm c.loop-i.invariant c.loop-i-test.true _ _ c.end_of-second.ensures refl in omega (arith, k.one, k.fits, k.tail, c.args.self.now.nodes.inside)

pub loop-i-preserved : goal.loop-i-preserved
loop-i-preserved c = arms_count_next c.loop-i.invariant c.loop-i-test.true _ _ c.end_of-second.ensures c.end_of-i.ensures

pub returns : goal.returns
returns c = arms_count_end c.loop-i.invariant c.loop-i-test.false
