use Rattle.walk.proofs.MidLaws.{ArmsCount}
use Prim.Native.Nat.{◌-◌}
use Rattle.walk.proofs.holders.Holder.count_arms.Given as goal

abbrev pub invariant-loop-i : goal.invariant-loop-i
invariant-loop-i l = ArmsCount l.self.nodes.depth l.self.nodes.unit.now l.self.nodes.end l.at l.i l.n

abbrev pub decreases-loop-i : goal.decreases-loop-i
decreases-loop-i l = l.self.nodes.end - l.i
