use Rattle.std.proofs.Common.{◌-◌}
use Rattle.steps.proofs.RunLaws.{CountRest}
use Rattle.steps.proofs.places.Nodes.count.Given as goal

abbrev pub invariant-loop-i : goal.invariant-loop-i
invariant-loop-i l = CountRest l.self.depth l.self.unit.now l.self.end l.at l.i l.n

abbrev pub decreases-loop-i : goal.decreases-loop-i
decreases-loop-i l = l.self.end - l.i
