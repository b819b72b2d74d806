use Rattle.std.proofs.Common.{◌-◌}
use Rattle.steps.specs.Walked.{list_of, exprs_from}
use Rattle.definitions.specs.Lower.{flags_of}
use Rattle.definitions.specs.Tree.{exprs_of}
use Rattle.steps.proofs.FlagLaws.{BitsRest}
use Rattle.steps.proofs.places.Nodes.flags_of.Given as goal

abbrev pub invariant-loop-i : goal.invariant-loop-i
invariant-loop-i l = BitsRest l.self.depth l.self.unit.now l.self.end (flags_of (exprs_of (list_of (exprs_from l.self.depth l.self.unit.now l.self.end l.at))) 1) l.i l.bit l.flags

abbrev pub decreases-loop-i : goal.decreases-loop-i
decreases-loop-i l = l.self.end - l.i
