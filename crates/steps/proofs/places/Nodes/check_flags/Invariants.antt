use Rattle.std.proofs.Common.{◌-◌}
use Rattle.std.specs.Prelude as std
use Rattle.definitions.specs.Lower.{require_flags}
use Rattle.definitions.specs.Tree.{exprs_of}
use Rattle.steps.specs.declared.counters.Counters.{Counters}
use Rattle.steps.specs.Walked.{list_of, exprs_from}
use Rattle.steps.proofs.FlagLaws.{FlagsRest}
use Rattle.steps.proofs.places.Nodes.check_flags.Given as goal

abbrev pub invariant-loop-i : goal.invariant-loop-i
invariant-loop-i l = (c : Counters) → FlagsRest l.self.depth l.self.unit.now l.self.end (require_flags (exprs_of (list_of (exprs_from l.self.depth l.self.unit.now l.self.end l.at))) 0) (std.Ok c) l.i l.k (std.Ok c)

abbrev pub decreases-loop-i : goal.decreases-loop-i
decreases-loop-i l = l.self.end - l.i
