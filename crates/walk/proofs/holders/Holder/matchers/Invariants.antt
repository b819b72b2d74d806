use Rattle.std.specs.Prelude as std
use Rattle.walk.proofs.CaseLaws.{HeadsRest}
use Rattle.steps.specs.Walked.{code_of, arms_from}
use Rattle.definitions.specs.Lower.{lower_matchers}
use Rattle.definitions.specs.Tree.{cases_of}
use Prim.Native.Nat.{◌-◌}
use Rattle.walk.proofs.holders.Holder.matchers.Given as goal

abbrev pub invariant-loop-i : goal.invariant-loop-i
invariant-loop-i g l = HeadsRest g.S.Sink.emitted l.self.nodes.depth l.self.nodes.unit.now l.self.nodes.end l.site (code_of (λ cs. lower_matchers (cases_of cs) l.site l.first l.label) (arms_from l.self.nodes.depth l.self.nodes.unit.now l.self.nodes.end l.at)) (std.Ok l.initial.c) l.initial.sink l.initial.marks l.next l.body l.i (std.Ok l.c) l.sink l.marks

abbrev pub decreases-loop-i : goal.decreases-loop-i
decreases-loop-i g l = l.self.nodes.end - l.i
