use Rattle.std.specs.Prelude as std
use Rattle.walk.proofs.CaseLaws.{ElemsRest}
use Rattle.steps.specs.Walked.{code_of, exprs_from}
use Rattle.definitions.specs.Lower.{lower_elements}
use Rattle.definitions.specs.Tree.{exprs_of}
use Prim.Native.Nat.{◌-◌}
use Rattle.walk.proofs.holders.Holder.elements.Given as goal

abbrev pub invariant-loop-i : goal.invariant-loop-i
invariant-loop-i g l = ElemsRest g.S.Sink.emitted l.self.nodes.depth l.self.nodes.unit.now l.self.nodes.end l.site l.local l.typ (code_of (λ xs. lower_elements (exprs_of xs) l.site l.local l.typ 0) (exprs_from l.self.nodes.depth l.self.nodes.unit.now l.self.nodes.end l.at)) (std.Ok l.initial.c) l.initial.sink l.initial.marks l.k l.i (std.Ok l.c) l.sink l.marks

abbrev pub decreases-loop-i : goal.decreases-loop-i
decreases-loop-i g l = l.self.nodes.end - l.i
