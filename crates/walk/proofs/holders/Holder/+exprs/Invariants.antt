use Rattle.std.specs.Prelude as std
use Prim.Native.Nat.{◌+◌, ◌-◌, ◌*◌}
use Rattle.definitions.specs.Read.{parse_expr}
use Rattle.ir.specs.declared.Class.TheVariants.{Expression}
use Rattle.steps.proofs.RunLaws.{ArgsRest, Rest}
use Rattle.steps.specs.Walked.{args_code, fill_code, lower_all, marks_from, span_of}
use Rattle.walk.proofs.holders.Holder.+exprs.Given as goal

abbrev pub decreases-arg : goal.decreases-arg
decreases-arg g l = 20 * l.self.now.nodes.depth + 4

abbrev pub decreases-args : goal.decreases-args
decreases-args g l = 20 * l.self.now.nodes.depth + 5

abbrev pub decreases-labelled : goal.decreases-labelled
decreases-labelled g l = 20 * l.self.now.nodes.depth + 1

abbrev pub decreases-closure : goal.decreases-closure
decreases-closure g l = 20 * l.self.now.nodes.depth + 0

abbrev pub decreases-call : goal.decreases-call
decreases-call g l = 20 * l.self.now.nodes.depth + 6

abbrev pub decreases-exprs : goal.decreases-exprs
decreases-exprs g l = 20 * l.self.now.nodes.depth + 2

abbrev pub decreases-field : goal.decreases-field
decreases-field g l = 20 * l.self.now.nodes.depth + 0

abbrev pub decreases-instance : goal.decreases-instance
decreases-instance g l = 20 * l.self.now.nodes.depth + 0

abbrev pub decreases-node : goal.decreases-node
decreases-node g l = 20 * l.self.now.nodes.depth + 3

abbrev pub decreases-ternary : goal.decreases-ternary
decreases-ternary g l = 20 * l.self.now.nodes.depth + 0

abbrev pub invariant-args-loop-i : goal.invariant-args-loop-i
invariant-args-loop-i g l = ArgsRest g.S.Sink.emitted l.self.nodes.depth l.self.nodes.unit.now l.self.nodes.end l.site (args_code l.self.nodes.depth l.self.nodes.unit.now l.self.nodes.end l.at l.site (marks_from l.self.nodes.unit.now l.params l.n)) (std.Ok l.initial.c) l.initial.sink l.initial.marks l.p l.left l.i (std.Ok l.c) l.sink l.marks

abbrev pub decreases-args-loop-i : goal.decreases-args-loop-i
decreases-args-loop-i g l = l.self.nodes.end - l.i

abbrev pub invariant-exprs-loop-item : goal.invariant-exprs-loop-item
invariant-exprs-loop-item g l = Rest g.S.Sink.emitted (parse_expr l.self.nodes.depth l.self.nodes.unit.now) (lower_all Expression (span_of l.self.span)) (fill_code Expression l.self.nodes.depth l.self.nodes.unit.now l.self.nodes.end l.at (span_of l.self.span)) l.self.nodes.end (std.Ok l.initial.c) l.initial.sink l.initial.marks l.item (std.Ok l.c) l.sink l.marks

abbrev pub decreases-exprs-loop-item : goal.decreases-exprs-loop-item
decreases-exprs-loop-item g l = l.self.nodes.end - l.item
