-- A function's measure is ten times the depth that is left, and its place among those of one depth. Assumes nothing.
use Prim.Native.Nat.{◌+◌, ◌-◌, ◌*◌}
use Rattle.scan.proofs.RunLaws.{RunSoFar, ArgsSoFar}
use Rattle.scan.proofs.fields.Holder.+exprs.Given as goal

abbrev pub decreases-expr : goal.decreases-expr
decreases-expr l = 10 * l.depth

abbrev pub decreases-run : goal.decreases-run
decreases-run l = 10 * l.depth + 1

abbrev pub decreases-arguments : goal.decreases-arguments
decreases-arguments l = 10 * l.depth + 1

abbrev pub decreases-call : goal.decreases-call
decreases-call l = 10 * l.depth + 2

abbrev pub decreases-field : goal.decreases-field
decreases-field l = 10 * l.depth + 3

abbrev pub decreases-construct : goal.decreases-construct
decreases-construct l = 10 * l.depth + 3

abbrev pub decreases-intrinsic_call : goal.decreases-intrinsic_call
decreases-intrinsic_call l = 10 * l.depth + 3

abbrev pub decreases-instance_call : goal.decreases-instance_call
decreases-instance_call l = 10 * l.depth + 3

abbrev pub decreases-closure_call : goal.decreases-closure_call
decreases-closure_call l = 10 * l.depth + 3

abbrev pub decreases-late_kind : goal.decreases-late_kind
decreases-late_kind l = 10 * l.depth + 4

abbrev pub decreases-expr_kind : goal.decreases-expr_kind
decreases-expr_kind l = 10 * l.depth + 5

abbrev pub invariant-arguments-loop-next : goal.invariant-arguments-loop-next
invariant-arguments-loop-next l = ArgsSoFar l.depth l.self.unit.now l.self.end l.at l.params.marks l.params.count l.next l.k l.initial.left l.left

abbrev pub decreases-arguments-loop-next : goal.decreases-arguments-loop-next
decreases-arguments-loop-next l = l.self.end - l.next

abbrev pub invariant-run-loop-next : goal.invariant-run-loop-next
invariant-run-loop-next l = RunSoFar l.depth l.self.unit.now l.run.1.0 (l.at + 4) l.initial.items l.next l.items l.initial.left l.left

abbrev pub decreases-run-loop-next : goal.decreases-run-loop-next
decreases-run-loop-next l = l.run.1.0 - l.next
