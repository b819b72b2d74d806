-- A function's measure is eight times the depth that is left, and its place among those of one depth. Assumes nothing.
use Prim.Native.Nat.{◌+◌, ◌-◌, ◌*◌}
use Rattle.scan.specs.Scanned.{number_of}
use Rattle.scan.proofs.StmtLoops.{Stmts, Arms, Cased}
use Rattle.scan.proofs.fields.Holder.+stmts.Given as goal

abbrev pub decreases-stmt : goal.decreases-stmt
decreases-stmt l = 8 * l.depth

abbrev pub decreases-block : goal.decreases-block
decreases-block l = 8 * l.depth + 1

abbrev pub decreases-arms : goal.decreases-arms
decreases-arms l = 8 * l.depth + 2

abbrev pub decreases-cases : goal.decreases-cases
decreases-cases l = 8 * l.depth + 2

abbrev pub decreases-while_loop : goal.decreases-while_loop
decreases-while_loop l = 8 * l.depth + 2

abbrev pub decreases-branches : goal.decreases-branches
decreases-branches l = 8 * l.depth + 3

abbrev pub decreases-switch : goal.decreases-switch
decreases-switch l = 8 * l.depth + 3

abbrev pub decreases-stmt_kind : goal.decreases-stmt_kind
decreases-stmt_kind l = 8 * l.depth + 4

abbrev pub invariant-block-loop-next : goal.invariant-block-loop-next
invariant-block-loop-next l = Stmts l.depth l.self.unit.now l.block.1.0 (l.at + 4) l.next l.around.returns (number_of l.around.inside) l.initial.left l.left

abbrev pub decreases-block-loop-next : goal.decreases-block-loop-next
decreases-block-loop-next l = l.block.1.0 - l.next

abbrev pub invariant-arms-loop-next : goal.invariant-arms-loop-next
invariant-arms-loop-next l = Arms l.depth l.self.unit.now l.run.1.0 (l.at + 4) l.next l.around.returns (number_of l.around.inside) l.initial.left l.left

abbrev pub decreases-arms-loop-next : goal.decreases-arms-loop-next
decreases-arms-loop-next l = l.run.1.0 - l.next

abbrev pub invariant-cases-loop-next : goal.invariant-cases-loop-next
invariant-cases-loop-next l = Cased l.depth l.self.unit.now l.run.1.0 (l.at + 4) l.next l.around.returns (number_of l.around.inside) l.n l.groups l.initial.left l.left

abbrev pub decreases-cases-loop-next : goal.decreases-cases-loop-next
decreases-cases-loop-next l = l.run.1.0 - l.next
