-- A function's measure is twenty times the depth that is left, and its place among those of one depth. Assumes nothing.
use Rattle.std.proofs.Common.{◌+◌, ◌*◌, ◌-◌}
use Rattle.ir.specs.Class.{item_of}
use Rattle.ir.proofs.NodeLaws.{Filling, rank}
use Rattle.ir.proofs.fields.Part.+nodes.Given as goal

abbrev pub decreases-node : goal.decreases-node
decreases-node l = 20 * l.depth

abbrev pub decreases-item : goal.decreases-item
decreases-item l = 20 * l.depth + 6 * rank l.item + 1

abbrev pub decreases-fill : goal.decreases-fill
decreases-fill l = 20 * l.depth + 6 * rank l.item + 2

abbrev pub decreases-list : goal.decreases-list
decreases-list l = 20 * l.depth + 6 * rank l.item + 3

abbrev pub decreases-run : goal.decreases-run
decreases-run l = 20 * l.depth + 6 * rank l.item + 4

abbrev pub decreases-expr : goal.decreases-expr
decreases-expr l = 20 * l.depth + 1

abbrev pub decreases-exprs : goal.decreases-exprs
decreases-exprs l = 20 * l.depth + 5

abbrev pub decreases-block : goal.decreases-block
decreases-block l = 20 * l.depth + 5

abbrev pub decreases-call : goal.decreases-call
decreases-call l = 20 * l.depth + 10

abbrev pub decreases-default : goal.decreases-default
decreases-default l = 20 * l.depth + 10

abbrev pub decreases-expr_kind : goal.decreases-expr_kind
decreases-expr_kind l = 20 * l.depth + 11

abbrev pub decreases-stmt_kind : goal.decreases-stmt_kind
decreases-stmt_kind l = 20 * l.depth + 11

abbrev pub invariant-fill-loop-next : goal.invariant-fill-loop-next
invariant-fill-loop-next l = Filling (item_of l.item l.depth l.self.unit.now) l.self.end l.first l.next l.count

abbrev pub decreases-fill-loop-next : goal.decreases-fill-loop-next
decreases-fill-loop-next l = l.self.end - l.next
