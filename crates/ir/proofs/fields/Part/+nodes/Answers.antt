use Rattle.std.proofs.Common.{arith, ◌≡◌, ap, sym, ◌∙◌}
use Rattle.ir.specs.Kinds.{stmt_code}
use Rattle.ir.proofs.Laws.{last}
use Rattle.definitions.specs.Answer.{bind}
use Rattle.definitions.specs.Read.{stmt_body, stmt_kinds, pick, as_block, ◌>>=◌}
use Rattle.ir.proofs.NodeLaws.{node_steps, statement, expression, node_item, item_moves, fill_none, fill_more, fill_no, fill_end}
use Rattle.ir.proofs.fields.Part.+nodes.Goals as goal
use Rattle.ir.proofs.fields.Part.+nodes.Goals.{node-in-Statement+in_ok-last-in-Statement, node-in-Expression+in_ok-last-in-Expression}

pub node-returns : goal.node-returns
unfolding bind
node-returns t c = elim c.match-class.branch [
  | node-in-Statement+in_ok-last-in-Statement w ↦ grind (arith, node_steps, statement)
  | node-in-Expression+in_ok-last-in-Expression w ↦ grind (arith, node_steps, expression)
]

pub stmt_kind-returns-in-Block : goal.stmt_kind-returns-in-Block
unfolding stmt_body stmt_kinds pick as_block ◌>>=◌
stmt_kind-returns-in-Block t c =
    let k : 2 ≡ c.args.code = ap stmt_code (sym c.in-Block.is) ∙ c.in-Ok.ensures in
    rw (← k) (last _ _ _ c.block.ensures)

pub item-returns-in-Node : goal.item-returns-in-Node
item-returns-in-Node t c = node_item c.args.item _ _ _ _ _ _ c.in-Node.is c.node.ensures

pub fill-loop-next-init : goal.fill-loop-next-init
fill-loop-next-init t c = fill_none c.args.item _ _ _ _

pub fill-loop-next-smaller : goal.fill-loop-next-smaller
fill-loop-next-smaller t c = omega (arith, item_moves c.args.item _ _ _ c.args.first _ _ c.in_ok-next.ensures)

pub fill-loop-next-preserved : goal.fill-loop-next-preserved
fill-loop-next-preserved t c = fill_more c.args.item _ _ _ _ _ _ _ c.loop-next.invariant c.loop-next-test.true c.in_ok-next.ensures

pub fill-returns-in_err-next : goal.fill-returns-in_err-next
fill-returns-in_err-next t c = grind (arith, fill_no c.args.item c.args.depth c.args.self.now.unit.now c.args.self.now.end c.args.first _ _ _ _ _ c.loop-next.invariant c.loop-next-test.true c.in_err-next.ensures)

pub fill-returns : goal.fill-returns
fill-returns t c = fill_end c.args.item _ _ _ _ _ _ c.loop-next.invariant c.loop-next-test.false
