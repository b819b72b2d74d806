use Rattle.walk.proofs.CaseLaws.{elems_start, elems_turn, elems_next, elems_end}
use Rattle.steps.proofs.RunLaws.{expr_placed, goes_stops}
use Rattle.steps.proofs.StepLaws.{exit}
use mathlib.Core.Path.{refl}
use native.Mathlib.Omega.{arith}
use Rattle.walk.proofs.holders.Holder.elements.Goals as goal

pub loop-i-init : goal.loop-i-init
loop-i-init g c = elems_start _ _ _ _ _ _ _ _ _ _ c.requires.at_le_end c.requires.accepted

pub node-requires : goal.node-requires
node-requires g c = let k = elems_turn c.loop-i.invariant c.loop-i-test.true in record { accepted = (k.item, k.next, k.reads) }

pub returns-in_err-node : goal.returns-in_err-node
returns-in_err-node g c = exit _ _ c.from_residual.ensures.1 _ (goes_stops (elems_next c.loop-i.invariant c.loop-i-test.true _ _ _ _ _ _ refl c.element.ensures c.in_err-node.ensures).rest.goes)

pub end_of-i-requires : goal.end_of-i-requires
end_of-i-requires g c = let k = elems_turn c.loop-i.invariant c.loop-i-test.true in omega (arith, (expr_placed _ _ _ _ k.reads).0, c.args.self.now.nodes.inside)

pub loop-i-preserved : goal.loop-i-preserved
loop-i-preserved g c = elems_next c.loop-i.invariant c.loop-i-test.true _ _ _ _ _ _ c.end_of-i.ensures c.element.ensures c.in_ok-node.ensures

pub returns : goal.returns
returns g c = elems_end c.loop-i.invariant c.loop-i-test.false
