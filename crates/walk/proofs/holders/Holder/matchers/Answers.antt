use Rattle.walk.proofs.CaseLaws.{heads_start, heads_arm, heads_next, heads_end}
use Rattle.steps.proofs.RunLaws.{goes_stops}
use Rattle.steps.proofs.StepLaws.{emit_stays, exit, mark_did, numbered, stays}
use mathlib.Core.Path.{refl}
use native.Mathlib.Omega.{arith}
use Rattle.walk.proofs.holders.Holder.matchers.Goals as goal

pub loop-i-init : goal.loop-i-init
loop-i-init g c = heads_start _ _ _ _ _ _ _ _ _ _ c.requires.at_le_end.0 c.requires.at_le_end.1 c.requires.accepted

pub end_of-second-requires : goal.end_of-second-requires
end_of-second-requires g c = let k = heads_arm c.loop-i.invariant c.loop-i-test.true _ _ refl refl in omega (arith, k.one, k.fits, k.tail, c.args.self.now.nodes.inside)

pub returns-in_err-next : goal.returns-in_err-next
returns-in_err-next g c = exit _ _ c.from_residual.ensures.1 _ (goes_stops (heads_next c.loop-i.invariant c.loop-i-test.true _ _ _ _ _ _ _ _ _ _ _ _ c.end_of-second.ensures refl (mark_did _ _ _ _ c.mark_label.ensures c.mark_label.auto.marks) refl c.in_err-next.ensures.did (emit_stays _ _ _ _ refl) (stays _ _ _ _ _ refl)).rest.goes)

pub node-requires : goal.node-requires
node-requires g c = let k = heads_arm c.loop-i.invariant c.loop-i-test.true _ _ c.end_of-second.ensures refl in record { accepted = k.one.reads }

pub returns-in_err-node : goal.returns-in_err-node
returns-in_err-node g c = exit _ _ c.from_residual-in_err-node.ensures.1 _ (goes_stops (heads_next c.loop-i.invariant c.loop-i-test.true _ _ _ _ _ _ _ _ _ _ _ _ c.end_of-second.ensures refl (mark_did _ _ _ _ c.mark_label.ensures c.mark_label.auto.marks) (numbered _ c.in_ok-next.ensures.number) c.in_ok-next.ensures.did c.jumps.ensures c.in_err-node.ensures).rest.goes)

pub end_of-i-requires : goal.end_of-i-requires
end_of-i-requires g c = let k = heads_arm c.loop-i.invariant c.loop-i-test.true _ _ c.end_of-second.ensures refl in omega (arith, k.fits, k.tail, c.args.self.now.nodes.inside)

pub loop-i-preserved : goal.loop-i-preserved
loop-i-preserved g c = heads_next c.loop-i.invariant c.loop-i-test.true _ _ _ _ _ _ _ _ _ _ _ _ c.end_of-second.ensures c.end_of-i.ensures (mark_did _ _ _ _ c.mark_label.ensures c.mark_label.auto.marks) (numbered _ c.in_ok-next.ensures.number) c.in_ok-next.ensures.did c.jumps.ensures c.in_ok-node.ensures

pub returns : goal.returns
returns g c = heads_end c.loop-i.invariant c.loop-i-test.false (mark_did _ _ _ _ c.mark_label-2.ensures c.mark_label-2.auto.marks)
