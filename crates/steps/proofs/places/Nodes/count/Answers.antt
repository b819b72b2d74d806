use Rattle.std.proofs.Common.{arith}
use Rattle.steps.proofs.RunLaws.{count_start, count_turn, count_next, count_end, expr_placed}
use Rattle.steps.proofs.places.Nodes.count.Goals as goal

pub loop-i-init : goal.loop-i-init
loop-i-init c = count_start _ _ _ _ c.requires.accepted c.requires.at_le_end

pub end_of-i-requires : goal.end_of-i-requires
end_of-i-requires c = omega (arith, (expr_placed _ _ _ _ (count_turn c.loop-i.invariant c.loop-i-test.true).reads).0, c.requires.at_le_end)

pub overflow_add-n : goal.overflow_add-n
overflow_add-n c = omega (arith, c.loop-i.invariant.few, c.loop-i-test.true, c.ranges)

pub loop-i-smaller : goal.loop-i-smaller
loop-i-smaller c = omega (arith, c.end_of-i.ensures, c.loop-i-test.true)

pub loop-i-preserved : goal.loop-i-preserved
loop-i-preserved c = count_next c.loop-i.invariant c.loop-i-test.true _ c.end_of-i.ensures

pub returns : goal.returns
returns c = count_end c.loop-i.invariant c.loop-i-test.false
