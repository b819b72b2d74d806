use Rattle.std.proofs.Common.{arith, refl}
use Rattle.steps.proofs.RunLaws.{expr_placed}
use Rattle.steps.proofs.FlagLaws.{bits_start, bits_next, bits_end, arg_turn}
use Rattle.steps.proofs.places.Nodes.flags_of.Goals as goal

pub loop-i-init : goal.loop-i-init
loop-i-init c = bits_start _ _ _ _ c.requires.accepted c.requires.at_le_end

pub end_of-i-requires : goal.end_of-i-requires
end_of-i-requires c = omega (arith, (expr_placed _ _ _ _ (arg_turn _ _ _ _ c.loop-i.invariant.acc c.loop-i-test.true).reads).0, c.requires.at_le_end)

pub loop-i-smaller : goal.loop-i-smaller
loop-i-smaller c = omega (arith, c.end_of-i.ensures, c.loop-i-test.true)

pub loop-i-preserved : goal.loop-i-preserved
loop-i-preserved c = bits_next c.loop-i.invariant c.loop-i-test.true _ _ _ _ _ c.is_prvalue_ref.ensures c.bit_if-flags.ensures refl refl c.end_of-i.ensures

pub returns : goal.returns
returns c = bits_end c.loop-i.invariant c.loop-i-test.false
