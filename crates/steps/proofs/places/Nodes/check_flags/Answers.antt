use Rattle.std.proofs.Common.{arith, refl}
use Rattle.steps.specs.declared.counters.Counters.{Counters}
use Rattle.steps.proofs.RunLaws.{expr_placed}
use Rattle.steps.proofs.StepLaws.{left_exit, required}
use Rattle.steps.proofs.FlagLaws.{flags_next, flags_end, flags_stop, arg_turn}
use Rattle.steps.proofs.places.Nodes.check_flags.Goals as goal

-- the invariant of some counters
abbrev some : Counters
some = record { offset = 0; labels = 0; count = 0 }

pub overflow_add-k : goal.overflow_add-k
overflow_add-k c = let r = c.loop-i.invariant some in omega (arith, r.few, r.to, c.ranges)

pub end_of-i-requires : goal.end_of-i-requires
end_of-i-requires c = omega (arith, (expr_placed _ _ _ _ (arg_turn _ _ _ _ (c.loop-i.invariant some).acc c.loop-i-test.true).reads).0, c.requires.at_le_end)

pub overflow_add-flag : goal.overflow_add-flag
overflow_add-flag c = let r = c.loop-i.invariant some in omega (arith, r.few, r.to, c.ranges)

pub loop-i-preserved : goal.loop-i-preserved
loop-i-preserved c = λ k. flags_next (c.loop-i.invariant k) c.loop-i-test.true _ _ _ _ c.is_prvalue_ref.ensures c.flag_fits-fits.ensures (required _ _ _ _ _ _ refl c.in_ok-require.ensures k) c.end_of-i.ensures

pub returns-in_err-require : goal.returns-in_err-require
returns-in_err-require c = λ k. left_exit _ _ c.from_residual.ensures.1 k (flags_stop (flags_next (c.loop-i.invariant k) c.loop-i-test.true _ _ _ _ c.is_prvalue_ref.ensures c.flag_fits-fits.ensures (required _ _ _ _ _ _ refl c.in_err-require.ensures k) refl))

pub returns : goal.returns
returns c = λ k. flags_end (c.loop-i.invariant k) c.loop-i-test.false
