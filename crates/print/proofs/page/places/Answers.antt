-- The limit is the power of ten that has one digit more than were counted.
use mathlib.Core.Path.{refl}
use native.Mathlib.Omega.{arith}
use Rattle.print.proofs.DigitLaws.{places_start, places_step, places_end, places_largest, limit_fits, limit_step}
use Rattle.print.proofs.page.places.Goals as goal

pub loop-limit-init : goal.loop-limit-init
loop-limit-init c = record { some = omega arith; few = omega arith; power = refl; counted = places_start c.args.n }

pub returns-then-count-eq19 : goal.returns-then-count-eq19
returns-then-count-eq19 c =
    let turn = c.loop-limit in
    (places_largest c.args.n turn.count turn.limit c.if-count-eq19.true turn.invariant.counted turn.invariant.power c.loop-limit-test.true (omega arith), omega arith)

pub overflow_mul-limit : goal.overflow_mul-limit
overflow_mul-limit c = omega (arith, limit_fits c.loop-limit.count (omega arith))

pub loop-limit-preserved : goal.loop-limit-preserved
loop-limit-preserved c =
    let turn = c.loop-limit in
    record {
      some = omega arith;
      few = omega arith;
      power = limit_step turn.count turn.limit turn.invariant.power;
      counted = places_step c.args.n turn.count turn.invariant.some turn.invariant.counted (omega arith);
    }

pub returns : goal.returns
returns c =
    let end = c.loop-limit in
    (places_end c.args.n end.count end.invariant.some end.invariant.counted (omega arith), omega arith)
