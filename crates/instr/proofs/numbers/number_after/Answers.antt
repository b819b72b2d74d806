-- After i turns the value is the number in i bytes, and fits them.
use Rattle.instr.proofs.NumberLaws.{grown, word, number_start, number_step}
use mathlib.Core.Path.{◌∙◌}
use native.Mathlib.Omega.{arith}
use Rattle.instr.proofs.numbers.number_after.Goals as goal

pub loop-i-init : goal.loop-i-init
loop-i-init c = (number_start _ _, omega arith)

pub overflow_mul-v : goal.overflow_mul-v
overflow_mul-v c = record { fits = omega (arith, grown c.loop-i.i c.loop-i.v 0 c.loop-i.invariant.1 (omega arith), word c.loop-i.i (omega arith)) }

pub overflow_add-v : goal.overflow_add-v
overflow_add-v c = record { fits = omega (arith, grown c.loop-i.i c.loop-i.v c.from.result c.loop-i.invariant.1 (omega (arith, c.from.ensures)), word c.loop-i.i (omega arith)) }

pub loop-i-preserved : goal.loop-i-preserved
loop-i-preserved c = (
  number_step _ _ _ _ _ (omega arith) c.loop-i.invariant.0 (c.from.ensures ∙ c.byte_after.ensures),
  grown c.loop-i.i c.loop-i.v c.from.result c.loop-i.invariant.1 (omega (arith, c.from.ensures)),
)
