-- After i turns the value is the number in i bytes, and fits them.
use Rattle.instr.proofs.NumberLaws.{grown, word, number_start, number_step}
use Prim.Native.Nat.{◌+◌, ◌<◌}
use mathlib.Core.Path.{refl}
use native.Mathlib.Omega.{arith}
use Rattle.instr.proofs.numbers.number_inside.Given.{Over}
use Rattle.instr.proofs.numbers.number_inside.Goals as goal

pub loop-i-init : goal.loop-i-init
loop-i-init g c = (number_start _ _, omega arith)

pub overflow_mul-v : goal.overflow_mul-v
overflow_mul-v g c = record { fits = omega (arith, grown c.loop-i.i c.loop-i.v 0 c.loop-i.invariant.1 (omega arith), word c.loop-i.i (omega arith)) }

-- a byte of the slice
small : (g : Over) (c : goal.After-from g) → c.from.result < 256
small g c = let b = c.type_inv.s (c.args.at + c.loop-i.i) in rw c.from.ensures b.fits

pub overflow_add-v : goal.overflow_add-v
overflow_add-v g c = record { fits = omega (arith, grown c.loop-i.i c.loop-i.v c.from.result c.loop-i.invariant.1 (small g c), word c.loop-i.i (omega arith)) }

pub loop-i-preserved : goal.loop-i-preserved
loop-i-preserved g c = (number_step _ _ _ _ _ refl c.loop-i.invariant.0 c.from.ensures, grown c.loop-i.i c.loop-i.v c.from.result c.loop-i.invariant.1 (small g c))
