-- After k turns the last k bytes of the number stand in their place.
use mathlib.Core.Path.{refl, sym}
use lib.ListN.{length-set}
use native.Mathlib.Nat.{div-one}
use Rattle.instr.proofs.NumberLaws.{put_start, put_step, rest_step}
use native.Mathlib.Omega.{arith}
use Rattle.instr.proofs.numbers.put_number.Goals as goal

pub loop-k-init : goal.loop-k-init
loop-k-init c = record { same_length = refl; left = sym (div-one c.args.v); put = put_start c.args.part.now c.args.at c.args.w c.args.v }

pub loop-k-preserved : goal.loop-k-preserved
loop-k-preserved c = let a = c.args in let i = c.loop-k.invariant in record {
  same_length = simp length-set i.same_length;
  left = rest_step a.v c.loop-k.k c.loop-k.rest i.left;
  put = rw i.put (put_step a.part.now a.at a.w a.v c.loop-k.k c.loop-k.rest (omega arith) c.requires i.left);
}
