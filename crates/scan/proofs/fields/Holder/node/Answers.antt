use native.Mathlib.Omega.{arith}
use Rattle.scan.proofs.FieldLaws.{head_in}
use Rattle.scan.proofs.fields.Holder.node.Goals as goal

pub returns : goal.returns
returns c = let f = c.in_ok-end.ensures in (head_in _ _ _ _ f.0 c.if-end-at.false, omega (arith, c.if-depth-eq0.false), c.if-end-at.false, f.2)
