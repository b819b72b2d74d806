-- The last digits stand in their places; past the buffer's end there is none.
use native.Mathlib.Omega.{arith}
use Rattle.definitions.specs.Text.{digits}
use Rattle.print.proofs.WriteLaws.{sets_out}
use Rattle.print.proofs.DigitLaws.{none_placed, one_placed, all_placed}
use Rattle.print.proofs.page.set_digits.Goals as goal

pub returns-then-out-at : goal.returns-then-out-at
returns-then-out-at g c = let a = c.args in sets_out (digits g.row.BASE a.count a.n) a.out.now a.at c.if-out-at.true

pub loop-k-init : goal.loop-k-init
loop-k-init g c = let a = c.args in none_placed g.row.BASE a.n a.count a.at a.out.now

pub loop-k-preserved : goal.loop-k-preserved
loop-k-preserved g c = let a = c.args in one_placed g.row.BASE a.n a.count a.at c.loop-k.k c.loop-k.rest a.out.now (omega arith) (omega arith) c.loop-k.invariant c.digit.ensures c.store.ensures

pub returns : goal.returns
returns g c = let a = c.args in all_placed g.row.BASE a.n a.count a.at (omega arith) c.loop-k.invariant
