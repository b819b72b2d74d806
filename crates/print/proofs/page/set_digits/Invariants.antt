-- The last digits stand in their places.
use Rattle.print.proofs.DigitLaws.{Placed}
use Rattle.print.proofs.page.set_digits.Given as goal

abbrev pub invariant-loop-k : goal.invariant-loop-k
invariant-loop-k g l = Placed g.row.BASE l.n l.count l.at l.k l.rest l.initial.out l.out
