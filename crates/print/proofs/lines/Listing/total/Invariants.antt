-- The sum so far is the total of the records so far.
use Prim.Native.Nat.{◌*◌, ◌≤◌}
use Rattle.print.proofs.LineLaws.{Totals}
use Rattle.print.proofs.lines.Listing.total.Given as goal

abbrev pub invariant-loop-n : goal.invariant-loop-n
invariant-loop-n l = record { sum : Totals l.sum l.n l.self.bytes.now; few : l.sum ≤ 17 * l.n }
