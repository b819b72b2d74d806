-- The limit is the power of ten that has one digit more than were counted.
use Prim.Native.Nat.{◌-◌, ◌^◌, ◌≤◌, ◌<◌}
use mathlib.Core.Path.{◌≡◌}
use Rattle.print.proofs.DigitLaws.{Counted}
use Rattle.print.proofs.page.places.Given as goal

abbrev pub invariant-loop-limit : goal.invariant-loop-limit
invariant-loop-limit l = record { some : 0 < l.count; few : l.count ≤ 19; power : l.limit ≡ 10 ^ l.count; counted : Counted l.n l.count }

abbrev pub decreases-loop-limit : goal.decreases-loop-limit
decreases-loop-limit l = 20 - l.count
