-- A copy, byte by byte.
use mathlib.Core.Path.{◌≡◌}
use lib.Seq.{paste}
use Rattle.resolve.proofs.mapping.copy_listing.Given as goal

abbrev pub invariant-loop-k : goal.invariant-loop-k
invariant-loop-k l = l.out ≡ paste l.initial.out 0 l.listing l.k
