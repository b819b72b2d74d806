-- What is left to check decides as all records do.
use Prim.Native.Nat.{◌+◌, ◌-◌, ◌*◌}
use mathlib.Core.Path.{◌≡◌}
use Rattle.definitions.specs.Instr.{record_length}
use Rattle.definitions.specs.Listing.{front_length, records_from, all_good}
use Rattle.instr.proofs.listings.check_records.Given as goal

abbrev pub invariant-loop-n : goal.invariant-loop-n
invariant-loop-n l = all_good (records_from l.count l.s front_length) ≡ all_good (records_from (l.count - l.n) l.s (front_length + record_length * l.n))
