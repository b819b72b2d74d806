-- What the answers of `front_good` and `read_unit` say of a unit. Assumes nothing.
use Rattle.std.proofs.Common.{◌≡◌, ℕ, Bool, true, ◌≤◌, List, length, arith}
use Rattle.definitions.specs.Read.{front_good}

-- a good front is there
pub front_room : (s : List ℕ) (b : Bool) → b ≡ front_good s → b ≡ true → 6 ≤ length s
unfolding front_good
front_room s b e h = grind arith
