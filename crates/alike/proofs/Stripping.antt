-- What follows from the theorem on stripped units, and that stripping settles: once is enough, and no byte is lost.
use Rattle.std.proofs.Common.{◌≡◌, ℕ, List, length, sym}
use Rattle.definitions.specs.Strip.{strip}
use Rattle.alike.specs.Alike.{Alike}
use Rattle.alike.proofs.Units.{stripped}
use Rattle.alike.proofs.Theorem.{alike}

-- stripping twice is stripping once
pub strip_twice : (s : List ℕ) → strip (strip s) ≡ strip s
strip_twice s = (stripped s).twice

pub strip_length : (s : List ℕ) → length (strip s) ≡ length s
strip_length s = (stripped s).long

-- and stripping changes nothing of this
pub strip_alike : (s : List ℕ) → Alike s (strip s)
strip_alike s = alike s (strip s) (sym (strip_twice s))
