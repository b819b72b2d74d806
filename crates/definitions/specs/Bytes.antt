-- Numbers in bytes. Every stored number is big-endian.
use Rattle.std.specs.Prelude.{ℕ, zero, suc, ◌+◌, ◌*◌, ◌/◌, ◌%◌, ◌^◌, List, [], ◌∷◌, get_or}

-- the number in the w bytes of s at `at`
unfoldable pub number : (w : ℕ) (s : List ℕ) (at : ℕ) → ℕ
number zero s at = 0
number (suc w) s at = number w s at * 256 + get_or s (at + w) 0

-- the w bytes of a number
unfoldable pub bytes : (w v : ℕ) → List ℕ
bytes zero v = []
bytes (suc w) v = v / 256 ^ w % 256 ∷ bytes w v
