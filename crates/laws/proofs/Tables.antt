-- A rule of a table, shown at all of its entries by one test that antt computes.
use Prim.Native.Nat.{ℕ, zero, suc}
use mathlib.Core.Bool.{Bool, true, false, ◌&&◌}
use mathlib.Core.List.{List, [], ◌∷◌}
use lib.Dec.{T}
use lib.ListN.{get_or}

-- the test passes at each entry
unfoldable pub every : (ℕ → Bool) → List ℕ → Bool
every f [] = true
every f (x ∷ xs) = f x && every f xs

both : (a b : Bool) → T (a && b) → T a × T b
both true b h = (tt, h)
both false b h = absurd h

-- so it passes at the entry that is read, and past the end if it passes at the default
pub at : (f : ℕ → Bool) (xs : List ℕ) (d : ℕ) → T (every f xs) → T (f d) → (k : ℕ) → T (f (get_or xs k d))
unfolding every
at f [] d h e k = e
at f (x ∷ xs) d h e zero = (both (f x) (every f xs) h).0
at f (x ∷ xs) d h e (suc k) = at f xs d (both (f x) (every f xs) h).1 e k
