-- Records whose fields fit their places, and numbers that fit their bytes.
use Prim.Native.Nat.{ℕ, zero, suc, ◌+◌, ◌^◌, ◌<◌}
use mathlib.Core.List.{List, [], ◌∷◌}
use native.Mathlib.Omega.{arith}
use native.Mathlib.Nat.{pow-suc}
use lib.Dec.{lit<}
use lib.ListN.{get_or}
use Rattle.definitions.specs.Bytes.{number}
use Rattle.definitions.specs.Instr.{Instr}

-- a record whose fields fit their places; and a list of such
pub record Within (i : Instr) : Type 0 where
  pub tag : i.tag < 256 ^ 1
  pub small : i.small < 256 ^ 1
  pub first : i.first < 256 ^ 2
  pub second : i.second < 256 ^ 2
  pub line : i.line < 256 ^ 2
  pub flags : i.flags < 256 ^ 2
  pub value : i.value < 256 ^ 8
  pub node : i.node < 256 ^ 4

abbrev pub AllWithin : List Instr → Type 0
AllWithin [] = Unit {0}
AllWithin (i ∷ is) = Within i × AllWithin is

-- a number that is read in w bytes
pub number_fits : (w : ℕ) (s : List ℕ) (at : ℕ) → ((k : ℕ) → get_or s k 0 < 256) → number w s at < 256 ^ w
unfolding number
number_fits zero s at b = lit< tt
number_fits (suc w) s at b = rw (pow-suc 256 w) (omega (arith, number_fits w s at b, b (at + w)))
