-- A tree's lists have the lengths of the lists that were read. Assumes nothing.
use Prim.Native.Nat.{suc}
use mathlib.Core.Path.{◌≡◌, refl, ap}
use mathlib.Core.List.{List, [], ◌∷◌}
use lib.ListN.{length}
use Rattle.definitions.specs.Tree.{Expr, Block, exprs_of, cases_of, length_exprs, length_cases}

pub length_exprs_law : (xs : List Expr) → length_exprs (exprs_of xs) ≡ length xs
unfolding length_exprs exprs_of
length_exprs_law [] = refl
length_exprs_law (x ∷ xs) = ap suc (length_exprs_law xs)

pub length_cases_law : (xs : List (Expr × Block)) → length_cases (cases_of xs) ≡ length xs
unfolding length_cases cases_of
length_cases_law [] = refl
length_cases_law (x ∷ xs) = ap suc (length_cases_law xs)
