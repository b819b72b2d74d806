-- The unit: its one block, and the answer. Assumes nothing.
use Prim.Native.Nat.{ℕ, ◌-◌, ◌≤◌, ◌<◌}
use mathlib.Core.Path.{◌≡◌, refl, sym, ap, ◌∙◌}
use mathlib.Core.Bool.{Bool, true, false}
use Rattle.std.specs.Prelude.{Option, Some, None}
use mathlib.Core.List.{List, [], ◌++◌, append-nil}
use native.Mathlib.Omega.{arith}
use lib.Dec.{eqb}
use lib.ListN.{length, take, drop}
use lib.Seq.{take_all}
use borrow.Author.Tests.{le-leb, lt-leb, eqb-true}
use Rattle.definitions.specs.Answer.{checked}
use Rattle.definitions.specs.Read.{front_good, depth_limit}
use Rattle.definitions.specs.Stage.{over}
use Rattle.definitions.specs.Strip.{only, nothing, strip_run, strip_parts, strip_expr, strip_stmt, strip, strip_into, stripped, unstripped, strip_to}
use Rattle.strip.specs.declared.fields.Passed.{Passed}
use Rattle.strip.specs.Passing.{whole, Copied, Left, Did}
use Rattle.strip.proofs.Laws.{stays}

-- 1. The block

pub all_copied : (s o : List ℕ) (at : ℕ) → o ≡ s → Copied s at o
all_copied s o at e = record { long = ap length e; same = ap (λ (x : List ℕ). drop at x) e }

closing : (s o : List ℕ) (at : ℕ) (b : Bool) → eqb at (length s) ≡ b → Copied s at o → take at o ++ only s b nothing (λ a. []) at ≡ o
closing s o at true h c = append-nil (take at o) ∙ take_all at o (let e = eqb-true at (length s) h in let l = c.long in omega arith)
closing s o at false h c = stays s o at c

-- wherever the block ends, the buffer is done
done : (s o : List ℕ) (r : Option Passed) → Left s r o → whole r o (λ n at. only s (eqb at (length s)) nothing (λ a. []) at) ≡ o
done s o (Some p) l = closing s o p.at (eqb p.at (length s)) refl l
done s o None l = refl

pub a_unit : (s o o' : List ℕ) (r : Option Passed) → o ≡ s → front_good s ≡ true → Did s 6 o (strip_run s (length s) (strip_stmt depth_limit s)) r o' → o' ≡ strip s
unfolding strip strip_parts
a_unit s o o' r e g d =
    sym (done s o' r d.left) ∙ d.same (λ k. strip_parts s (strip_expr depth_limit s) (strip_stmt depth_limit s) (length s) [] 0) (λ at. [])
    ∙ ap (λ (o : List ℕ). take 6 o ++ strip_run s (length s) (strip_stmt depth_limit s) (λ k. strip_parts s (strip_expr depth_limit s) (strip_stmt depth_limit s) (length s) [] 0) (λ at. []) 6) e ∙ go (front_good s) g
  where
    go : (b : Bool) → b ≡ true → (take 6 s ++ strip_run s (length s) (strip_stmt depth_limit s) (λ k. strip_parts s (strip_expr depth_limit s) (strip_stmt depth_limit s) (length s) [] 0) (λ at. []) 6)
        ≡ elim b [ true ↦ take 6 s ++ strip_run s (length s) (strip_stmt depth_limit s) (λ k. strip_parts s (strip_expr depth_limit s) (strip_stmt depth_limit s) (length s) [] 0) (λ at. []) 6 | false ↦ s ]
    go b h = rw h

pub no_unit : (s o : List ℕ) → o ≡ s → front_good s ≡ false → o ≡ strip s
unfolding strip
no_unit s o e g = e ∙ rw (strip, g)

-- 2. The answer

pub answer_20 : (s o : List ℕ) → length o < length s → unstripped 20 0 0 o ≡ strip_to (strip_into s (length o)) o
unfolding strip_to strip_into checked
answer_20 s o h = simp (lt-leb (length s) (length o) h, strip_into, checked, strip_to)

pub answer : (s o t : List ℕ) → length s ≤ length o → t ≡ strip s → length t ≡ length s → stripped (length s) (t ++ drop (length s - 0) o) ≡ strip_to (strip_into s (length o)) o
unfolding strip_to strip_into checked over
answer s o t h e l =
    let n : length s - 0 ≡ length s = omega arith in
    simp (le-leb (length s) (length o) h, strip_into, checked, strip_to, over) (rw (n, ← e, l))
