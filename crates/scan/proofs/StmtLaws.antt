-- Rules of statements that are not refused. Assumes nothing.
use Prim.Native.Nat.{ℕ, zero, suc, ◌+◌, ◌-◌, ◌*◌, ◌≤◌, ◌<◌}
use mathlib.Core.Bool.{Bool, true, false, cond, not}
use mathlib.Core.Option.{Option, none, some}
use mathlib.Core.List.{[], ◌∷◌}
use mathlib.Core.Path.{◌≡◌, refl, sym}
use native.Mathlib.Omega.{arith}
use lib.Dec.{eqb, ltb}
use lib.ListN.{length, get_or}
use borrow.Author.Tests.{eqb-true, not-false}
use Rattle.definitions.specs.Tree.{Expr, Exprs, Block, Branches, Cases, Default, enil, econs, bnil, bcons, brcons, cnil, ccons, absent, present, while, branches, switch, init_default, break, continue, return, return_nothing, length_cases, length_exprs, is_present}
use Rattle.definitions.specs.Tag.{Nop, Assign, Local, SwitchLabel, SwitchDefault, Jump, default_tags}
use Rattle.definitions.specs.Instr.{plain}
use Rattle.definitions.specs.Code.{Code, mark, act, ◌then◌, label, many}
use Rattle.definitions.specs.Lower.{BlockSpan, in_loop, in_switch, instr, jump, jumps, jump_to, lower_expr, lower_stmt, lower_block, lower_branches, lower_default, lower_last, lower_return, lower_return_nothing, lower_matchers, lower_bodies, lower_blocks, lower_cases, lower_elements, lower_array, default_instrs, primitive_default, mid_default, ends_group, in_group}
use Rattle.laws.proofs.Inversion.{impossible}
use Rattle.scan.specs.Scanned.{Tame, Each, Allows, BlockTame, EachCase, groups_of, default_count, within}
use Rattle.scan.proofs.TameLaws.{tame_more, tame_done, tame_emit, tame_mark, tame_then, tame_label, tame_many, tame_emits}

-- 1. Arrays

elements_tame : (es : Exprs) (a b : ℕ) → Each es a b → (at l t i : ℕ) → Tame (lower_elements es at l t i) (4 * length_exprs es + a) b
unfolding Each lower_elements length_exprs
elements_tame enil a b h at l t i = tame_done
elements_tame (econs e es) a b h at l t i =
    let (a₁, b₁, a₂, b₂, x, xs, p, q) = h in
    tame_more (tame_then (tame_emits _) (tame_then x (elements_tame es a₂ b₂ xs at l t (i + 1)))) (omega (arith, p)) (omega (arith, q))

-- three records and four for each element; for none at all nothing
pub array_tame : (es : Exprs) (a b k : ℕ) → Each es a b → (0 < length_exprs es → 3 + 4 * length_exprs es ≤ k) → (at l t : ℕ) → Tame (lower_array es at l t) (k + a) b
unfolding lower_array length_exprs
array_tame enil a b k h i at l t = tame_done
array_tame (econs e es) a b k h i at l t =
    tame_more (tame_then (tame_emits _) (elements_tame (econs e es) a b h at l t 0)) (omega (arith, i (omega arith))) (omega arith)

-- 2. Switches

matchers_tame : (cs : Cases) (r n a b c d : ℕ) → EachCase cs r n a b c d → (at next body : ℕ) → Tame (lower_matchers cs at next body) (length_cases cs + a) (length_cases cs + b)
unfolding EachCase lower_matchers length_cases
matchers_tame cnil r n a b c d h at next body = tame_more tame_mark (omega arith) (omega arith)
matchers_tame (ccons m k cs) r n a b c d h at next body =
    let (a₁, b₁, c₁, d₁, a₂, b₂, c₂, d₂, x, y, rest, p, q, u, v) = h in
    tame_more (tame_then tame_mark (tame_label (λ l. tame_then tame_emit (tame_then x (matchers_tame cs r n a₂ b₂ c₂ d₂ rest at l (body + 1)))))) (omega (arith, p)) (omega (arith, q))

blocks_tame : (cs : Cases) (r n a b c d : ℕ) → EachCase cs r n a b c d → (body : ℕ) (span : BlockSpan) → Allows span r n → Tame (lower_blocks cs body span) c d
unfolding EachCase lower_blocks
blocks_tame cnil r n a b c d h body span g = tame_done
blocks_tame (ccons m k cs) r n a b c d h body span g =
    let (a₁, b₁, c₁, d₁, a₂, b₂, c₂, d₂, x, y, rest, p, q, u, v) = h in
    tame_more (tame_then tame_mark (tame_then (y span g) (blocks_tame cs r n a₂ b₂ c₂ d₂ rest (body + 1) span g))) (omega (arith, u)) (omega (arith, v))

bodies_tame : (cs : Cases) (r n a b c d : ℕ) → EachCase cs r n a b c d → (i body dflt : ℕ) (D : Code) (e f : ℕ) → Tame D e f → (span : BlockSpan) → Allows span r n
    → Tame (lower_bodies cs i body dflt D span) (c + e) (d + f)
unfolding EachCase lower_bodies
bodies_tame cnil r n a b c d h i body dflt D e f z span g = tame_done
bodies_tame (ccons m k cs) r n a b c d h zero body dflt D e f z span g =
    let (a₁, b₁, c₁, d₁, a₂, b₂, c₂, d₂, x, y, rest, p, q, u, v) = h in
    tame_more (tame_then tame_mark (tame_then z (tame_then tame_mark (tame_then (y span g) (blocks_tame cs r n a₂ b₂ c₂ d₂ rest (body + 1) span g))))) (omega (arith, u)) (omega (arith, v))
bodies_tame (ccons m k cs) r n a b c d h (suc i) body dflt D e f z span g =
    let (a₁, b₁, c₁, d₁, a₂, b₂, c₂, d₂, x, y, rest, p, q, u, v) = h in
    tame_more (tame_then tame_mark (tame_then (y span g) (bodies_tame cs r n a₂ b₂ c₂ d₂ rest i (body + 1) dflt D e f z span g))) (omega (arith, u)) (omega (arith, v))

-- the labels of the groups that are still to be opened
unfoldable to_open : Option ℕ → Cases → ℕ
to_open none cs = groups_of cs
to_open (some body) cs = groups_of cs - 1

-- the last case ends a group
pub some_group : (cs : Cases) (m : Expr) (k : Block) → 0 < groups_of (ccons m k cs)
unfolding ends_group groups_of
some_group cnil m bnil = omega arith
some_group cnil m (bcons s b) = omega arith
some_group (ccons m' k' cs) m k = omega (arith, some_group cs m' k')

-- a case, with what is known of those after it
case_tame : (m : Expr) (k : Block) (cs : Cases) (at : ℕ) (span : BlockSpan) (a b c d e f : ℕ) → Tame (lower_expr m) a b → Tame (lower_block k span) c d
    → ((next : ℕ) (group : Option ℕ) → Tame (lower_cases cs at next group span) e (f + to_open group cs))
    → (next : ℕ) (group : Option ℕ) → Tame (lower_cases (ccons m k cs) at next group span) (1 + a + c + e) (1 + b + d + f + to_open group (ccons m k cs))
unfolding lower_cases in_group groups_of to_open
case_tame m k cs at span a b c d e f x y rest next group = go group
  where
    choice : (ends : Bool) → ends_group k cs ≡ ends → (body next' : ℕ)
        → Tame (cond ends (act (mark body) then lower_block k span then lower_cases cs at next' none span) (lower_cases cs at next' (some body) span)) (c + e) (d + f + (cond ends 1 0 + groups_of cs - 1))
    choice true h body next' = tame_more (tame_then tame_mark (tame_then y (rest next' none))) (omega arith) (omega arith)
    choice false h body next' = tame_more (rest next' (some body)) (omega arith) (omega arith)

    inside : (body : ℕ) → Tame (act (mark next) then label at (λ next'. jumps at SwitchLabel next' body then lower_expr m then cond (ends_group k cs) (act (mark body) then lower_block k span then lower_cases cs at next' none span) (lower_cases cs at next' (some body) span))) (1 + a + c + e) (1 + b + d + f + (groups_of (ccons m k cs) - 1))
    inside body = tame_more (tame_then tame_mark (tame_label (λ next'. tame_then tame_emit (tame_then x (choice (ends_group k cs) refl body next'))))) (omega arith) (omega arith)

    go : (group : Option ℕ) → Tame (lower_cases (ccons m k cs) at next group span) (1 + a + c + e) (1 + b + d + f + to_open group (ccons m k cs))
    go none = tame_more (tame_label inside) (omega arith) (omega (arith, some_group cs m k))
    go (some body) = inside body

cases_tame : (cs : Cases) (r n a b c d : ℕ) → EachCase cs r n a b c d → (at : ℕ) (span : BlockSpan) → Allows span r n → (next : ℕ) (group : Option ℕ)
    → Tame (lower_cases cs at next group span) (length_cases cs + a + c) (length_cases cs + b + d + to_open group cs)
unfolding EachCase lower_cases length_cases
cases_tame cnil r n a b c d h at span g next group = tame_more tame_mark (omega arith) (omega arith)
cases_tame (ccons m k cs) r n a b c d h at span g next group =
    let (a₁, b₁, c₁, d₁, a₂, b₂, c₂, d₂, x, y, rest, p, q, u, v) = h in
    tame_more (case_tame m k cs at span a₁ b₁ c₁ d₁ (length_cases cs + a₂ + c₂) (length_cases cs + b₂ + d₂) x (y span g) (λ next' group'. cases_tame cs r n a₂ b₂ c₂ d₂ rest at span g next' group') next group)
    (omega (arith, p, u)) (omega (arith, q, v))

-- what a default takes, and its SwitchDefault
unfoldable pub DefaultTame : Default → (returns inside records labels : ℕ) → Type 0
DefaultTame absent r n e f = Unit {0}
DefaultTame (present b) r n e f = BlockTame b r n e f

unfoldable pub defaults : Default → ℕ
defaults absent = 0
defaults (present b) = 1

pub in_switch_law : (end : ℕ) (span : BlockSpan) (r n : ℕ) → Allows span r n → Allows (in_switch end span) r (within n)
unfolding within
in_switch_law end span r zero g = record { same = g.same; breaks = λ l. (end, refl); continues = λ l. absurd (omega (arith, l)) }
in_switch_law end span r (suc n) g = record { same = g.same; breaks = λ l. (end, refl); continues = λ l. g.continues l }

with_default : (D : Default) (r n e f : ℕ) → DefaultTame D r n e f → (span : BlockSpan) → Allows span r n → Tame (lower_default D span) e f
unfolding DefaultTame lower_default
with_default absent r n e f h span g = tame_done
with_default (present b) r n e f h span g = h span g

last_tame : (D : Default) (at r n e f : ℕ) → DefaultTame D r n e f → (span : BlockSpan) → Allows span r n → Tame (lower_last D at span) (defaults D + e) f
unfolding DefaultTame lower_last defaults
last_tame absent at r n e f h span g = tame_done
last_tame (present b) at r n e f h span g = tame_more (tame_then tame_emit (h span g)) (omega arith) (omega arith)

-- a mid default is one that is there
mid_there : (D : Default) (i : ℕ) (cs : Cases) → mid_default D i cs ≡ true → defaults D ≡ 1
unfolding mid_default is_present defaults
mid_there absent i cs e = impossible (cc)
mid_there (present b) i cs e = refl

-- a switch, in the layout that it has; `e` and `f` are of its default, the SwitchDefault apart
module _ (at type i : ℕ) (x : Expr) (cs : Cases) (D : Default) (span : BlockSpan) (r n a₀ b₀ a b c d e f : ℕ) (h : Tame (lower_expr x) a₀ b₀)
    (each : EachCase cs r (within n) a b c d) (dflt : DefaultTame D r (within n) e f) (g : Allows span r n) where
  layout : (mid : Bool) → mid_default D i cs ≡ mid → (end first : ℕ)
      → Tame (cond mid
      (label at λ body. many at (length_cases cs)
      (lower_matchers cs at first body then instr at SwitchDefault 0 then jump at Jump (body + length_cases cs) then
      lower_bodies cs i body (body + length_cases cs) (lower_default D (in_switch end span)) (in_switch end span)))
      (lower_cases cs at first none (in_switch end span) then lower_last D at (in_switch end span)))
      (a + c + (length_cases cs + cond mid 1 0) + (defaults D + e)) (b + d + (length_cases cs + cond mid (length_cases cs + 1) (groups_of cs)) + f)
  unfolding to_open
  layout true m end first =
      let S = in_switch_law end span r n g in
      tame_more (tame_label (λ body. tame_many at (length_cases cs) (tame_then (matchers_tame cs r (within n) a b c d each at first body) (tame_then tame_emit (tame_then tame_emit
      (bodies_tame cs r (within n) a b c d each i body (body + length_cases cs) (lower_default D (in_switch end span)) e f (with_default D r (within n) e f dflt (in_switch end span) S) (in_switch end span) S))))))
      (omega (arith, mid_there D i cs m)) (omega arith)
  layout false m end first =
      let S = in_switch_law end span r n g in
      tame_more (tame_then (cases_tame cs r (within n) a b c d each at (in_switch end span) S first none) (last_tame D at r (within n) e f dflt (in_switch end span) S)) (omega arith) (omega arith)

  pub switch_tame : Tame (lower_stmt (switch at type x i cs D) span) (1 + a₀ + (a + c + (length_cases cs + cond (mid_default D i cs) 1 0)) + (defaults D + e))
      (2 + b₀ + (b + d + (length_cases cs + cond (mid_default D i cs) (length_cases cs + 1) (groups_of cs))) + f)
  unfolding lower_stmt
  switch_tame = tame_more (tame_label (λ end. tame_label (λ first. tame_then tame_emit (tame_then h (tame_then (layout (mid_default D i cs) refl end first) tame_mark))))) (omega arith) (omega arith)

-- 3. The other statements

pub while_tame : (at : ℕ) (x : Expr) (k : Block) (r a b c d : ℕ) → Tame (lower_expr x) a b → BlockTame k r 2 c d → (span : BlockSpan) → span.returns ≡ r
    → Tame (lower_stmt (while at x k) span) (2 + a + c) (2 + b + d)
unfolding lower_stmt
while_tame at x k r a b c d h y span q =
    let loop : (start end : ℕ) → Allows (in_loop start end span) r 2 = λ start end. record { same = q; breaks = λ l. (end, refl); continues = λ l. (start, refl) } in
    tame_more (tame_label (λ start. tame_label (λ end. tame_then tame_mark (tame_then tame_emit (tame_then h (tame_then (y (in_loop start end span) (loop start end)) (tame_then tame_emit tame_mark))))))) (omega arith) (omega arith)

pub branches_tame : (at : ℕ) (bs : Branches) (D : Default) (span : BlockSpan) (r n a b e f : ℕ) → ((next exit : ℕ) → Tame (lower_branches bs at next exit span) a b) → DefaultTame D r n e f → Allows span r n
    → Tame (lower_stmt (branches at bs D) span) (a + e) (2 + b + f)
unfolding lower_stmt
branches_tame at bs D span r n a b e f h dflt g =
    tame_more (tame_label (λ next. tame_label (λ exit. tame_then (h next exit) (tame_then (with_default D r n e f dflt span g) tame_mark)))) (omega arith) (omega arith)

-- a branch before others
pub branch_tame : (x : Expr) (k : Block) (bs : Branches) (at next exit : ℕ) (span : BlockSpan) (a b c d e f : ℕ) → Tame (lower_expr x) a b → Tame (lower_block k span) c d
    → ((next : ℕ) → Tame (lower_branches bs at next exit span) e f) → Tame (lower_branches (brcons x k bs) at next exit span) (2 + a + c + e) (1 + b + d + f)
unfolding lower_branches
branch_tame x k bs at next exit span a b c d e f h y rest =
    tame_more (tame_then tame_emit (tame_then h (tame_then y (tame_then tame_emit (tame_then tame_mark (tame_label (λ next'. rest next'))))))) (omega arith) (omega arith)

pub break_tame : (at : ℕ) (span : BlockSpan) (r n : ℕ) → Allows span r n → 0 < n → Tame (lower_stmt (break at) span) 1 0
unfolding lower_stmt jump_to
break_tame at span r n g l = let h = g.breaks l in rw h.1 tame_emit

pub continue_tame : (at : ℕ) (span : BlockSpan) (r n : ℕ) → Allows span r n → 1 < n → Tame (lower_stmt (continue at) span) 1 0
unfolding lower_stmt jump_to
continue_tame at span r n g l = let h = g.continues l in rw h.1 tame_emit

pub nothing_tame : (at : ℕ) (span : BlockSpan) → Tame (lower_stmt (return_nothing at) span) 2 0
unfolding lower_stmt lower_return_nothing
nothing_tame at span = tame_then tame_emit tame_emit

-- a unit without a return value has a Nop too
unfoldable pub returned : (returns : ℕ) → ℕ
returned zero = 2
returned (suc r) = 1

pub return_tame : (at : ℕ) (x : Expr) (span : BlockSpan) (r a b : ℕ) → Tame (lower_expr x) a b → span.returns ≡ r → Tame (lower_stmt (return at x) span) (returned r + a) b
unfolding lower_stmt lower_return returned
return_tame at x span r a b h q = rw q (go r)
  where
    go : (r : ℕ) → Tame (lower_return at r (lower_expr x)) (returned r + a) b
    go zero = tame_more (tame_then h (tame_then tame_emit tame_emit)) (omega arith) (omega arith)
    go (suc r) = tame_more (tame_then tame_emit h) (omega arith) (omega arith)

-- an InitDefault has as many records whatever its place, its local and its index
default_length : (at l b i : ℕ) → length (default_instrs at l b i) ≡ default_count b
unfolding default_instrs primitive_default
default_length at l zero i = refl
default_length at l (suc zero) i = refl
default_length at l (suc (suc zero)) i = refl
default_length at l (suc (suc (suc zero))) i = refl
default_length at l (suc (suc (suc (suc zero)))) i = refl
default_length at l (suc (suc (suc (suc (suc b))))) i = go (ltb (suc (suc (suc (suc (suc b)))) - 5) 17)
  where
    go : (t : Bool) → length (plain at Assign 0 0 ∷ plain at Local 0 l ∷ cond t (plain at (get_or default_tags (suc (suc (suc (suc (suc b)))) - 5) Nop) 0 (cond (ltb (suc (suc (suc (suc (suc b)))) - 5) 4) i 0) ∷ []) [])
        ≡ length (plain 0 Assign 0 0 ∷ plain 0 Local 0 0 ∷ cond t (plain 0 (get_or default_tags (suc (suc (suc (suc (suc b)))) - 5) Nop) 0 (cond (ltb (suc (suc (suc (suc (suc b)))) - 5) 4) 0 0) ∷ []) [])
    go true = refl
    go false = refl

pub default_tame : (at l b i : ℕ) (span : BlockSpan) → Tame (lower_stmt (init_default at l b i) span) (default_count b) 0
unfolding lower_stmt
default_tame at l b i span = tame_more (tame_emits (default_instrs at l b i)) (omega (arith, default_length at l b i)) (omega arith)

-- most bytes say three records
unfoldable pub odd_default : ℕ → Bool
odd_default b = not (eqb (default_count b) 3)

pub default_other : (b : ℕ) → odd_default b ≡ false → 3 ≡ default_count b
unfolding odd_default
default_other b h = sym (eqb-true (default_count b) 3 (not-false _ h))
