-- Each statement: its code has the tree's size and the tree's distances.
use Prim.Native.Nat.{ℕ, zero, suc, ◌+◌, ◌<◌, ◌≤◌}
use mathlib.Core.Path.{◌≡◌, refl}
use mathlib.Core.List.{List, [], ◌∷◌}
use mathlib.Core.Option.{Option, none, some}
use mathlib.Core.Bool.{Bool, true, false, cond}
use native.Mathlib.Omega.{arith}
use lib.Dec.{ltb}
use lib.ListN.{get_or}
use lib.IntN.{ℤ}
use borrow.Author.Tests.{ltb-true}
use Rattle.definitions.specs.Tag
use Rattle.definitions.specs.Tag.{rows, row_of, default_tags}
use Rattle.definitions.specs.Tree.{Expr, Stmt, Block, Branches, Cases, Default, expr, block, while, branches, switch, init_array, init_default, break, continue, return, return_nothing, bnil, bcons, brnil, brcons, cnil, ccons, absent, present, length_cases, is_present}
use Rattle.definitions.specs.Instr.{Instr}
use Rattle.definitions.specs.Code.{Code, act, mark, label, many, ◌then◌}
use Rattle.definitions.specs.Lower.{instr, jump, jumps, lower_expr, primitive_default, default_instrs, lower_return, lower_return_nothing, BlockSpan, in_loop, in_switch, jump_to, mid_default, ends_group, in_group, lower_stmt, lower_matchers, lower_bodies, lower_blocks, lower_cases, lower_last, lower_branches, lower_default, lower_block}
use Rattle.laws.proofs.Picked.{primitive_plain}
use Rattle.laws.proofs.Sizes.{total_is, sized}
use Rattle.landing.specs.Distance.{ahead, back, ◌and◌, Jump, JumpIfFalse, Switch, SwitchLabel, SwitchDefault, Return, size_expr, size_after_return, size_stmt, size_matchers, size_blocks, size_cases, size_last, size_branches, size_default, size_block, to_body, to_default, dist_matchers, dist_stmt, dist_blocks, dist_cases, dist_last, dist_branches, dist_default, dist_block}
use Rattle.landing.proofs.Pieces.{Piece}
use Rattle.landing.proofs.Counts.{count_return, count_stmt, count_matchers, count_blocks, count_cases, count_last, count_branches, count_default, count_block}
use Rattle.landing.proofs.Rules.{nothing, plain, carry, carry_back, carry2, marks, refuses, labels, seq, ends, close, guarded, last, here, either, range, range_snoc, many_labels, Whole, AllPlain, straight}
use Rattle.landing.proofs.Exprs.{land_expr, land_array}

-- 1. Statements without blocks

value_plain : (at k i : ℕ) → AllPlain (primitive_default at k i)
unfolding primitive_default
value_plain at k i = go (ltb k 17) (cond (ltb k 4) i 0)
  where
    go : (b : Bool) (v : ℕ) → AllPlain (cond b (Rattle.definitions.specs.Instr.plain at (get_or default_tags k Tag.Nop) 0 v ∷ []) [])
    go true v = ((primitive_plain k).carries, tt)
    go false v = tt

default_plain : (at l b i : ℕ) → AllPlain (default_instrs at l b i)
unfolding default_instrs row_of rows
default_plain at l zero i = tt
default_plain at l (suc zero) i = ((refl, refl), ((refl, refl), tt))
default_plain at l (suc (suc zero)) i = ((refl, refl), ((refl, refl), ((refl, refl), tt)))
default_plain at l (suc (suc (suc zero))) i = ((refl, refl), ((refl, refl), ((refl, refl), tt)))
default_plain at l (suc (suc (suc (suc zero)))) i = ((refl, refl), ((refl, refl), ((refl, refl), ((refl, refl), tt))))
default_plain at l (suc (suc (suc (suc (suc b))))) i = ((refl, refl), ((refl, refl), value_plain at _ i))

land_return : {M : ℕ → ℕ} {o n : ℕ} {s c : ℕ} {ds : List ℤ} (at returns : ℕ) (p : Code) → ((o n : ℕ) → Whole M o n p s c ds) →
    Whole M o n (lower_return at returns p) (Return + s + size_after_return returns) (c + count_return returns) ds
unfolding lower_return size_after_return count_return row_of rows
land_return at zero p f = close (last (f _ _) (seq (plain (refl, refl)) (plain (refl, refl)))) refl (omega arith)
land_return at (suc r) p f = close (seq (plain (refl, refl)) (f _ _)) refl (omega arith)

-- 2. Break and continue

-- the label's mark is x, if there is a label
abbrev pub To : (M : ℕ → ℕ) → Option ℕ → ℕ → Type 0
To M none x = Unit
To M (some l) x = M l ≡ x

-- x is at most 32,764, if there is a label
abbrev pub Limit : Option ℕ → ℕ → Type 0
Limit none x = Unit
Limit (some l) x = x ≤ 32764

-- where break and continue land, and how far on from there the pieces may reach
pub record Targets (M : ℕ → ℕ) (scope : BlockSpan) (B C X : ℕ) : Type 0 where
  pub break_target : To M scope.break_target B
  pub continue_target : To M scope.continue_target C
  pub limit : Limit scope.continue_target X

-- a piece in a loop whose start is `before` back from the piece, and whose end is `after` on from its end
abbrev pub Inside : (M : ℕ → ℕ) (o n B C X : ℕ) (p : Code) (s c before after : ℕ) (ds : List ℤ) → Type 0
Inside M o n B C X p s c before after ds = Piece M o n p s c [] [] Unit ((B ≡ o + s + after) × (C + before ≡ o)) Unit (before + s ≤ X) ds

land_break : {M : ℕ → ℕ} {o n : ℕ} (number at : ℕ) (l : Option ℕ) (B C X before after : ℕ) → To M l B →
    Inside M o n B C X (jump_to number at l) Jump 1 before after (ahead (Jump + after) ∷ [])
unfolding jump_to row_of rows
land_break number at none B C X before after h = close (refuses {s = Jump} {k = 1}) refl (omega arith)
land_break number at (some l) B C X before after h = close (carry (refl, refl)) refl (omega arith)

land_continue : {M : ℕ → ℕ} {o n : ℕ} (number at : ℕ) (l : Option ℕ) (B C X before after : ℕ) → To M l C → Limit l X →
    Inside M o n B C X (jump_to number at l) Jump 1 before after (back before ∷ [])
unfolding jump_to row_of rows
land_continue number at none B C X before after h r = close (refuses {s = Jump} {k = 1}) refl (omega arith)
land_continue number at (some l) B C X before after h r = close (carry_back before (refl, refl) refl) refl (omega arith)

-- 3. A switch with a default before one of its cases

-- the blocks from offset p on, the first with the label `body`
unfoldable pub Blocks : (M : ℕ → ℕ) → Cases → (r body p : ℕ) → Type 0
Blocks M cnil r body p = Unit
Blocks M (ccons m b cs) r body p = (M body ≡ p) × Blocks M cs r (body + 1) (p + size_block b r)

-- the same with a default of size D before case `index`
unfoldable pub Bodies : (M : ℕ → ℕ) → Cases → (defaultIndex D r body dflt p : ℕ) → Type 0
Bodies M cnil defaultIndex D r body dflt p = Unit
Bodies M (ccons m b cs) zero D r body dflt p = (M dflt ≡ p) × (M body ≡ p + D) × Blocks M cs r (body + 1) (p + D + size_block b r)
Bodies M (ccons m b cs) (suc defaultIndex) D r body dflt p = (M body ≡ p) × Bodies M cs defaultIndex D r (body + 1) dflt (p + size_block b r)

bodies_default : (M : ℕ → ℕ) (cs : Cases) (defaultIndex D r body dflt p : ℕ) → defaultIndex < length_cases cs → Bodies M cs defaultIndex D r body dflt p → M dflt ≡ p + to_default cs defaultIndex r
unfolding Bodies length_cases to_default
bodies_default M cnil defaultIndex D r body dflt p h g = absurd (omega arith)
bodies_default M (ccons m b cs) zero D r body dflt p h g = omega arith
bodies_default M (ccons m b cs) (suc defaultIndex) D r body dflt p h g = omega (arith, bodies_default M cs defaultIndex D r (body + 1) dflt (p + size_block b r) (omega arith) g.1)

land_block_labels : {M : ℕ → ℕ} {o n : ℕ} (cs : Cases) (at next body gap r p : ℕ) →
    Piece M o n (lower_matchers cs at next body) (size_matchers cs) (count_matchers cs) [] (next ∷ []) (next < n) (Blocks M cs r body p × (p ≡ o + size_matchers cs + gap)) (M next ≡ o) Unit (dist_matchers cs zero 0 gap r)
unfolding lower_matchers size_matchers count_matchers dist_matchers Blocks row_of rows
land_block_labels cnil at next body gap r p = close marks refl (omega arith)
land_block_labels {o} (ccons m b cs) at next body gap r p =
    close (here (labels (seq (carry2 (refl, refl)) (seq (land_expr m) (land_block_labels {o = o + SwitchLabel + size_expr m} cs at _ (body + 1) _ r (p + size_block b r)))))) refl
    (omega arith, (λ h g. ((omega arith, omega arith), (tt, (h.0.1, omega arith)))), omega arith, omega arith, omega arith, omega arith, omega arith)

land_labels : {M : ℕ → ℕ} {o n : ℕ} (cs : Cases) (at next defaultIndex D body dflt gap r p : ℕ) →
    Piece M o n (lower_matchers cs at next body) (size_matchers cs) (count_matchers cs) [] (next ∷ []) (next < n) (Bodies M cs defaultIndex D r body dflt p × (p ≡ o + size_matchers cs + gap)) (M next ≡ o) Unit (dist_matchers cs defaultIndex D gap r)
unfolding lower_matchers size_matchers count_matchers dist_matchers Bodies row_of rows
land_labels cnil at next defaultIndex D body dflt gap r p = close marks refl (omega arith)
land_labels (ccons m b cs) at next zero D body dflt gap r p =
    close (here (labels (seq (carry2 (refl, refl)) (seq (land_expr m) (land_block_labels cs at _ (body + 1) _ r (p + D + size_block b r)))))) refl
    (omega arith, (λ h g. ((omega arith, omega arith), (tt, (h.0.2, omega arith)))), omega arith, omega arith, omega arith, omega arith, omega arith)
land_labels {o} (ccons m b cs) at next (suc defaultIndex) D body dflt gap r p =
    close (here (labels (seq (carry2 (refl, refl)) (seq (land_expr m) (land_labels {o = o + SwitchLabel + size_expr m} cs at _ defaultIndex D (body + 1) dflt _ r (p + size_block b r)))))) refl
    (omega arith, (λ h g. ((omega arith, omega arith), (tt, (h.0.1, omega arith)))), omega arith, omega arith, omega arith, omega arith, omega arith)

-- the labels, SwitchDefault, its Jump and the blocks
land_mid : {M : ℕ → ℕ} {o n : ℕ} (cs : Cases) (at first defaultIndex D K r : ℕ) (default : Code) (dd : (before after : ℕ) → List ℤ) (scope : BlockSpan) (B C X before : ℕ) → defaultIndex < length_cases cs →
    ((o n' before after : ℕ) → Piece M o n' (lower_bodies cs defaultIndex n (n + length_cases cs) default scope) (size_blocks cs defaultIndex D r) (count_blocks cs defaultIndex K r) [] ((n + length_cases cs) ∷ range n (length_cases cs)) ((n + length_cases cs < n') × (n + length_cases cs ≤ n'))
    ((B ≡ o + size_blocks cs defaultIndex D r + after) × (C + before ≡ o)) (Bodies M cs defaultIndex D r n (n + length_cases cs) o) (before + size_blocks cs defaultIndex D r ≤ X) (dist_blocks cs defaultIndex r D dd before after)) →
    Piece M o n
    (label at λ body. many at (length_cases cs) (lower_matchers cs at first body then instr at Tag.SwitchDefault 0 then jump at Tag.Jump (body + length_cases cs) then lower_bodies cs defaultIndex body (body + length_cases cs) default scope))
    (size_matchers cs + SwitchDefault + Jump + size_blocks cs defaultIndex D r) (2 + count_matchers cs + count_blocks cs defaultIndex K r) [] (first ∷ []) (first < n)
    ((B ≡ o + (size_matchers cs + SwitchDefault + Jump + size_blocks cs defaultIndex D r) + 0) × (C + before ≡ o)) (M first ≡ o) (before + (size_matchers cs + SwitchDefault + Jump + size_blocks cs defaultIndex D r) ≤ X)
    (dist_matchers cs defaultIndex D (SwitchDefault + Jump) r and ahead (Jump + to_default cs defaultIndex r) ∷ dist_blocks cs defaultIndex r D dd (before + size_matchers cs + SwitchDefault + Jump) 0)
unfolding row_of rows
land_mid {M} {o} {n} cs at first defaultIndex D K r default dd scope B C X before lt bodies =
    close (labels (many_labels at (length_cases cs) (seq (land_labels cs at first defaultIndex D n (n + length_cases cs) (SwitchDefault + Jump) r (o + size_matchers cs + SwitchDefault + Jump)) (seq (plain (refl, refl)) (seq (carry (refl, refl)) (bodies _ _ _ _)))))) refl (
      omega arith,
      (λ h g. ((g.1.1.1, omega arith), (tt, (omega (arith, bodies_default M cs defaultIndex D r n (n + length_cases cs) (o + size_matchers cs + SwitchDefault + Jump) lt g.1.1.1), (omega arith, omega arith))))),
      omega arith,
      (λ l. omega (arith, range_snoc n (length_cases cs) l)),
      omega arith,
      omega arith,
      omega arith,
    )

-- 4. Any other switch

-- where the group that is open has its body, if these cases go on with it
unfoldable pub Joined : (M : ℕ → ℕ) → Cases → (body p : ℕ) → Type 0
Joined M cnil body p = Unit
Joined M (ccons m b cs) body p = M body ≡ p + to_body (ccons m b cs)

-- a case with its label, its matcher, its block and the cases after it
land_case : {M : ℕ → ℕ} {o n : ℕ} (m : Expr) (b : Block) (cs : Cases) (at next body r : ℕ) (scope : BlockSpan) (B C X before after : ℕ) →
    ((o n before after : ℕ) → Inside M o n B C X (lower_block b scope) (size_block b r) (count_block b r) before after (dist_block b r before after)) →
    ((o n next before after : ℕ) → Piece M o n (lower_cases cs at next none scope) (size_cases cs r) (count_cases cs r) [] (next ∷ []) (next < n) ((B ≡ o + size_cases cs r + after) × (C + before ≡ o)) (M next ≡ o) (before + size_cases cs r ≤ X) (dist_cases cs r before after)) →
    ((o n next before after : ℕ) → Piece M o n (lower_cases cs at next (some body) scope) (size_cases cs r) (count_cases cs r) [] (next ∷ body ∷ []) ((next < n) × (body < n)) ((B ≡ o + size_cases cs r + after) × (C + before ≡ o)) ((M next ≡ o) × Joined M cs body o) (before + size_cases cs r ≤ X) (dist_cases cs r before after)) →
    Piece M o n
    (act (mark next) then label at λ next'. jumps at Tag.SwitchLabel next' body then lower_expr m then
    cond (ends_group b cs) (act (mark body) then lower_block b scope then lower_cases cs at next' none scope) (lower_cases cs at next' (some body) scope))
    (size_cases (ccons m b cs) r) (count_cases (ccons m b cs) r) [] (next ∷ body ∷ []) ((next < n) × (body < n)) ((B ≡ o + size_cases (ccons m b cs) r + after) × (C + before ≡ o)) ((M next ≡ o) × (M body ≡ o + to_body (ccons m b cs)))
    (before + size_cases (ccons m b cs) r ≤ X) (dist_cases (ccons m b cs) r before after)
unfolding ends_group size_cases count_cases to_body dist_cases Joined row_of rows
land_case m (bcons s b) cs at next body r scope B C X before after inner apart joined =
    close (here (labels (seq (carry2 (refl, refl)) (seq (land_expr m) (here (seq (inner _ _ _ _) (apart _ _ _ _ _))))))) refl (omega arith)
land_case m bnil cnil at next body r scope B C X before after inner apart joined =
    close (here (labels (seq (carry2 (refl, refl)) (seq (land_expr m) (here (seq (inner _ _ (before + SwitchLabel + size_expr m) after) (apart _ _ _ (before + SwitchLabel + size_expr m) after))))))) refl (omega arith)
land_case m bnil (ccons m' b' cs) at next body r scope B C X before after inner apart joined =
    close (here (labels (seq (carry2 (refl, refl)) (seq (land_expr m) (joined _ _ _ _ _))))) refl (omega arith)

mid_index : (d : Default) (defaultIndex : ℕ) (cs : Cases) → mid_default d defaultIndex cs ≡ true → defaultIndex < length_cases cs
unfolding mid_default is_present
mid_index absent defaultIndex cs e = let z : ◌≡◌ {A = ℕ} 0 1 = cc in absurd (omega arith)
mid_index (present b) defaultIndex cs e = ltb-true defaultIndex (length_cases cs) e

-- 5. Statements

mutual
  unfolding lower_stmt size_stmt count_stmt dist_stmt in_group length_cases Blocks Bodies Joined row_of rows lower_return_nothing

  pub land_stmt : {M : ℕ → ℕ} {o n : ℕ} (s : Stmt) (scope : BlockSpan) (B C X before after : ℕ) → Targets M scope B C X →
      Inside M o n B C X (lower_stmt s scope) (size_stmt s scope.returns) (count_stmt s scope.returns) before after (dist_stmt s scope.returns before after)
  land_stmt (expr at e) scope B C X before after h = close (land_expr e) refl (omega arith)
  land_stmt (block at b) scope B C X before after h = land_block b scope B C X before after h
  land_stmt {M} {o} {n} (while at c b) scope B C X before after h =
      let r = scope.returns in
      close (guarded {a = JumpIfFalse + size_expr c + size_block b r + Jump} {R' = before + (JumpIfFalse + size_expr c + size_block b r + Jump) ≤ X}
      (labels (labels (seq marks (seq (carry (refl, refl)) (seq (land_expr c) (seq (land_block b (in_loop n (n + 1) scope) (M (n + 1)) (M n) 32764 _ _ (record { break_target = refl; continue_target = refl; limit = omega arith })) (ends (carry_back _ (refl, refl) refl))))))))
      (λ q lt. omega (arith, sized)))
      refl (omega arith)
  land_stmt (branches at bs d) scope B C X before after h =
      close (labels (labels (seq (land_branches bs at _ _ scope B C X _ _ _ h) (ends (land_default d scope B C X _ _ h))))) refl (omega arith)
  land_stmt {M} {o} {n} (switch at type e defaultIndex cs d) scope B C X before after h =
      let r = scope.returns in
      let h' : Targets M (in_switch n scope) (M n) C X = record { break_target = refl; continue_target = h.continue_target; limit = h.limit } in
      close (labels (labels (seq (carry (refl, refl)) (seq (land_expr e) (ends (either (mid_default d defaultIndex cs)
      (λ s. (M n ≡ o + Switch + size_expr e + s + 0) × (C + (before + Switch + size_expr e) ≡ o + Switch + size_expr e)) (λ s. before + Switch + size_expr e + s ≤ X)
      (λ q. land_mid cs at (n + 1) defaultIndex (size_default d r) (count_default d r) r (lower_default d (in_switch n scope)) (λ before after. dist_default d r before after) (in_switch n scope) (M n) C X (before + Switch + size_expr e) (mid_index d defaultIndex cs q)
      (λ o n' before after. land_bodies cs defaultIndex _ _ (lower_default d (in_switch n scope)) (in_switch n scope) (M n) C X (size_default d r) (count_default d r) (λ before after. dist_default d r before after) before after h' (λ o' n' before after. land_default d (in_switch n scope) (M n) C X before after h')))
      (λ q. close {s' = size_cases cs r + size_last d r} {c' = count_cases cs r + count_last d r} {ds' = dist_cases cs r (before + Switch + size_expr e) (size_last d r) and dist_last d r (before + Switch + size_expr e + size_cases cs r) 0}
      (seq (land_cases cs at (n + 1) (in_switch n scope) (M n) C X _ _ h') (land_last d at (in_switch n scope) (M n) C X _ _ h')) refl (omega arith)))))))) refl (omega arith)
  land_stmt (init_array at l t es) scope B C X before after h = close (land_array es at l t) refl (omega arith)
  land_stmt (init_default at l b i) scope B C X before after h = close (straight (default_instrs at l b i) (default_plain at l b i)) refl (omega (arith, total_is (default_instrs at l b i)))
  land_stmt (break at) scope B C X before after h = land_break 10 at scope.break_target B C X before after h.break_target
  land_stmt (continue at) scope B C X before after h = land_continue 11 at scope.continue_target B C X before after h.continue_target h.limit
  land_stmt (return at e) scope B C X before after h = close (land_return at scope.returns (lower_expr e) (λ o n. land_expr e)) refl (omega arith)
  land_stmt (return_nothing at) scope B C X before after h = close (seq (plain (refl, refl)) (plain (refl, refl))) refl (omega arith)

  pub land_bodies : {M : ℕ → ℕ} {o n : ℕ} (cs : Cases) (defaultIndex body dflt : ℕ) (default : Code) (scope : BlockSpan) (B C X D K : ℕ) (dd : (before after : ℕ) → List ℤ) (before after : ℕ) → Targets M scope B C X →
      ((o n before after : ℕ) → Inside M o n B C X default D K before after (dd before after)) →
      Piece M o n (lower_bodies cs defaultIndex body dflt default scope) (size_blocks cs defaultIndex D scope.returns) (count_blocks cs defaultIndex K scope.returns) [] (dflt ∷ range body (length_cases cs)) ((dflt < n) × (body + length_cases cs ≤ n))
      ((B ≡ o + size_blocks cs defaultIndex D scope.returns + after) × (C + before ≡ o)) (Bodies M cs defaultIndex D scope.returns body dflt o) (before + size_blocks cs defaultIndex D scope.returns ≤ X) (dist_blocks cs defaultIndex scope.returns D dd before after)
  land_bodies cnil defaultIndex body dflt default scope B C X D K dd before after h f = close nothing refl (omega arith)
  land_bodies (ccons m b cs) zero body dflt default scope B C X D K dd before after h f =
      close (here (seq (f _ _ _ _) (here (seq (land_block b scope B C X _ _ h) (land_blocks cs (body + 1) scope B C X _ _ h))))) refl
      (omega arith, omega arith, (λ g. (g.0, g.1.1.0, g.1.1.1.1)), omega arith, omega arith, omega arith, omega arith)
  land_bodies (ccons m b cs) (suc defaultIndex) body dflt default scope B C X D K dd before after h f =
      close (here (seq (land_block b scope B C X _ _ h) (land_bodies cs defaultIndex (body + 1) dflt default scope B C X D K dd _ _ h f))) refl
      (omega arith, omega arith, (λ g. (g.0, g.1.1)), omega arith, omega arith, omega arith, omega arith)

  pub land_blocks : {M : ℕ → ℕ} {o n : ℕ} (cs : Cases) (body : ℕ) (scope : BlockSpan) (B C X before after : ℕ) → Targets M scope B C X →
      Piece M o n (lower_blocks cs body scope) (size_blocks cs zero 0 scope.returns) (count_blocks cs zero 0 scope.returns) [] (range body (length_cases cs)) (body + length_cases cs ≤ n)
      ((B ≡ o + size_blocks cs zero 0 scope.returns + after) × (C + before ≡ o)) (Blocks M cs scope.returns body o) (before + size_blocks cs zero 0 scope.returns ≤ X) (dist_blocks cs zero scope.returns 0 (λ before after. []) before after)
  land_blocks cnil body scope B C X before after h = close nothing refl (omega arith)
  land_blocks (ccons m b cs) body scope B C X before after h =
      close (here (seq (land_block b scope B C X _ _ h) (land_blocks cs (body + 1) scope B C X _ _ h))) refl
      (omega arith, omega arith, (λ g. (g.0, g.1.1)), omega arith, omega arith, omega arith, omega arith)

  -- the cases at the start of a group
  pub land_cases : {M : ℕ → ℕ} {o n : ℕ} (cs : Cases) (at next : ℕ) (scope : BlockSpan) (B C X before after : ℕ) → Targets M scope B C X →
      Piece M o n (lower_cases cs at next none scope) (size_cases cs scope.returns) (count_cases cs scope.returns) [] (next ∷ []) (next < n) ((B ≡ o + size_cases cs scope.returns + after) × (C + before ≡ o)) (M next ≡ o) (before + size_cases cs scope.returns ≤ X) (dist_cases cs scope.returns before after)
  land_cases cnil at next scope B C X before after h = close marks refl (omega arith)
  land_cases {M} {o} {n} (ccons m b cs) at next scope B C X before after h =
      close (labels (land_case m b cs at next n scope.returns scope B C X before after
      (λ o n before after. land_block b scope B C X before after h)
      (λ o n next before after. land_cases cs at next scope B C X before after h)
      (λ o n' next before after. land_joined cs at next n scope B C X before after h))) refl (omega arith)

  -- the cases in a group that is open
  pub land_joined : {M : ℕ → ℕ} {o n : ℕ} (cs : Cases) (at next body : ℕ) (scope : BlockSpan) (B C X before after : ℕ) → Targets M scope B C X →
      Piece M o n (lower_cases cs at next (some body) scope) (size_cases cs scope.returns) (count_cases cs scope.returns) [] (next ∷ body ∷ []) ((next < n) × (body < n)) ((B ≡ o + size_cases cs scope.returns + after) × (C + before ≡ o)) ((M next ≡ o) × Joined M cs body o) (before + size_cases cs scope.returns ≤ X) (dist_cases cs scope.returns before after)
  land_joined cnil at next body scope B C X before after h = close marks refl (omega arith)
  land_joined (ccons m b cs) at next body scope B C X before after h =
      land_case m b cs at next body scope.returns scope B C X before after
      (λ o n before after. land_block b scope B C X before after h)
      (λ o n next before after. land_cases cs at next scope B C X before after h)
      (λ o n next before after. land_joined cs at next body scope B C X before after h)

  pub land_last : {M : ℕ → ℕ} {o n : ℕ} (d : Default) (at : ℕ) (scope : BlockSpan) (B C X before after : ℕ) → Targets M scope B C X →
      Inside M o n B C X (lower_last d at scope) (size_last d scope.returns) (count_last d scope.returns) before after (dist_last d scope.returns before after)
  land_last absent at scope B C X before after h = close nothing refl (omega arith)
  land_last (present b) at scope B C X before after h = close (seq (plain (refl, refl)) (land_block b scope B C X _ _ h)) refl (omega arith)

  pub land_branches : {M : ℕ → ℕ} {o n : ℕ} (bs : Branches) (at next exit : ℕ) (scope : BlockSpan) (B C X rest before after : ℕ) → Targets M scope B C X →
      Piece M o n (lower_branches bs at next exit scope) (size_branches bs scope.returns) (count_branches bs scope.returns) [] (next ∷ []) (next < n)
      ((M exit ≡ o + size_branches bs scope.returns + rest) × (B ≡ o + size_branches bs scope.returns + after) × (C + before ≡ o)) Unit (before + size_branches bs scope.returns ≤ X) (dist_branches bs scope.returns rest before after)
  land_branches brnil at next exit scope B C X rest before after h = close nothing refl (omega arith)
  land_branches (brcons c b bs) at next exit scope B C X rest before after h =
      close (seq (carry (refl, refl)) (seq (land_expr c) (seq (land_block b scope B C X _ _ h) (seq (carry (refl, refl)) (seq marks (labels (land_branches bs at _ exit scope B C X _ _ _ h))))))) refl (omega arith)

  pub land_default : {M : ℕ → ℕ} {o n : ℕ} (d : Default) (scope : BlockSpan) (B C X before after : ℕ) → Targets M scope B C X →
      Inside M o n B C X (lower_default d scope) (size_default d scope.returns) (count_default d scope.returns) before after (dist_default d scope.returns before after)
  land_default absent scope B C X before after h = close nothing refl (omega arith)
  land_default (present b) scope B C X before after h = land_block b scope B C X before after h

  pub land_block : {M : ℕ → ℕ} {o n : ℕ} (b : Block) (scope : BlockSpan) (B C X before after : ℕ) → Targets M scope B C X →
      Inside M o n B C X (lower_block b scope) (size_block b scope.returns) (count_block b scope.returns) before after (dist_block b scope.returns before after)
  land_block bnil scope B C X before after h = close nothing refl (omega arith)
  land_block (bcons s b) scope B C X before after h = close (seq (land_stmt s scope B C X _ _ h) (land_block b scope B C X _ _ h)) refl (omega arith)
