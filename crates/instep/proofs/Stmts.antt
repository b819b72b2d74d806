-- Statements in step, kind by kind, whatever the reading. Assumes nothing.
use Prim.Native.Nat.{ℕ, zero, suc, ◌≤◌}
use mathlib.Core.Path.{◌≡◌, refl, ap}
use mathlib.Core.List.{List, [], ◌∷◌, map}
use native.Mathlib.Omega.{arith}
use lib.ListN.{length, drop}
use Rattle.definitions.specs.Tree.{Expr, Stmt, Block, bcons, brcons, ccons, block_of, branches_of, cases_of}
use Rattle.definitions.specs.Strip.{Part, stmt_parts, parts_of, index, mark, small, value, values, arms, value_if}
use Rattle.definitions.specs.Strip as part
use Rattle.definitions.specs.Read.{Parser, pick, ◌>>=◌, run, as_expr, as_block, as_while, arm, block_if, as_branches, as_switch, as_init_array, as_init_default, as_break, as_continue, return_if, as_return, stmt_kinds, stmt_body, parse_expr, parse_stmt}
use Rattle.ir.proofs.Inversion.{bind_ok, give_ok, run_ok, expr_moves, stmt_moves, expr_at, stmt_at}
use Rattle.instep.specs.Moves.{Moves, moved_expr, moved_stmt, moved_block, moved_branches, moved_cases, moved_default}
use Rattle.instep.proofs.InStep.{InStep, stops, widen, gives, next, onto, unknown}
use Rattle.instep.proofs.Reading.{Reading, AfterWithin, run_rest, parts_rest, kind_rest, expr_rest, stmt_rest}
use Rattle.instep.proofs.Runs.{Advances, AdvancesWithin, Items, field, blank, small as small-step, runs, nodes, Kind as KindInStep, Each, picked}
use Rattle.instep.proofs.Exprs.{moved_exprs_law, expr as expr-step}

pub moved_block_law : (m : Moves) (xs : List Stmt) → moved_block m (block_of xs) ≡ block_of (map (moved_stmt m) xs)
unfolding moved_block block_of
moved_block_law m [] = refl
moved_block_law m (x ∷ xs) = ap (bcons (moved_stmt m x)) (moved_block_law m xs)

abbrev moved_arm : Moves → Expr × Block → Expr × Block
moved_arm m x = (moved_expr m x.0, moved_block m x.1)

moved_branches_law : (m : Moves) (xs : List (Expr × Block)) → moved_branches m (branches_of xs) ≡ branches_of (map (moved_arm m) xs)
unfolding moved_branches branches_of
moved_branches_law m [] = refl
moved_branches_law m (x ∷ xs) = ap (brcons (moved_expr m x.0) (moved_block m x.1)) (moved_branches_law m xs)

moved_cases_law : (m : Moves) (xs : List (Expr × Block)) → moved_cases m (cases_of xs) ≡ cases_of (map (moved_arm m) xs)
unfolding moved_cases cases_of
moved_cases_law m [] = refl
moved_cases_law m (x ∷ xs) = ap (ccons (moved_expr m x.0) (moved_block m x.1)) (moved_cases_law m xs)

-- an arm is a byte at least, and ends where its holder does, or before
arm_goes : (s : List ℕ) (inside : ℕ → Parser Expr) (child : ℕ → Parser Stmt) → Advances inside → AdvancesWithin (arm s inside child)
unfolding arm ◌>>=◌
arm_goes s inside child goes to n x o e =
    let h = bind_ok (inside to n) _ e in
    let l = goes to n h.0 h.1 h.2 in
    let r = run_ok s to child _ h.1 h.3 in
    let g = give_ok (h.0, block_of r.0) _ r.2 in
    (omega (arith, l, r.1.head, g.1), omega (arith, r.1.tail, g.1))

-- 1. The kinds of a node at `at` that ends at `end`, with what is in it in step

module _ {s t : List ℕ} {m : Moves} (P : Reading s t m) (inside inside' : ℕ → Parser Expr) (child child' : ℕ → Parser Stmt) (v c : ℕ → P.Rest → P.Rest)
    (at end : ℕ) (near : end ≤ P.most) (each : Items P (moved_expr m) v P.most inside inside') (reach : AdvancesWithin inside) (reach' : Advances inside')
    (every : Items P (moved_stmt m) c P.most child child') (goes : AdvancesWithin child) (goes' : Advances child') where
  abbrev Kind : (n : ℕ) → Parser Stmt → Parser Stmt → List Part → Type 0
  Kind n p p' ps = KindInStep P (moved_stmt m) v c at end n p p' ps

  -- an expression in it, a run of them, and a run of statements
  one : {C : P.Rest} {n : ℕ} → AfterWithin P end (v end C) n
      → InStep m.place n (moved_expr m) (λ x n. AfterWithin P end C n) (inside end) (inside' (m.place end))
  one {n = n} h = widen (λ x o e i. (i, (reach end n x o e).1)) (each end near _ _ h.1 h.0)

  many : {n : ℕ} (rest : ℕ → P.Rest) → AfterWithin P end (run_rest P end v rest) n
      → InStep m.place n (map (moved_expr m)) (λ xs n. AfterWithin P end (rest (length xs)) n) (run s end inside) (run t (m.place end) inside')
  many rest h = runs P rest inside inside' v end near reach reach' (λ to l. each to (omega arith)) h

  blocks : {n : ℕ} (rest : ℕ → P.Rest) (to : ℕ) → to ≤ P.most → AfterWithin P to (run_rest P to c rest) n
      → InStep m.place n (map (moved_stmt m)) (λ xs n. AfterWithin P to (rest (length xs)) n) (run s to child) (run t (m.place to) child')
  blocks rest to l h = runs P rest child child' c to l goes goes' (λ o i. every o (omega arith)) h

  -- a condition (a matcher) and its block
  arm_step : (to : ℕ) → to ≤ P.most → (C : P.Rest) (n : ℕ) → n ≤ to → P.After (v to (run_rest P to c (λ k. C))) n
      → InStep m.place n (moved_arm m) (λ x n. P.After C n) (arm s inside child to) (arm t inside' child' (m.place to))
  unfolding arm
  arm_step to l C n y h =
      next (each to l _ n y h) (λ x x' d o i r. next (blocks (λ k. C) to l (i, (reach to n x o r).1)) (λ xs xs' b q j r.
      gives (x, block_of xs) (x', block_of xs') j.0 (cc (d, b, moved_block_law m xs))))

  arms_step : {n : ℕ} (rest : ℕ → P.Rest) → AfterWithin P end (run_rest P end (λ to D. v to (run_rest P to c (λ k. D))) rest) n
      → InStep m.place n (map (moved_arm m)) (λ xs n. AfterWithin P end (rest (length xs)) n) (run s end (arm s inside child))
      (run t (m.place end) (arm t inside' child'))
  arms_step rest h =
      runs P rest (arm s inside child) (arm t inside' child') (λ to D. v to (run_rest P to c (λ k. D))) end near
      (arm_goes s inside child (λ to n x o e. (reach to n x o e).0)) (λ to n x o e. (arm_goes t inside' child' reach' to n x o e).0)
      (λ to l. arm_step to (omega arith)) h

  -- what a mark says is there
  default_if : {n : ℕ} (C : P.Rest) (i : ℕ) → AfterWithin P end (parts_rest P v c end (part.block_if ∷ []) i C) n
      → InStep m.place n (moved_default m) (λ x n. AfterWithin P end (P.close end C) n) (block_if i (run s end child)) (block_if i (run t (m.place end) child'))
  unfolding block_if moved_default parts_rest
  default_if C zero h = gives _ _ h refl
  default_if C (suc i) h = next (blocks _ end near h) (λ xs xs' d n h r. gives _ _ h (cc (d, moved_block_law m xs)))

  value_if_step : {n : ℕ} (C : P.Rest) (i : ℕ) → AfterWithin P end (parts_rest P v c end (value_if ∷ []) i C) n
      → InStep m.place n (moved_stmt m) (λ x n. AfterWithin P end (P.close end C) n) (return_if i at (inside end))
      (return_if i (m.place at) (inside' (m.place end)))
  unfolding return_if moved_stmt parts_rest
  value_if_step C zero h = gives _ _ h refl
  value_if_step C (suc i) h = next (one h) (λ x x' d n h r. gives _ _ h (cc d))

  expr : (n : ℕ) → Kind n (as_expr inside at end) (as_expr inside' (m.place at) (m.place end)) (value ∷ [])
  unfolding as_expr moved_stmt parts_rest
  expr n C h = next (one h) (λ x x' d n h r. gives _ _ h (cc d))

  block : (n : ℕ) → Kind n (as_block s child at end) (as_block t child' (m.place at) (m.place end)) (part.block ∷ [])
  unfolding as_block moved_stmt parts_rest
  block n C h = next (blocks _ end near h) (λ xs xs' d n h r. gives _ _ h (cc (d, moved_block_law m xs)))

  while : (n : ℕ) → Kind n (as_while s inside child at end) (as_while t inside' child' (m.place at) (m.place end)) (value ∷ part.block ∷ [])
  unfolding as_while moved_stmt parts_rest
  while n C h =
      next (one h) (λ x x' e n h r. next (blocks _ end near h) (λ xs xs' d n h r. gives _ _ h (cc (e, d, moved_block_law m xs))))

  branches : (n : ℕ) → Kind n (as_branches s inside child at end) (as_branches t inside' child' (m.place at) (m.place end)) (arms ∷ mark ∷ part.block_if ∷ [])
  unfolding as_branches moved_stmt parts_rest
  branches n C h =
      next (arms_step _ h) (λ xs xs' d n h r.
      onto (small-step P {next = λ i. parts_rest P v c end (part.block_if ∷ []) i C} at end 2 near h) (λ i n h r.
      next (default_if C i h) (λ x x' e n h r. gives _ _ h (cc (d, e, moved_branches_law m xs)))))

  switch : (n : ℕ)
      → Kind n (as_switch s inside child at end) (as_switch t inside' child' (m.place at) (m.place end))
      (index ∷ value ∷ part.kept 4 ∷ mark ∷ arms ∷ part.block_if ∷ [])
  unfolding as_switch moved_stmt parts_rest
  switch n C h =
      next (blank P at end 4 near h) (λ y y' a n h r. next (one h) (λ p p' b n h r.
      onto (field P at end 4 near h) (λ i n h r.
      onto (small-step P {next = λ j. parts_rest P v c end (arms ∷ part.block_if ∷ []) j C} at end 2 near h) (λ j n h r.
      next (arms_step _ h) (λ xs xs' d n h r. next (default_if C j h) (λ x x' e n h r. gives _ _ h (cc (a, b, d, e, moved_cases_law m xs))))))))

  init_array : (n : ℕ) → Kind n (as_init_array s inside at end) (as_init_array t inside' (m.place at) (m.place end)) (index ∷ index ∷ values ∷ [])
  unfolding as_init_array moved_stmt parts_rest
  init_array n C h =
      next (blank P at end 4 near h) (λ x x' e n h r. next (blank P at end 4 near h) (λ y y' f n h r.
      next (many _ h) (λ xs xs' d n h r. gives _ _ h (cc (e, f, d, moved_exprs_law m xs)))))

  init_default : (n : ℕ) → Kind n (as_init_default s at end) (as_init_default t (m.place at) (m.place end)) (index ∷ small 23 ∷ index ∷ [])
  unfolding as_init_default moved_stmt parts_rest
  init_default n C h =
      next (blank P at end 4 near h) (λ x x' e n h r. onto (small-step P at end 23 near h) (λ b n h r.
      next (blank P at end 4 near h) (λ y y' f n h r. gives _ _ h (cc (e, f)))))

  break : (n : ℕ) → Kind n (as_break at) (as_break (m.place at)) []
  unfolding as_break moved_stmt parts_rest
  break n C h = gives _ _ h refl

  continue : (n : ℕ) → Kind n (as_continue at) (as_continue (m.place at)) []
  unfolding as_continue moved_stmt parts_rest
  continue n C h = gives _ _ h refl

  return : (n : ℕ) → Kind n (as_return s inside at end) (as_return t inside' (m.place at) (m.place end)) (mark ∷ value_if ∷ [])
  unfolding as_return parts_rest
  return n C h = onto (small-step P {next = λ i. parts_rest P v c end (value_if ∷ []) i C} at end 2 near h) (λ i n h r. value_if_step C i h)

  -- all of them: none for 0, and then those of the tables
  each_kind : (n : ℕ)
      → Each P (moved_stmt m) v c at end n (drop 1 (stmt_kinds s inside child at end))
      (drop 1 (stmt_kinds t inside' child' (m.place at) (m.place end))) stmt_parts
  unfolding Each stmt_kinds stmt_parts
  each_kind n = (expr n, (block n, (while n, (branches n, (switch n, (init_array n, (init_default n, (break n, (continue n, (return n, tt))))))))))

  body : (kind n : ℕ) (C : P.Rest) → AfterWithin P end (kind_rest P v c end (parts_of stmt_parts kind) C) n
      → InStep m.place n (moved_stmt m) (λ a n. AfterWithin P end (P.close end C) n) (stmt_body s inside child kind at end)
      (stmt_body t inside' child' kind (m.place at) (m.place end))
  unfolding stmt_body stmt_kinds parts_of pick
  body zero n C h = unknown at
  body (suc k) n C h = picked P (moved_stmt m) v c at end n _ _ stmt_parts (each_kind n) k C h

-- 2. A statement of a depth, in a holder within the unit

pub stmt : {s t : List ℕ} {m : Moves} (P : Reading s t m) (d holder : ℕ) → holder ≤ P.most → (C : P.Rest) (at : ℕ) → at ≤ holder
    → P.After (stmt_rest P d holder C) at → InStep m.place at (moved_stmt m) (λ x n. P.After C n) (parse_stmt d s holder) (parse_stmt d t (m.place holder))
unfolding parse_stmt stmt_rest
stmt P zero holder near C at l h = stops 4 at 0 refl refl
stmt {s} {t} {m} P (suc d) holder near C at y h =
    nodes P C (stmt_body s (parse_expr d s) (parse_stmt d s)) (stmt_body t (parse_expr d t) (parse_stmt d t)) holder stmt_parts
    (expr_rest P d) (stmt_rest P d) near
    (λ kind end n l i.
    body P (parse_expr d s) (parse_expr d t) (parse_stmt d s) (parse_stmt d t) (expr_rest P d) (stmt_rest P d) at end (omega arith)
    (λ to o D n x j. expr-step P d to o D n x j) (λ to n x o e. (expr_moves d s to n x o e, (expr_at d s to n e).tail))
    (λ to n x o e. expr_moves d t to n x o e)
    (λ to o D n x j. stmt P d to o D n x j) (λ to n x o e. (stmt_moves d s to n x o e, (stmt_at d s to n e).tail))
    (λ to n x o e. stmt_moves d t to n x o e) kind n C i) (h, y)
