-- For each kind of statement that is read, and for an item of Branches or Switch: where its parts are. Assumes nothing.
use Prim.Native.Nat.{ℕ, zero, suc, ◌+◌, ◌-◌, ◌<◌}
use mathlib.Core.Path.{◌≡◌, refl, sym, ap}
use mathlib.Core.List.{List}
use native.Mathlib.Omega.{arith}
use lib.ListN.{get_or}
use Rattle.definitions.specs.Answer.{ok}
use Rattle.definitions.specs.Bytes.{number}
use Rattle.definitions.specs.Tree.{Expr, Stmt, Block, Default, expr, block, while, branches, switch, init_array, break, continue, return, return_nothing, absent, present, block_of, exprs_of, branches_of, cases_of}
use Rattle.definitions.specs.Read.{◌>>=◌, give, unknown_kind, pick, byte_below, run, arm, block_if, return_if, as_expr, as_block, as_while, as_branches, as_switch, as_init_array, as_init_default, as_break, as_continue, as_return, stmt_kinds, stmt_body, parse_expr, parse_stmt}
use Rattle.ir.specs.Places.{end_of, RunAt, ByteAt, EvalAt, BlockAt, WhileAt, ArmAt, DefaultAt, none, some, BranchesAt, SwitchAt, InitArrayAt, InitDefaultAt, BreakAt, ContinueAt, ReturnAt, nothing, value}
use Rattle.laws.proofs.Arms.{Nones, past}
use Rattle.ir.proofs.Inversion.{refused_not_ok, bind_ok, stmt_ok, child_ok, unsigned_ok, byte_below_ok, run_ok, give_ok}
use Rattle.ir.proofs.ExprPlaces.{no_kind_past}

-- an item of Branches or Switch
pub arm_at : (d : ℕ) (s : List ℕ) (holder at : ℕ) {x : Expr × Block} {n : ℕ} → arm s (parse_expr d s) (parse_stmt d s) holder at ≡ ok x n → ArmAt d s holder at x.0 x.1 n
unfolding arm
arm_at d s holder at e =
    let a = child_ok d s holder _ at e in
    let l = run_ok s holder (parse_stmt d s) _ a.1 a.3 in
    let g = give_ok (a.0, block_of l.0) (end_of s a.1) l.2 in
    record {
      body = l.0;
      second = a.1;
      one = rw (ap (λ y. y.0) (sym g.0)) at a.2;
      run = rw g.1 at l.1;
      block_is = ap (λ y. y.1) g.0;
    }

pub arm_moves : (d : ℕ) (s : List ℕ) (stop at : ℕ) (x : Expr × Block) (n : ℕ) → arm s (parse_expr d s) (parse_stmt d s) stop at ≡ ok x n → at < n
arm_moves d s stop at x n e = let a = arm_at d s stop at e in omega (arith, a.one.head, a.run.head)

-- what a mark says is there, which ends the node
default_at : (d : ℕ) (s : List ℕ) (stop at m : ℕ) (x : Default) → block_if m (run s stop (parse_stmt d s)) at ≡ ok x stop → DefaultAt d s stop at m x
unfolding block_if
default_at d s stop at zero x e = let g = give_ok absent at e in rw g.0 (none g.1)
default_at d s stop at (suc m) x e =
    let l = run_ok s stop (parse_stmt d s) _ at e in
    let g = give_ok (present (block_of l.0)) (end_of s at) l.2 in
    rw g.0 (some l.0 (rw g.1 at l.1))

-- a default, and the statement that is made of it
default_ok : (d : ℕ) (s : List ℕ) (stop at m : ℕ) (k : Default → Stmt) {t : Stmt} → (block_if m (run s stop (parse_stmt d s)) >>= λ x. give (k x)) at ≡ ok t stop → (x : Default) × DefaultAt d s stop at m x × (t ≡ k x)
unfolding ◌>>=◌
default_ok d s stop at m k e =
    let h = bind_ok (block_if m (run s stop (parse_stmt d s)) at) _ e in
    let g = give_ok (k h.0) h.1 h.3 in
    (h.0, default_at d s stop at m h.0 (rw g.1 at h.2), g.0)

-- a Switch from its default mark on, which stands at p + 4
cases_ok : (d : ℕ) (s : List ℕ) (at stop p : ℕ) (k : List (Expr × Block) → Default → Stmt) {t : Stmt}
    → (byte_below s at stop 2 >>= λ m. (run s stop (arm s (parse_expr d s) (parse_stmt d s)) >>= λ cs. (block_if m (run s stop (parse_stmt d s)) >>= λ x. give (k cs x)))) (p + 4) ≡ ok t stop
    → (cs : List (Expr × Block)) × (x : Default) × ByteAt s stop 2 (p + 4) × RunAt s stop (arm s (parse_expr d s) (parse_stmt d s)) (p + 5) cs (end_of s (p + 5))
    × DefaultAt d s stop (end_of s (p + 5)) (get_or s (p + 4) 0) x × (t ≡ k cs x)
cases_ok d s at stop p k e =
    let m = byte_below_ok s at stop 2 _ (p + 4) e in
    let five : p + 4 + 1 ≡ p + 5 = omega arith in
    let l = run_ok s stop (arm s (parse_expr d s) (parse_stmt d s)) _ (p + 5) (rw five at m.1) in
    let x = default_ok d s stop (end_of s (p + 5)) (get_or s (p + 4) 0) (k l.0) l.2 in
    (l.0, x.0, m.0, l.1, x.1, x.2)

return_at : (d : ℕ) (s : List ℕ) (at stop m : ℕ) (t : Stmt) → return_if m at (parse_expr d s stop) (at + 6) ≡ ok t stop → ReturnAt d s at stop m t
unfolding return_if
return_at d s at stop zero t e = let g = give_ok (return_nothing at) (at + 6) e in rw g.0 (nothing g.1)
return_at d s at stop (suc m) t e =
    let a = child_ok d s stop _ (at + 6) e in
    let g = give_ok (return at a.0) a.1 a.3 in
    rw g.0 (value a.0 (rw g.1 at a.2))

module _ (depth : ℕ) (s : List ℕ) (holder at : ℕ) (t : Stmt) (stop : ℕ) (r : parse_stmt depth s holder at ≡ ok t stop) where
  reads_as : (k : ℕ) → get_or s (at + 4) 0 ≡ k → stmt_body s (parse_expr (depth - 1) s) (parse_stmt (depth - 1) s) k at stop (at + 5) ≡ ok t stop
  reads_as k h = let i = stmt_ok depth s holder at r in rw (← i.1.next, h) at i.1.reads

  pub eval_at : get_or s (at + 4) 0 ≡ 1 → EvalAt (depth - 1) s at stop t
  unfolding stmt_body stmt_kinds pick as_expr
  eval_at k =
      let a = child_ok (depth - 1) s stop _ (at + 5) (reads_as 1 k) in
      let g = give_ok (expr at a.0) a.1 a.3 in
      record { value = a.0; one = rw g.1 at a.2; tree = g.0 }

  pub block_at : get_or s (at + 4) 0 ≡ 2 → BlockAt (depth - 1) s at stop t
  unfolding stmt_body stmt_kinds pick as_block
  block_at k =
      let l = run_ok s stop (parse_stmt (depth - 1) s) _ (at + 5) (reads_as 2 k) in
      let g = give_ok (block at (block_of l.0)) (end_of s (at + 5)) l.2 in
      record { body = l.0; run = rw g.1 at l.1; tree = g.0 }

  pub while_at : get_or s (at + 4) 0 ≡ 3 → WhileAt (depth - 1) s at stop t
  unfolding stmt_body stmt_kinds pick as_while
  while_at k =
      let a = child_ok (depth - 1) s stop _ (at + 5) (reads_as 3 k) in
      let l = run_ok s stop (parse_stmt (depth - 1) s) _ a.1 a.3 in
      let g = give_ok (while at a.0 (block_of l.0)) (end_of s a.1) l.2 in
      record { test = a.0; body = l.0; second = a.1; one = a.2; run = rw g.1 at l.1; tree = g.0 }

  pub branches_at : get_or s (at + 4) 0 ≡ 4 → BranchesAt (depth - 1) s at stop t
  unfolding stmt_body stmt_kinds pick as_branches
  branches_at k =
      let l = run_ok s stop (arm s (parse_expr (depth - 1) s) (parse_stmt (depth - 1) s)) _ (at + 5) (reads_as 4 k) in
      let m = byte_below_ok s at stop 2 _ (end_of s (at + 5)) l.2 in
      let d = default_ok (depth - 1) s stop (end_of s (at + 5) + 1) (get_or s (end_of s (at + 5)) 0) (branches at (branches_of l.0)) m.1 in
      record { arms = l.0; default = d.0; list = end_of s (at + 5); run = l.1; mark = m.0; last = d.1; tree = d.2 }

  pub switch_at : get_or s (at + 4) 0 ≡ 5 → SwitchAt (depth - 1) s at stop t
  unfolding stmt_body stmt_kinds pick as_switch
  switch_at k =
      let v = unsigned_ok s at stop 4 _ (at + 5) (reads_as 5 k) in
      let nine : at + 5 + 4 ≡ at + 9 = omega arith in
      let a = child_ok (depth - 1) s stop _ (at + 9) (rw nine at v.1) in
      let i = unsigned_ok s at stop 4 _ a.1 a.3 in
      let c = cases_ok (depth - 1) s at stop a.1 (λ cs x. switch at (number 4 s (at + 5)) a.0 (number 4 s a.1) (cases_of cs) x) i.1 in
      record { scrutinee = a.0; cases = c.0; default = c.1; second = a.1; list = end_of s (a.1 + 5); one = a.2; mark = c.2; run = c.3; last = c.4; tree = c.5 }

  pub init_array_at : get_or s (at + 4) 0 ≡ 6 → InitArrayAt (depth - 1) s at stop t
  unfolding stmt_body stmt_kinds pick as_init_array
  init_array_at k =
      let v = unsigned_ok s at stop 4 _ (at + 5) (reads_as 6 k) in
      let nine : at + 5 + 4 ≡ at + 9 = omega arith in
      let w = unsigned_ok s at stop 4 _ (at + 9) (rw nine at v.1) in
      let thirteen : at + 9 + 4 ≡ at + 13 = omega arith in
      let l = run_ok s stop (parse_expr (depth - 1) s) _ (at + 13) (rw thirteen at w.1) in
      let g = give_ok (init_array at (number 4 s (at + 5)) (number 4 s (at + 9)) (exprs_of l.0)) (end_of s (at + 13)) l.2 in
      record { elements = l.0; run = rw g.1 at l.1; tree = g.0 }

  pub init_default_at : get_or s (at + 4) 0 ≡ 7 → InitDefaultAt s at stop t
  unfolding stmt_body stmt_kinds pick as_init_default
  init_default_at k =
      let v = unsigned_ok s at stop 4 _ (at + 5) (reads_as 7 k) in
      let nine : at + 5 + 4 ≡ at + 9 = omega arith in
      let b = byte_below_ok s at stop 23 _ (at + 9) (rw nine at v.1) in
      let ten : at + 9 + 1 ≡ at + 10 = omega arith in
      let w = unsigned_ok s at stop 4 _ (at + 10) (rw ten at b.1) in
      let g = give_ok _ _ w.1 in
      record { byte = b.0; ends = omega (arith, g.1); tree = g.0 }

  pub break_at : get_or s (at + 4) 0 ≡ 8 → BreakAt at stop t
  unfolding stmt_body stmt_kinds pick as_break
  break_at k = let g = give_ok (break at) (at + 5) (reads_as 8 k) in record { ends = g.1; tree = g.0 }

  pub continue_at : get_or s (at + 4) 0 ≡ 9 → ContinueAt at stop t
  unfolding stmt_body stmt_kinds pick as_continue
  continue_at k = let g = give_ok (continue at) (at + 5) (reads_as 9 k) in record { ends = g.1; tree = g.0 }

  pub returned_at : get_or s (at + 4) 0 ≡ 10 → ByteAt s stop 2 (at + 5) × ReturnAt (depth - 1) s at stop (get_or s (at + 5) 0) t
  unfolding stmt_body stmt_kinds pick as_return
  returned_at k =
      let m = byte_below_ok s at stop 2 _ (at + 5) (reads_as 10 k) in
      let six : at + 5 + 1 ≡ at + 6 = omega arith in
      (m.0, return_at (depth - 1) s at stop (get_or s (at + 5) 0) t (rw six at m.1))

  -- no node of another kind is read
  pub no_other : {X : Type 0} → Nones 0 10 (get_or s (at + 4) 0) → X
  unfolding stmt_body stmt_kinds pick unknown_kind
  no_other h =
      let z : get_or s (at + 4) 0 ≡ 0 → ⊥ = λ k. refused_not_ok (reads_as 0 k) in
      let l : 0 + 10 < get_or s (at + 4) 0 = past 0 10 (get_or s (at + 4) 0) h (omega arith) in
      no_kind_past (stmt_kinds s (parse_expr (depth - 1) s) (parse_stmt (depth - 1) s) at stop) at (get_or s (at + 4) 0) (at + 5) (omega arith) (reads_as (get_or s (at + 4) 0) refl)
