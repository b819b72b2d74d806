-- A tree with its places moved, and with other free fields (pool indices, lines) and constants.
use Rattle.std.specs.Prelude.{ℕ, ◌+◌}
use Rattle.definitions.specs.Tree.{Callee, Expr, Exprs, Stmt, Block, Branches, Cases, Default, Script, nop, const, null, new_instance, construct, assign, field, index, conditional, dyn_cast, local, intrinsic, free_call, static_call, instance_call, closure_call, enil, econs, expr, block, while, branches, switch, init_array, init_default, break, continue, return, return_nothing, bnil, bcons, brnil, brcons, cnil, ccons, absent, present}

-- what becomes of a place, of a free field, and of the const byte and the value of the constant at a place
pub record Moves : Type 0 where
  pub place : ℕ → ℕ
  pub free : ℕ → ℕ
  pub byte : (at byte value : ℕ) → ℕ
  pub value : (at byte value : ℕ) → ℕ

-- all places k further on, and nothing else
abbrev pub by : (k : ℕ) → Moves
by k = record { place = λ p. p + k; free = λ v. v; byte = λ at b v. b; value = λ at b v. v }

abbrev pub moved_callee : Moves → Callee → Callee
moved_callee m c = record { function = m.free c.function; name = m.free c.name; line = m.free c.line; flags = c.flags; params = c.params }

unfoldable mutual
  pub moved_expr : Moves → Expr → Expr
  moved_expr m (nop at) = nop (m.place at)
  moved_expr m (const at b v) = const (m.place at) (m.byte at b v) (m.value at b v)
  moved_expr m (null at w) = null (m.place at) w
  moved_expr m (new_instance at c) = new_instance (m.place at) (m.free c)
  moved_expr m (construct at c es) = construct (m.place at) (m.free c) (moved_exprs m es)
  moved_expr m (assign at p e) = assign (m.place at) (moved_expr m p) (moved_expr m e)
  moved_expr m (field at f n e) = field (m.place at) f (m.free n) (moved_expr m e)
  moved_expr m (index at d t a i) = index (m.place at) d (m.free t) (moved_expr m a) (moved_expr m i)
  moved_expr m (conditional at c t e) = conditional (m.place at) (moved_expr m c) (moved_expr m t) (moved_expr m e)
  moved_expr m (dyn_cast at c w e) = dyn_cast (m.place at) (m.free c) w (moved_expr m e)
  moved_expr m (local at f i) = local (m.place at) f (m.free i)
  moved_expr m (intrinsic at k s t i es) = intrinsic (m.place at) k s t (m.free i) (moved_exprs m es)
  moved_expr m (free_call at c es) = free_call (m.place at) (moved_callee m c) (moved_exprs m es)
  moved_expr m (static_call at c es) = static_call (m.place at) (moved_callee m c) (moved_exprs m es)
  moved_expr m (instance_call at w e c es) = instance_call (m.place at) w (moved_expr m e) (moved_callee m c) (moved_exprs m es)
  moved_expr m (closure_call at e n l es) = closure_call (m.place at) (moved_expr m e) (m.free n) (m.free l) (moved_exprs m es)

  pub moved_exprs : Moves → Exprs → Exprs
  moved_exprs m enil = enil
  moved_exprs m (econs e es) = econs (moved_expr m e) (moved_exprs m es)

unfoldable mutual
  pub moved_stmt : Moves → Stmt → Stmt
  moved_stmt m (expr at e) = expr (m.place at) (moved_expr m e)
  moved_stmt m (block at b) = block (m.place at) (moved_block m b)
  moved_stmt m (while at c b) = while (m.place at) (moved_expr m c) (moved_block m b)
  moved_stmt m (branches at bs d) = branches (m.place at) (moved_branches m bs) (moved_default m d)
  moved_stmt m (switch at t e i cs d) = switch (m.place at) (m.free t) (moved_expr m e) i (moved_cases m cs) (moved_default m d)
  moved_stmt m (init_array at l t es) = init_array (m.place at) (m.free l) (m.free t) (moved_exprs m es)
  moved_stmt m (init_default at l b i) = init_default (m.place at) (m.free l) b (m.free i)
  moved_stmt m (break at) = break (m.place at)
  moved_stmt m (continue at) = continue (m.place at)
  moved_stmt m (return at e) = return (m.place at) (moved_expr m e)
  moved_stmt m (return_nothing at) = return_nothing (m.place at)

  pub moved_block : Moves → Block → Block
  moved_block m bnil = bnil
  moved_block m (bcons s b) = bcons (moved_stmt m s) (moved_block m b)

  pub moved_branches : Moves → Branches → Branches
  moved_branches m brnil = brnil
  moved_branches m (brcons c b bs) = brcons (moved_expr m c) (moved_block m b) (moved_branches m bs)

  pub moved_cases : Moves → Cases → Cases
  moved_cases m cnil = cnil
  moved_cases m (ccons x b cs) = ccons (moved_expr m x) (moved_block m b) (moved_cases m cs)

  pub moved_default : Moves → Default → Default
  moved_default m absent = absent
  moved_default m (present b) = present (moved_block m b)

abbrev pub moved_script : Moves → Script → Script
moved_script m u = record { returns = u.returns; body = moved_block m u.body }
