-- How many records a piece of the tree emits.
use Prim.Native.Nat.{ℕ, zero, suc, ◌+◌}
use mathlib.Core.Bool.{cond}
use mathlib.Core.List.{List, [], ◌∷◌}
use lib.ListN.{length}
use Rattle.definitions.specs.Tree.{Expr, Exprs, Stmt, Block, Branches, Cases, Default, nop, const, null, new_instance, construct, assign, field, index, conditional, dyn_cast, local, intrinsic, free_call, static_call, instance_call, closure_call, enil, econs, expr, block, while, branches, switch, init_array, init_default, break, continue, return, return_nothing, bnil, bcons, brnil, brcons, cnil, ccons, absent, present}
use Rattle.definitions.specs.Lower.{default_instrs, mid_default}

-- one more, where a mark says so
unfoldable pub one_if : (mark : ℕ) → ℕ
one_if zero = 0
one_if (suc m) = 1

unfoldable pub count_field : (form receiver : ℕ) → ℕ
count_field zero r = 1 + r
count_field (suc weak) r = 2 + one_if weak + r

unfoldable mutual
  pub count_expr : Expr → ℕ
  count_expr (nop at) = 1
  count_expr (const at b v) = 1
  count_expr (null at weak) = 1
  count_expr (new_instance at class) = 1
  count_expr (construct at class args) = 1 + count_exprs args
  count_expr (assign at p e) = 1 + count_expr p + count_expr e
  count_expr (field at form name e) = count_field form (count_expr e)
  count_expr (index at dynamic type a i) = 1 + count_expr a + count_expr i
  count_expr (conditional at c t e) = 1 + count_expr c + count_expr t + count_expr e
  count_expr (dyn_cast at class weak e) = 1 + count_expr e
  count_expr (local at form i) = 1
  count_expr (intrinsic at code short types i args) = 1 + count_exprs args
  count_expr (free_call at c args) = 2 + count_args args c.params
  count_expr (static_call at c args) = 2 + count_args args c.params
  count_expr (instance_call at weak e c args) = 3 + one_if weak + count_expr e + count_args args c.params
  count_expr (closure_call at e name line args) = 3 + count_expr e + count_exprs args

  pub count_exprs : Exprs → ℕ
  count_exprs enil = 0
  count_exprs (econs e es) = count_expr e + count_exprs es

  pub count_args : Exprs → (params : List ℕ) → ℕ
  count_args enil ps = length ps
  count_args (econs e es) [] = count_expr e + count_args es []
  count_args (econs e es) (p ∷ ps) = one_if p + count_expr e + count_args es ps

unfoldable pub count_elements : Exprs → ℕ
count_elements enil = 0
count_elements (econs e es) = 4 + count_expr e + count_elements es

unfoldable pub count_array : Exprs → ℕ
count_array enil = 0
count_array (econs e es) = 3 + count_elements (econs e es)

-- Return, and the Nop after it in a unit without a return value
unfoldable pub count_return : (returns : ℕ) → ℕ
count_return zero = 2
count_return (suc r) = 1

unfoldable mutual
  pub count_stmt : Stmt → (r : ℕ) → ℕ
  count_stmt (expr at e) r = count_expr e
  count_stmt (block at b) r = count_block b r
  count_stmt (while at c b) r = 2 + count_expr c + count_block b r
  count_stmt (branches at bs d) r = count_branches bs r + count_default d r
  count_stmt (switch at type e defaultIndex cs d) r =
      1 + count_expr e + cond (mid_default d defaultIndex cs) (2 + count_matchers cs + count_blocks cs defaultIndex (count_default d r) r) (count_cases cs r + count_last d r)
  count_stmt (init_array at l t es) r = count_array es
  count_stmt (init_default at l b i) r = length (default_instrs at l b i)
  count_stmt (break at) r = 1
  count_stmt (continue at) r = 1
  count_stmt (return at e) r = count_expr e + count_return r
  count_stmt (return_nothing at) r = 2

  pub count_matchers : Cases → ℕ
  count_matchers cnil = 0
  count_matchers (ccons m b cs) = 1 + count_expr m + count_matchers cs

  -- the blocks, with a default of D records before case `index`
  pub count_blocks : Cases → (defaultIndex D r : ℕ) → ℕ
  count_blocks cnil defaultIndex D r = 0
  count_blocks (ccons m b cs) zero D r = D + count_block b r + count_blocks cs zero 0 r
  count_blocks (ccons m b cs) (suc defaultIndex) D r = count_block b r + count_blocks cs defaultIndex D r

  pub count_cases : Cases → (r : ℕ) → ℕ
  count_cases cnil r = 0
  count_cases (ccons m b cs) r = 1 + count_expr m + count_block b r + count_cases cs r

  pub count_last : Default → (r : ℕ) → ℕ
  count_last absent r = 0
  count_last (present b) r = 1 + count_block b r

  pub count_branches : Branches → (r : ℕ) → ℕ
  count_branches brnil r = 0
  count_branches (brcons c b bs) r = 2 + count_expr c + count_block b r + count_branches bs r

  pub count_default : Default → (r : ℕ) → ℕ
  count_default absent r = 0
  count_default (present b) r = count_block b r

  pub count_block : Block → (r : ℕ) → ℕ
  count_block bnil r = 0
  count_block (bcons s b) r = count_stmt s r + count_block b r
