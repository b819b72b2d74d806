-- The nodes of a tree, by their places; and records that are emitted by one of them.
use Rattle.std.specs.Prelude.{ℕ, List, [], ◌∷◌, ◌++◌, ◌⊎◌, ◌≡◌}
use Rattle.definitions.specs.Instr.{Instr}
use Rattle.definitions.specs.Tree.{Expr, Exprs, Stmt, Block, Branches, Cases, Default, Script, nop, const, null, new_instance, construct, assign, field, index, conditional, dyn_cast, local, intrinsic, free_call, static_call, instance_call, closure_call, enil, econs, expr, block, while, branches, switch, init_array, init_default, break, continue, return, return_nothing, bnil, bcons, brnil, brcons, cnil, ccons, absent, present}
use Rattle.landing.specs.Landed.{Each}

-- 1. The places of all nodes, in unit order: a node before those that it holds

unfoldable mutual
  pub nodes_expr : Expr → List ℕ
  nodes_expr (nop at) = at ∷ []
  nodes_expr (const at b v) = at ∷ []
  nodes_expr (null at w) = at ∷ []
  nodes_expr (new_instance at c) = at ∷ []
  nodes_expr (construct at c es) = at ∷ nodes_exprs es
  nodes_expr (assign at p e) = at ∷ (nodes_expr p ++ nodes_expr e)
  nodes_expr (field at f n e) = at ∷ nodes_expr e
  nodes_expr (index at d t a i) = at ∷ (nodes_expr a ++ nodes_expr i)
  nodes_expr (conditional at c t e) = at ∷ (nodes_expr c ++ (nodes_expr t ++ nodes_expr e))
  nodes_expr (dyn_cast at c w e) = at ∷ nodes_expr e
  nodes_expr (local at f i) = at ∷ []
  nodes_expr (intrinsic at k s t i es) = at ∷ nodes_exprs es
  nodes_expr (free_call at c es) = at ∷ nodes_exprs es
  nodes_expr (static_call at c es) = at ∷ nodes_exprs es
  nodes_expr (instance_call at w e c es) = at ∷ (nodes_expr e ++ nodes_exprs es)
  nodes_expr (closure_call at e n l es) = at ∷ (nodes_expr e ++ nodes_exprs es)

  pub nodes_exprs : Exprs → List ℕ
  nodes_exprs enil = []
  nodes_exprs (econs e es) = nodes_expr e ++ nodes_exprs es

unfoldable mutual
  pub nodes_stmt : Stmt → List ℕ
  nodes_stmt (expr at e) = at ∷ nodes_expr e
  nodes_stmt (block at b) = at ∷ nodes_block b
  nodes_stmt (while at c b) = at ∷ (nodes_expr c ++ nodes_block b)
  nodes_stmt (branches at bs d) = at ∷ (nodes_branches bs ++ nodes_default d)
  nodes_stmt (switch at t e i cs d) = at ∷ (nodes_expr e ++ (nodes_cases cs ++ nodes_default d))
  nodes_stmt (init_array at l t es) = at ∷ nodes_exprs es
  nodes_stmt (init_default at l b i) = at ∷ []
  nodes_stmt (break at) = at ∷ []
  nodes_stmt (continue at) = at ∷ []
  nodes_stmt (return at e) = at ∷ nodes_expr e
  nodes_stmt (return_nothing at) = at ∷ []

  pub nodes_block : Block → List ℕ
  nodes_block bnil = []
  nodes_block (bcons s b) = nodes_stmt s ++ nodes_block b

  pub nodes_branches : Branches → List ℕ
  nodes_branches brnil = []
  nodes_branches (brcons c b bs) = nodes_expr c ++ (nodes_block b ++ nodes_branches bs)

  pub nodes_cases : Cases → List ℕ
  nodes_cases cnil = []
  nodes_cases (ccons m b cs) = nodes_expr m ++ (nodes_block b ++ nodes_cases cs)

  pub nodes_default : Default → List ℕ
  nodes_default absent = []
  nodes_default (present b) = nodes_block b

abbrev pub nodes_of : Script → List ℕ
nodes_of u = nodes_block u.body

-- 2. Records that are emitted by nodes of a script

-- a place is one of these
unfoldable pub Among : ℕ → List ℕ → Type 0
Among p [] = ⊥
Among p (q ∷ qs) = (p ≡ q) ⊎ Among p qs

abbrev pub EmittedBy : Script → List Instr → Type 0
EmittedBy u is = Each (λ i. Among i.node (nodes_of u)) is
