-- The tree of a unit. Each node has its place, `at`: the unit offset that a refusal names. Numbers are as the unit has them.
use Rattle.std.specs.Prelude.{ℕ, suc, Bool, true, false, List, [], ◌∷◌}

-- what kinds 13 to 15 say of the function that they call: `params` has a mark for each parameter, 1 if it is short-circuit
pub record Callee : Type 0 where
  pub function : ℕ
  pub name : ℕ
  pub line : ℕ
  pub flags : ℕ
  pub params : List ℕ

-- the 16 kinds of expressions, in order
mutual
  pub data Expr : Type 0 where
    nop : (at : ℕ) → Expr
    const : (at byte value : ℕ) → Expr
    null : (at weak : ℕ) → Expr
    new_instance : (at class : ℕ) → Expr
    construct : (at class : ℕ) → Exprs → Expr
    assign : (at : ℕ) → (place value : Expr) → Expr
    -- by form: 0 of a struct, 1 of an object, 2 of an object by weak reference
    field : (at form name : ℕ) → (receiver : Expr) → Expr
    index : (at dynamic type : ℕ) → (array i : Expr) → Expr
    conditional : (at : ℕ) → (c t e : Expr) → Expr
    dyn_cast : (at class weak : ℕ) → Expr → Expr
    -- by form: 0 This, 1 Local, 2 Param, 3 ObjectField
    local : (at form i : ℕ) → Expr
    -- `short`: some parameter is short-circuit; `types`: how many type arguments there are
    intrinsic : (at code short types i : ℕ) → Exprs → Expr
    free_call : (at : ℕ) → Callee → Exprs → Expr
    static_call : (at : ℕ) → Callee → Exprs → Expr
    instance_call : (at weak : ℕ) → (receiver : Expr) → Callee → Exprs → Expr
    closure_call : (at : ℕ) → (closure : Expr) → (name line : ℕ) → Exprs → Expr

  pub data Exprs : Type 0 where
    enil : Exprs
    econs : Expr → Exprs → Exprs

-- the 10 kinds of statements, in order; a Return with and without an expression
mutual
  pub data Stmt : Type 0 where
    expr : (at : ℕ) → Expr → Stmt
    block : (at : ℕ) → Block → Stmt
    while : (at : ℕ) → (condition : Expr) → Block → Stmt
    branches : (at : ℕ) → Branches → Default → Stmt
    switch : (at type : ℕ) → (scrutinee : Expr) → (defaultIndex : ℕ) → Cases → Default → Stmt
    init_array : (at local type : ℕ) → Exprs → Stmt
    init_default : (at local byte i : ℕ) → Stmt
    break : (at : ℕ) → Stmt
    continue : (at : ℕ) → Stmt
    return : (at : ℕ) → Expr → Stmt
    return_nothing : (at : ℕ) → Stmt

  pub data Block : Type 0 where
    bnil : Block
    bcons : Stmt → Block → Block

  pub data Branches : Type 0 where
    brnil : Branches
    brcons : (condition : Expr) → Block → Branches → Branches

  pub data Cases : Type 0 where
    cnil : Cases
    ccons : (matcher : Expr) → Block → Cases → Cases

  pub data Default : Type 0 where
    absent : Default
    present : Block → Default

-- a unit: its return byte (has_return_value) and its block
pub record Script : Type 0 where
  pub returns : ℕ
  pub body : Block

-- from the lists that are read

unfoldable pub exprs_of : List Expr → Exprs
exprs_of [] = enil
exprs_of (x ∷ xs) = econs x (exprs_of xs)

unfoldable pub block_of : List Stmt → Block
block_of [] = bnil
block_of (x ∷ xs) = bcons x (block_of xs)

unfoldable pub branches_of : List (Expr × Block) → Branches
branches_of [] = brnil
branches_of (x ∷ xs) = brcons x.0 x.1 (branches_of xs)

unfoldable pub cases_of : List (Expr × Block) → Cases
cases_of [] = cnil
cases_of (x ∷ xs) = ccons x.0 x.1 (cases_of xs)

-- how many

unfoldable pub length_exprs : Exprs → ℕ
length_exprs enil = 0
length_exprs (econs e es) = suc (length_exprs es)

unfoldable pub length_cases : Cases → ℕ
length_cases cnil = 0
length_cases (ccons m b cs) = suc (length_cases cs)

unfoldable pub is_present : Default → Bool
is_present absent = false
is_present (present b) = true

-- the place of an expression
unfoldable pub place_of : Expr → ℕ
place_of (nop at) = at
place_of (const at b n) = at
place_of (null at w) = at
place_of (new_instance at c) = at
place_of (construct at c es) = at
place_of (assign at p e) = at
place_of (field at f n e) = at
place_of (index at d t a i) = at
place_of (conditional at c t e) = at
place_of (dyn_cast at c w e) = at
place_of (local at f i) = at
place_of (intrinsic at k s t i es) = at
place_of (free_call at c es) = at
place_of (static_call at c es) = at
place_of (instance_call at w e c es) = at
place_of (closure_call at e n l es) = at
