-- The landing table of document 01, on the tree alone: "No label, mark or offset is looked at."
-- "Forward, a distance is the carrier's size plus the sizes of all emitted between it and the point where it lands;
-- backward, minus the sizes of all from that point up to the carrier, without it."
-- Here Jump, Nop and the like are the virtual sizes of those instructions, not their tags.
use Rattle.std.specs.Prelude.{ℕ, zero, suc, ◌+◌, cond, List, [], ◌∷◌, ◌++◌, ℤ, pos, neg_ℤ}
use Rattle.definitions.specs.Tag
use Rattle.definitions.specs.Tag.{tag_size, const_tag, intrinsic_of}
use Rattle.definitions.specs.Tree.{Callee, Expr, Exprs, Stmt, Block, Branches, Cases, Default, Script, nop, const, null, new_instance, construct, assign, field, index, conditional, dyn_cast, local, intrinsic, free_call, static_call, instance_call, closure_call, enil, econs, expr, block, while, branches, switch, init_array, init_default, break, continue, return, return_nothing, bnil, bcons, brnil, brcons, cnil, ccons, absent, present}
use Rattle.definitions.specs.Lower.{null_tag, element_tag, local_tag, default_instrs, mid_default, ends_group}
use Rattle.definitions.specs.Stage.{total_size}

-- so many units on from the start of the carrier
abbrev pub ahead : ℕ → ℤ
ahead n = pos n

-- so many units back from it
unfoldable pub back : ℕ → ℤ
back n = neg_ℤ (pos n)

infixr 20 ◌and◌
abbrev pub ◌and◌ : List ℤ → List ℤ → List ℤ
a and b = a ++ b

-- 1. The virtual sizes of the instructions that the table names, and of those around them

abbrev pub Nop : ℕ
Nop = tag_size Tag.Nop

abbrev pub U64Const : ℕ
U64Const = tag_size Tag.U64Const

abbrev pub Assign : ℕ
Assign = tag_size Tag.Assign

abbrev pub Local : ℕ
Local = tag_size Tag.Local

abbrev pub ObjectField : ℕ
ObjectField = tag_size Tag.ObjectField

abbrev pub Switch : ℕ
Switch = tag_size Tag.Switch

abbrev pub SwitchLabel : ℕ
SwitchLabel = tag_size Tag.SwitchLabel

abbrev pub SwitchDefault : ℕ
SwitchDefault = tag_size Tag.SwitchDefault

abbrev pub Jump : ℕ
Jump = tag_size Tag.Jump

abbrev pub JumpIfFalse : ℕ
JumpIfFalse = tag_size Tag.JumpIfFalse

abbrev pub Skip : ℕ
Skip = tag_size Tag.Skip

abbrev pub Conditional : ℕ
Conditional = tag_size Tag.Conditional

abbrev pub Construct : ℕ
Construct = tag_size Tag.Construct

abbrev pub InvokeStatic : ℕ
InvokeStatic = tag_size Tag.InvokeStatic

abbrev pub InvokeVirtual : ℕ
InvokeVirtual = tag_size Tag.InvokeVirtual

abbrev pub ParamEnd : ℕ
ParamEnd = tag_size Tag.ParamEnd

abbrev pub Return : ℕ
Return = tag_size Tag.Return

abbrev pub StructField : ℕ
StructField = tag_size Tag.StructField

abbrev pub Context : ℕ
Context = tag_size Tag.Context

abbrev pub New : ℕ
New = tag_size Tag.New

abbrev pub ArrayResize : ℕ
ArrayResize = tag_size Tag.ArrayResize

abbrev pub ArrayElement : ℕ
ArrayElement = tag_size Tag.ArrayElement

abbrev pub DynamicCast : ℕ
DynamicCast = tag_size Tag.DynamicCast

abbrev pub WeakRefToRef : ℕ
WeakRefToRef = tag_size Tag.WeakRefToRef

-- 2. Sizes: "A piece of the tree has as its size the sum of the virtual sizes of the instructions it emits, its children's among them"

-- WeakRefToRef, where an object is reached by weak reference
unfoldable pub size_weak : (weak : ℕ) → ℕ
size_weak zero = 0
size_weak (suc w) = WeakRefToRef

-- a field, with the size of its receiver
unfoldable pub size_field : (form receiver : ℕ) → ℕ
size_field zero r = StructField + r
size_field (suc weak) r = Context + size_weak weak + r + ObjectField

-- Skip, before the argument of a short-circuit parameter
unfoldable pub size_skip : (shortCircuit : ℕ) → ℕ
size_skip zero = 0
size_skip (suc s) = Skip

unfoldable pub size_nops : (params : List ℕ) → ℕ
size_nops [] = 0
size_nops (p ∷ ps) = Nop + size_nops ps

unfoldable pub size_invoke : (flagByte : ℕ) → ℕ
size_invoke zero = InvokeVirtual
size_invoke (suc b) = InvokeStatic

-- an invoke, with the size of its arguments, and ParamEnd
abbrev pub size_call : Callee → (arguments : ℕ) → ℕ
size_call c arguments = size_invoke c.flags + arguments + ParamEnd

unfoldable mutual
  pub size_expr : Expr → ℕ
  size_expr (nop at) = Nop
  size_expr (const at b v) = tag_size (const_tag b v)
  size_expr (null at weak) = tag_size (null_tag weak)
  size_expr (new_instance at class) = New
  size_expr (construct at class args) = Construct + size_exprs args
  size_expr (assign at p e) = Assign + size_expr p + size_expr e
  size_expr (field at form name e) = size_field form (size_expr e)
  size_expr (index at dynamic type a i) = tag_size (element_tag dynamic) + size_expr a + size_expr i
  size_expr (conditional at c t e) = Conditional + size_expr c + size_expr t + size_expr e
  size_expr (dyn_cast at class weak e) = DynamicCast + size_expr e
  size_expr (local at form i) = tag_size (local_tag form)
  size_expr (intrinsic at code short types i args) = tag_size (intrinsic_of code).tag + size_exprs args
  size_expr (free_call at c args) = size_call c (size_args args c.params)
  size_expr (static_call at c args) = size_call c (size_args args c.params)
  size_expr (instance_call at weak e c args) = Context + size_weak weak + size_expr e + size_call c (size_args args c.params)
  size_expr (closure_call at e name line args) = Context + size_expr e + (InvokeVirtual + size_exprs args + ParamEnd)

  pub size_exprs : Exprs → ℕ
  size_exprs enil = 0
  size_exprs (econs e es) = size_expr e + size_exprs es

  -- arguments, and a Nop for each that is absent
  pub size_args : Exprs → (params : List ℕ) → ℕ
  size_args enil ps = size_nops ps
  size_args (econs e es) [] = size_expr e + size_args es []
  size_args (econs e es) (p ∷ ps) = size_skip p + size_expr e + size_args es ps

-- the elements of an InitArray, each with what stands before it; and all of it
unfoldable pub size_elements : Exprs → ℕ
size_elements enil = 0
size_elements (econs e es) = Assign + ArrayElement + Local + U64Const + size_expr e + size_elements es

unfoldable pub size_array : Exprs → ℕ
size_array enil = 0
size_array (econs e es) = ArrayResize + Local + U64Const + size_elements (econs e es)

-- the Nop after a Return in a unit without a return value
unfoldable pub size_after_return : (returns : ℕ) → ℕ
size_after_return zero = Nop
size_after_return (suc r) = 0

-- statements, in a unit with the return byte `r`
unfoldable mutual
  pub size_stmt : Stmt → (r : ℕ) → ℕ
  size_stmt (expr at e) r = size_expr e
  size_stmt (block at b) r = size_block b r
  size_stmt (while at c b) r = JumpIfFalse + size_expr c + size_block b r + Jump
  size_stmt (branches at bs d) r = size_branches bs r + size_default d r
  size_stmt (switch at type e defaultIndex cs d) r =
      Switch + size_expr e + cond (mid_default d defaultIndex cs) (size_matchers cs + SwitchDefault + Jump + size_blocks cs defaultIndex (size_default d r) r) (size_cases cs r + size_last d r)
  size_stmt (init_array at l t es) r = size_array es
  size_stmt (init_default at l b i) r = total_size (default_instrs at l b i)
  size_stmt (break at) r = Jump
  size_stmt (continue at) r = Jump
  size_stmt (return at e) r = Return + size_expr e + size_after_return r
  size_stmt (return_nothing at) r = Return + Nop

  -- the SwitchLabels with their matchers
  pub size_matchers : Cases → ℕ
  size_matchers cnil = 0
  size_matchers (ccons m b cs) = SwitchLabel + size_expr m + size_matchers cs

  -- the blocks, with a default of size D before case `index`
  pub size_blocks : Cases → (defaultIndex D r : ℕ) → ℕ
  size_blocks cnil defaultIndex D r = 0
  size_blocks (ccons m b cs) zero D r = D + size_block b r + size_blocks cs zero 0 r
  size_blocks (ccons m b cs) (suc defaultIndex) D r = size_block b r + size_blocks cs defaultIndex D r

  -- SwitchLabels, matchers and blocks
  pub size_cases : Cases → (r : ℕ) → ℕ
  size_cases cnil r = 0
  size_cases (ccons m b cs) r = SwitchLabel + size_expr m + size_block b r + size_cases cs r

  pub size_last : Default → (r : ℕ) → ℕ
  size_last absent r = 0
  size_last (present b) r = SwitchDefault + size_block b r

  pub size_branches : Branches → (r : ℕ) → ℕ
  size_branches brnil r = 0
  size_branches (brcons c b bs) r = JumpIfFalse + size_expr c + size_block b r + Jump + size_branches bs r

  pub size_default : Default → (r : ℕ) → ℕ
  size_default absent r = 0
  size_default (present b) r = size_block b r

  pub size_block : Block → (r : ℕ) → ℕ
  size_block bnil r = 0
  size_block (bcons s b) r = size_stmt s r + size_block b r

-- 3. Distances of expressions, in listing order: "a record's first before its second"

-- Context of a field: past ObjectField
unfoldable pub dist_field : (form size : ℕ) → List ℤ → List ℤ
dist_field zero r ds = ds
dist_field (suc weak) r ds = ahead (Context + size_weak weak + r + ObjectField) ∷ ds

-- Skip: past the argument
unfoldable pub dist_skip : (shortCircuit size : ℕ) → List ℤ → List ℤ
dist_skip zero a ds = ds
dist_skip (suc s) a ds = ahead (Skip + a) ∷ ds

-- invoke: past ParamEnd
abbrev pub dist_call : Callee → (arguments : ℕ) → List ℤ → List ℤ
dist_call c arguments ds = ahead (size_call c arguments) ∷ ds

unfoldable mutual
  pub dist_expr : Expr → List ℤ
  dist_expr (nop at) = []
  dist_expr (const at b v) = []
  dist_expr (null at weak) = []
  dist_expr (new_instance at class) = []
  dist_expr (construct at class args) = dist_exprs args
  dist_expr (assign at p e) = dist_expr p and dist_expr e
  dist_expr (field at form name e) = dist_field form (size_expr e) (dist_expr e)
  dist_expr (index at dynamic type a i) = dist_expr a and dist_expr i
  -- Conditional: else part; past it
  dist_expr (conditional at c t e) =
      ahead (Conditional + size_expr c + size_expr t) ∷ ahead (Conditional + size_expr c + size_expr t + size_expr e) ∷ (dist_expr c and dist_expr t and dist_expr e)
  dist_expr (dyn_cast at class weak e) = dist_expr e
  dist_expr (local at form i) = []
  dist_expr (intrinsic at code short types i args) = dist_exprs args
  dist_expr (free_call at c args) = dist_call c (size_args args c.params) (dist_args args c.params)
  dist_expr (static_call at c args) = dist_call c (size_args args c.params) (dist_args args c.params)
  -- Context of an instance: past ParamEnd
  dist_expr (instance_call at weak e c args) =
      ahead (Context + size_weak weak + size_expr e + size_call c (size_args args c.params)) ∷
      (dist_expr e and dist_call c (size_args args c.params) (dist_args args c.params))
  -- Context of a closure call: its InvokeVirtual
  dist_expr (closure_call at e name line args) =
      ahead (Context + size_expr e) ∷ (dist_expr e and ahead (InvokeVirtual + size_exprs args + ParamEnd) ∷ dist_exprs args)

  pub dist_exprs : Exprs → List ℤ
  dist_exprs enil = []
  dist_exprs (econs e es) = dist_expr e and dist_exprs es

  pub dist_args : Exprs → (params : List ℕ) → List ℤ
  dist_args enil ps = []
  dist_args (econs e es) [] = dist_expr e and dist_args es []
  dist_args (econs e es) (p ∷ ps) = dist_skip p (size_expr e) (dist_expr e) and dist_args es ps

-- 4. Distances of statements. `before` is the size of all emitted from where continue lands up to this piece,
-- `after` of all from its end up to where break lands: "a break belongs to the innermost loop or switch, a continue to the innermost loop"

-- from the first of these cases up to the end of the matcher of its group's last case
unfoldable pub to_body : Cases → ℕ
to_body cnil = 0
to_body (ccons m b cs) = SwitchLabel + size_expr m + cond (ends_group b cs) 0 (to_body cs)

-- the blocks before case `index`
unfoldable pub to_default : Cases → (defaultIndex r : ℕ) → ℕ
to_default cnil defaultIndex r = 0
to_default (ccons m b cs) zero r = 0
to_default (ccons m b cs) (suc defaultIndex) r = size_block b r + to_default cs defaultIndex r

-- the SwitchLabels of a switch with a mid default of size D before case `index`: `gap` is the size of all from the end of the last matcher
-- up to the block of the first of these cases or, if that is case `index`, up to the default
unfoldable pub dist_matchers : Cases → (defaultIndex D gap r : ℕ) → List ℤ
dist_matchers cnil defaultIndex D gap r = []
-- SwitchLabel next: next SwitchLabel, else SwitchDefault; SwitchLabel body, mid default: its own block
dist_matchers (ccons m b cs) zero D gap r =
    ahead (SwitchLabel + size_expr m) ∷ ahead (SwitchLabel + size_expr m + size_matchers cs + gap + D) ∷ (dist_expr m and dist_matchers cs zero 0 (gap + D + size_block b r) r)
dist_matchers (ccons m b cs) (suc defaultIndex) D gap r =
    ahead (SwitchLabel + size_expr m) ∷ ahead (SwitchLabel + size_expr m + size_matchers cs + gap) ∷ (dist_expr m and dist_matchers cs defaultIndex D (gap + size_block b r) r)

unfoldable mutual
  pub dist_stmt : Stmt → (r before after : ℕ) → List ℤ
  dist_stmt (expr at e) r before after = dist_expr e
  dist_stmt (block at b) r before after = dist_block b r before after
  -- While's JumpIfFalse: past the closing Jump; closing Jump: the loop's JumpIfFalse
  dist_stmt (while at c b) r before after =
      ahead (JumpIfFalse + size_expr c + size_block b r + Jump) ∷ (dist_expr c and dist_block b r (JumpIfFalse + size_expr c) Jump and
      back (JumpIfFalse + size_expr c + size_block b r) ∷ [])
  dist_stmt (branches at bs d) r before after = dist_branches bs r (size_default d r) before (size_default d r + after) and dist_default d r (before + size_branches bs r) after
  -- Switch: next SwitchLabel, else SwitchDefault, else end; Jump after SwitchDefault: the default block, before case default_index
  dist_stmt (switch at type e defaultIndex cs d) r before after =
      ahead (Switch + size_expr e) ∷
      (dist_expr e and
      cond (mid_default d defaultIndex cs)
      (dist_matchers cs defaultIndex (size_default d r) (SwitchDefault + Jump) r and ahead (Jump + to_default cs defaultIndex r) ∷
      dist_blocks cs defaultIndex r (size_default d r) (λ before after. dist_default d r before after) (before + Switch + size_expr e + size_matchers cs + SwitchDefault + Jump) 0)
      (dist_cases cs r (before + Switch + size_expr e) (size_last d r) and dist_last d r (before + Switch + size_expr e + size_cases cs r) 0))
  dist_stmt (init_array at l t es) r before after = dist_exprs es
  dist_stmt (init_default at l b i) r before after = []
  -- break: past the closing Jump, or past the switch
  dist_stmt (break at) r before after = ahead (Jump + after) ∷ []
  -- continue: the loop's JumpIfFalse
  dist_stmt (continue at) r before after = back before ∷ []
  dist_stmt (return at e) r before after = dist_expr e
  dist_stmt (return_nothing at) r before after = []

  -- the blocks, with a default of size D before case `index`, whose distances `default` gives
  pub dist_blocks : Cases → (defaultIndex r D : ℕ) → (default : (before after : ℕ) → List ℤ) → (before after : ℕ) → List ℤ
  dist_blocks cnil defaultIndex r D default before after = []
  dist_blocks (ccons m b cs) zero r D default before after =
      default before (size_block b r + size_blocks cs zero 0 r + after) and dist_block b r (before + D) (size_blocks cs zero 0 r + after) and
      dist_blocks cs zero r 0 (λ before after. []) (before + D + size_block b r) after
  dist_blocks (ccons m b cs) (suc defaultIndex) r D default before after =
      dist_block b r before (size_blocks cs defaultIndex D r + after) and dist_blocks cs defaultIndex r D default (before + size_block b r) after

  pub dist_cases : Cases → (r before after : ℕ) → List ℤ
  dist_cases cnil r before after = []
  -- SwitchLabel next: next SwitchLabel, else SwitchDefault, else end; SwitchLabel body, otherwise: after the matcher of its group's last case
  dist_cases (ccons m b cs) r before after =
      ahead (SwitchLabel + size_expr m + size_block b r) ∷ ahead (SwitchLabel + size_expr m + cond (ends_group b cs) 0 (to_body cs)) ∷
      (dist_expr m and dist_block b r (before + SwitchLabel + size_expr m) (size_cases cs r + after) and dist_cases cs r (before + SwitchLabel + size_expr m + size_block b r) after)

  pub dist_last : Default → (r before after : ℕ) → List ℤ
  dist_last absent r before after = []
  dist_last (present b) r before after = dist_block b r (before + SwitchDefault) after

  -- `rest` is the size of all from the end of the branches up to the end of the statement
  pub dist_branches : Branches → (r rest before after : ℕ) → List ℤ
  dist_branches brnil r rest before after = []
  -- a branch's JumpIfFalse: past that Jump; its Jump: past the statement
  dist_branches (brcons c b bs) r rest before after =
      ahead (JumpIfFalse + size_expr c + size_block b r + Jump) ∷ (dist_expr c and dist_block b r (before + JumpIfFalse + size_expr c) (Jump + size_branches bs r + after) and
      ahead (Jump + size_branches bs r + rest) ∷ dist_branches bs r rest (before + JumpIfFalse + size_expr c + size_block b r + Jump) after)

  pub dist_default : Default → (r before after : ℕ) → List ℤ
  dist_default absent r before after = []
  dist_default (present b) r before after = dist_block b r before after

  pub dist_block : Block → (r before after : ℕ) → List ℤ
  dist_block bnil r before after = []
  dist_block (bcons s b) r before after = dist_stmt s r before (size_block b r + after) and dist_block b r (before + size_stmt s r) after

-- 5. A unit

abbrev pub size_of : Script → ℕ
size_of u = size_block u.body u.returns

abbrev pub distances_of : Script → List ℤ
distances_of u = dist_block u.body u.returns 0 0
