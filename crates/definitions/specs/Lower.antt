-- Lowering: what each node emits, in the order of assemble, assemble_expr, assemble_call, emit_call and emit_intrinsic.
use Rattle.std.specs.Prelude.{ℕ, zero, suc, ◌+◌, ◌-◌, ◌*◌, Bool, true, false, cond, ◌&&◌, ◌||◌, not, List, [], ◌∷◌, ltb, eqb, get_or}
use Rattle.std.proofs.Math.Option.{Option, none, some}
use Rattle.definitions.specs.Answer.{Result}
use Rattle.definitions.specs.Tag.{Nop, Null, I8Const, U64Const, Assign, Local, Param, ObjectField, Switch, SwitchLabel, SwitchDefault, Jump, JumpIfFalse, Skip, Conditional, Construct, InvokeStatic, InvokeVirtual, ParamEnd, Return, StructField, Context, New, This, ArrayClear, ArrayResize, ArrayElement, StaticArrayElement, I32ToEnum, DynamicCast, WeakRefToRef, WeakRefNull, default_tags, const_tag, intrinsic_of, code_as_ref, code_deref}
use Rattle.definitions.specs.Instr.{Instr, plain}
use Rattle.definitions.specs.Tree.{Callee, Expr, Exprs, Stmt, Block, Branches, Cases, Default, Script, nop, const, null, new_instance, construct, assign, field, index, conditional, dyn_cast, local, intrinsic, free_call, static_call, instance_call, closure_call, enil, econs, expr, block, while, branches, switch, init_array, init_default, break, continue, return, return_nothing, bnil, bcons, brnil, brcons, cnil, ccons, absent, present, length_exprs, length_cases, is_present, place_of}
use Rattle.definitions.specs.Code.{Code, mark, emit, refuse, done, act, ◌then◌, label, many, emits, State, execute, start}

-- 1. Instructions

-- by the rule of the node at `at`, "the unit offset of the node that emitted it"

-- with no label: its tag and its value
abbrev pub instr : (at tag value : ℕ) → Code
instr at t v = act (emit (plain at t 0 v))

-- with one label
abbrev pub jump : (at tag to : ℕ) → Code
jump at t l = act (emit (record { tag = t; small = 0; first = l; second = 0; line = 0; flags = 0; value = 0; node = at }))

-- Conditional and SwitchLabel
abbrev pub jumps : (at tag first second : ℕ) → Code
jumps at t l m = act (emit (record { tag = t; small = 0; first = l; second = m; line = 0; flags = 0; value = 0; node = at }))

abbrev pub emit_switch : (at type firstCase : ℕ) → Code
emit_switch at t l = act (emit (record { tag = Switch; small = 0; first = l; second = 0; line = 0; flags = 0; value = t; node = at }))

abbrev pub invoke : (at tag exit line flags value : ℕ) → Code
invoke at t l n f v = act (emit (record { tag = t; small = 0; first = l; second = 0; line = n; flags = f; value = v; node = at }))

-- nothing where a check is passed, else the refusal
unfoldable pub require : (passed : Bool) → (number place extra : ℕ) → Code
require true n p x = done
require false n p x = act (refuse n p x)

-- 2. What decides an argument's flag

-- is_prvalue: not a local, a capture, a field, an index or a Deref
unfoldable pub is_prvalue : Expr → Bool
is_prvalue (nop at) = true
is_prvalue (const at b v) = true
is_prvalue (null at w) = true
is_prvalue (new_instance at c) = true
is_prvalue (construct at c es) = true
is_prvalue (assign at p e) = true
is_prvalue (field at f n e) = false
is_prvalue (index at d t a i) = false
is_prvalue (conditional at c t e) = true
is_prvalue (dyn_cast at c w e) = true
is_prvalue (local at f i) = false
is_prvalue (intrinsic at k s t i es) = not (eqb k code_deref)
is_prvalue (free_call at c es) = true
is_prvalue (static_call at c es) = true
is_prvalue (instance_call at w e c es) = true
is_prvalue (closure_call at e n l es) = true

-- exactly one, and is_prvalue
unfoldable pub one_prvalue : Exprs → Bool
one_prvalue enil = false
one_prvalue (econs e enil) = is_prvalue e
one_prvalue (econs e (econs e' es)) = false

-- "An AsRef intrinsic with exactly one argument that is_prvalue sets the flag of its index"
unfoldable pub is_flagged : Expr → Bool
is_flagged (nop at) = false
is_flagged (const at b v) = false
is_flagged (null at w) = false
is_flagged (new_instance at c) = false
is_flagged (construct at c es) = false
is_flagged (assign at p e) = false
is_flagged (field at f n e) = false
is_flagged (index at d t a i) = false
is_flagged (conditional at c t e) = false
is_flagged (dyn_cast at c w e) = false
is_flagged (local at f i) = false
is_flagged (intrinsic at k s t i es) = eqb k code_as_ref && one_prvalue es
is_flagged (free_call at c es) = false
is_flagged (static_call at c es) = false
is_flagged (instance_call at w e c es) = false
is_flagged (closure_call at e n l es) = false

-- the flags of arguments, the first of which has the bit `bit`
unfoldable pub flags_of : Exprs → (bit : ℕ) → ℕ
flags_of enil bit = 0
flags_of (econs e es) bit = cond (is_flagged e) bit 0 + flags_of es (2 * bit)

-- "flagged argument at index 16 or later" 13, "place that argument, extra index + 1": of the arguments from index i on
unfoldable pub require_flags : Exprs → (i : ℕ) → Code
require_flags enil i = done
require_flags (econs e es) i = require (not (is_flagged e) || ltb i 16) 13 (place_of e) (i + 1) then require_flags es (i + 1)

-- 3. Expressions

-- an object by weak reference
unfoldable pub weak_to_ref : (at weak : ℕ) → Code
weak_to_ref at zero = done
weak_to_ref at (suc w) = instr at WeakRefToRef 0

unfoldable pub null_tag : (weak : ℕ) → ℕ
null_tag zero = Null
null_tag (suc w) = WeakRefNull

unfoldable pub element_tag : (dynamic : ℕ) → ℕ
element_tag zero = StaticArrayElement
element_tag (suc d) = ArrayElement

unfoldable pub local_tag : (form : ℕ) → ℕ
local_tag f = get_or (This ∷ Local ∷ Param ∷ []) f ObjectField

-- a field of a struct, or of an object behind a Context
unfoldable pub lower_field : (at form name : ℕ) → (receiver : Code) → Code
lower_field at zero name receiver = instr at StructField name then receiver
lower_field at (suc weak) name receiver =
    label at λ exit. jump at Context exit then weak_to_ref at weak then receiver then instr at ObjectField name then act (mark exit)

-- "Short-circuit parameters put Skip before the argument": "for a Skip the call", which is the node at `at`
unfoldable pub lower_arg : (at shortCircuit : ℕ) → (argument : Code) → Code
lower_arg at zero argument = argument
lower_arg at (suc s) argument = label at λ skip. jump at Skip skip then argument then act (mark skip)

-- "absent ones give Nop"
unfoldable pub nops : (at : ℕ) → (params : List ℕ) → Code
nops at [] = done
nops at (p ∷ ps) = instr at Nop 0 then nops at ps

-- InvokeStatic with the function where any flag bit is set, else InvokeVirtual with the name
unfoldable pub emit_invoke : (at flagByte : ℕ) → (exit line flags function name : ℕ) → Code
emit_invoke at zero exit line flags function name = invoke at InvokeVirtual exit line flags name
emit_invoke at (suc b) exit line flags function name = invoke at InvokeStatic exit line flags function

-- emit_call, with the code of its arguments
unfoldable pub emit_call : (at : ℕ) → Callee → Exprs → (arguments : Code) → Code
emit_call at c args arguments =
    label at λ exit. require_flags args 0 then emit_invoke at c.flags exit c.line (flags_of args 1) c.function c.name then
    arguments then instr at ParamEnd 0 then act (mark exit)

unfoldable mutual
  pub lower_expr : Expr → Code
  lower_expr (nop at) = instr at Nop 0
  lower_expr (const at b v) = instr at (const_tag b v) v
  lower_expr (null at weak) = instr at (null_tag weak) 0
  lower_expr (new_instance at class) = instr at New class
  -- "Construct with 256 or more" 12, "extra the count"
  lower_expr (construct at class args) =
      require (ltb (length_exprs args) 256) 12 at (length_exprs args) then act (emit (plain at Construct (length_exprs args) class)) then lower_exprs args
  lower_expr (assign at p e) = instr at Assign 0 then lower_expr p then lower_expr e
  lower_expr (field at form name e) = lower_field at form name (lower_expr e)
  lower_expr (index at dynamic type a i) = instr at (element_tag dynamic) type then lower_expr a then lower_expr i
  lower_expr (conditional at c t e) =
      label at λ else. label at λ exit.
      jumps at Conditional else exit then lower_expr c then lower_expr t then act (mark else) then lower_expr e then act (mark exit)
  lower_expr (dyn_cast at class weak e) = act (emit (plain at DynamicCast weak class)) then lower_expr e
  lower_expr (local at form i) = instr at (local_tag form) i
  -- "intrinsic with short-circuit mark or wrong type count" 14
  lower_expr (intrinsic at code short types i args) =
      require (eqb short 0 && eqb types (intrinsic_of code).types) 14 at 0 then
      act (emit (plain at (intrinsic_of code).tag (intrinsic_of code).small i)) then lower_exprs args
  lower_expr (free_call at c args) = emit_call at c args (lower_args args at c.params)
  -- "A static call makes one label that nothing carries"
  lower_expr (static_call at c args) = label at λ exit. emit_call at c args (lower_args args at c.params) then act (mark exit)
  lower_expr (instance_call at weak e c args) =
      label at λ exit. jump at Context exit then weak_to_ref at weak then lower_expr e then
      emit_call at c args (lower_args args at c.params) then act (mark exit)
  -- "A closure call has neither Skip, Nop nor flags"
  lower_expr (closure_call at e name line args) =
      label at λ context. jump at Context context then lower_expr e then act (mark context) then
      label at λ exit. invoke at InvokeVirtual exit line 0 name then lower_exprs args then instr at ParamEnd 0 then act (mark exit)

  pub lower_exprs : Exprs → Code
  lower_exprs enil = done
  lower_exprs (econs e es) = lower_expr e then lower_exprs es

  -- arguments with the marks of their parameters
  pub lower_args : Exprs → (at : ℕ) → (params : List ℕ) → Code
  lower_args enil at ps = nops at ps
  lower_args (econs e es) at [] = lower_expr e then lower_args es at []
  lower_args (econs e es) at (p ∷ ps) = lower_arg at p (lower_expr e) then lower_args es at ps

-- 4. Statements without blocks

-- elements of an InitArray from number i on
unfoldable pub lower_elements : Exprs → (at local type i : ℕ) → Code
lower_elements enil at l t i = done
lower_elements (econs e es) at l t i =
    emits (plain at Assign 0 0 ∷ plain at ArrayElement 0 t ∷ plain at Local 0 l ∷ plain at U64Const 0 i ∷ []) then lower_expr e then lower_elements es at l t (i + 1)

-- nothing at all for an array with no element
unfoldable pub lower_array : Exprs → (at local type : ℕ) → Code
lower_array enil at l t = done
lower_array (econs e es) at l t =
    emits (plain at ArrayResize 0 t ∷ plain at Local 0 l ∷ plain at U64Const 0 (suc (length_exprs es)) ∷ []) then lower_elements (econs e es) at l t 0

-- primitive number k of default bytes 5 to 21: the first four store the unit's index, the others 0; after the last there is no value
unfoldable pub primitive_default : (at k i : ℕ) → List Instr
primitive_default at k i = cond (ltb k 17) (plain at (get_or default_tags k Nop) 0 (cond (ltb k 4) i 0) ∷ []) []

abbrev assigned : (at local : ℕ) → (value : List Instr) → List Instr
assigned at l is = plain at Assign 0 0 ∷ plain at Local 0 l ∷ is

-- "0 variant, 1 array, 2 struct, 3 other aggregate, 4 enum, 5 to 21 the seventeen primitives, 22 a primitive with no value"
unfoldable pub default_instrs : (at local byte i : ℕ) → List Instr
default_instrs at l b i = get_or
    ([]
    ∷ (plain at ArrayClear 0 i ∷ plain at Local 0 l ∷ [])
    ∷ assigned at l (plain at Construct 0 i ∷ [])
    ∷ assigned at l (plain at Null 0 0 ∷ [])
    ∷ assigned at l (plain at I32ToEnum 1 i ∷ plain at I8Const 0 0 ∷ [])
    ∷ []) b (assigned at l (primitive_default at (b - 5) i))

-- Return before its value where the unit has a return value, else after it and with a Nop
unfoldable pub lower_return : (at returns : ℕ) → (value : Code) → Code
lower_return at zero value = value then instr at Return 0 then instr at Nop 0
lower_return at (suc r) value = instr at Return 0 then value

unfoldable pub lower_return_nothing : (at : ℕ) → Code
lower_return_nothing at = instr at Return 0 then instr at Nop 0

-- 5. Statements

-- BlockSpan: the labels where break and continue go; and the unit's return byte
pub record BlockSpan : Type 0 where
  pub break_target : Option ℕ
  pub continue_target : Option ℕ
  pub returns : ℕ

abbrev pub outside : (returns : ℕ) → BlockSpan
outside r = record { break_target = none; continue_target = none; returns = r }

abbrev pub in_loop : (start end : ℕ) → BlockSpan → BlockSpan
in_loop start end span = record { break_target = some end; continue_target = some start; returns = span.returns }

-- a switch takes break, and lets continue through to the loop
abbrev pub in_switch : (end : ℕ) → BlockSpan → BlockSpan
in_switch end span = record { break_target = some end; continue_target = span.continue_target; returns = span.returns }

-- "break without loop or switch; continue without loop" 10; 11
unfoldable pub jump_to : (number at : ℕ) → Option ℕ → Code
jump_to number at none = act (refuse number at 0)
jump_to number at (some l) = jump at Jump l

-- "With a default and default_index below the case count"
unfoldable pub mid_default : Default → (defaultIndex : ℕ) → Cases → Bool
mid_default d defaultIndex cs = is_present d && ltb defaultIndex (length_cases cs)

-- "A group runs to the first case whose block has a statement, or to the last case": does a case with this block, and these after it, end its group
unfoldable pub ends_group : Block → Cases → Bool
ends_group (bcons s b) cs = true
ends_group bnil cnil = true
ends_group bnil (ccons m b cs) = false

-- the body label of the group that is open, or a new one
unfoldable pub in_group : Option ℕ → (at : ℕ) → (ℕ → Code) → Code
in_group none at k = label at k
in_group (some body) at k = k body

unfoldable mutual
  pub lower_stmt : Stmt → BlockSpan → Code
  lower_stmt (expr at e) span = lower_expr e
  lower_stmt (block at b) span = lower_block b span
  lower_stmt (while at c b) span =
      label at λ start. label at λ end.
      act (mark start) then jump at JumpIfFalse end then lower_expr c then lower_block b (in_loop start end span) then jump at Jump start then act (mark end)
  -- "Branches makes 2 labels and one more per branch; the last `next` stays unmarked and uncarried"
  lower_stmt (branches at bs d) span =
      label at λ next. label at λ exit.
      lower_branches bs at next exit span then lower_default d span then act (mark exit)
  -- "Switch makes end, then first"; a mid default: "one body each, the default body, one `next` per case"; otherwise by groups
  lower_stmt (switch at type e defaultIndex cs d) span =
      label at λ end. label at λ first.
      emit_switch at type first then lower_expr e then
      cond (mid_default d defaultIndex cs)
      (label at λ body. many at (length_cases cs)
      (lower_matchers cs at first body then instr at SwitchDefault 0 then jump at Jump (body + length_cases cs) then
      lower_bodies cs defaultIndex body (body + length_cases cs) (lower_default d (in_switch end span)) (in_switch end span)))
      (lower_cases cs at first none (in_switch end span) then lower_last d at (in_switch end span)) then
      act (mark end)
  lower_stmt (init_array at l t es) span = lower_array es at l t
  lower_stmt (init_default at l b i) span = emits (default_instrs at l b i)
  lower_stmt (break at) span = jump_to 10 at span.break_target
  lower_stmt (continue at) span = jump_to 11 at span.continue_target
  lower_stmt (return at e) span = lower_return at span.returns (lower_expr e)
  lower_stmt (return_nothing at) span = lower_return_nothing at

  -- the labels of a switch with a mid default, all with their matchers; `body` is the label of the first case's body
  pub lower_matchers : Cases → (at next body : ℕ) → Code
  lower_matchers cnil at next body = act (mark next)
  lower_matchers (ccons m b cs) at next body =
      act (mark next) then label at λ next'. jumps at SwitchLabel next' body then lower_expr m then lower_matchers cs at next' (body + 1)

  -- then its blocks, the default before case `defaultIndex`
  pub lower_bodies : Cases → (defaultIndex body dflt : ℕ) → (default : Code) → BlockSpan → Code
  lower_bodies cnil defaultIndex body dflt default span = done
  lower_bodies (ccons m b cs) zero body dflt default span =
      act (mark dflt) then default then act (mark body) then lower_block b span then lower_blocks cs (body + 1) span
  lower_bodies (ccons m b cs) (suc defaultIndex) body dflt default span =
      act (mark body) then lower_block b span then lower_bodies cs defaultIndex (body + 1) dflt default span

  pub lower_blocks : Cases → (body : ℕ) → BlockSpan → Code
  lower_blocks cnil body span = done
  lower_blocks (ccons m b cs) body span = act (mark body) then lower_block b span then lower_blocks cs (body + 1) span

  -- any other switch: each case's block after its matcher; a group's body is marked at its last case
  pub lower_cases : Cases → (at next : ℕ) → (group : Option ℕ) → BlockSpan → Code
  lower_cases cnil at next group span = act (mark next)
  lower_cases (ccons m b cs) at next group span =
      in_group group at λ body. act (mark next) then label at λ next'. jumps at SwitchLabel next' body then lower_expr m then
      cond (ends_group b cs)
      (act (mark body) then lower_block b span then lower_cases cs at next' none span)
      (lower_cases cs at next' (some body) span)

  pub lower_last : Default → (at : ℕ) → BlockSpan → Code
  lower_last absent at span = done
  lower_last (present b) at span = instr at SwitchDefault 0 then lower_block b span

  -- `next` is the label of the first branch
  pub lower_branches : Branches → (at next exit : ℕ) → BlockSpan → Code
  lower_branches brnil at next exit span = done
  lower_branches (brcons c b bs) at next exit span =
      jump at JumpIfFalse next then lower_expr c then lower_block b span then jump at Jump exit then act (mark next) then
      label at λ next'. lower_branches bs at next' exit span

  pub lower_default : Default → BlockSpan → Code
  lower_default absent span = done
  lower_default (present b) span = lower_block b span

  pub lower_block : Block → BlockSpan → Code
  lower_block bnil span = done
  lower_block (bcons s b) span = lower_stmt s span then lower_block b span

-- 6. A unit

abbrev pub code_of : Script → Code
code_of u = lower_block u.body (outside u.returns)

-- the labelled instructions and the marks, or the refusal of the walk
abbrev pub lower : Script → Result State
lower u = execute (code_of u) start
