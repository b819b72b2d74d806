-- The parts of lowering emit only records that fit, where what was read does.
use Prim.Native.Nat.{ℕ, zero, suc, ◌+◌, ◌^◌, ◌<◌}
use mathlib.Core.Path.{refl}
use mathlib.Core.List.{List, [], ◌∷◌}
use mathlib.Core.Option.{Option, none, some}
use mathlib.Core.Bool.{Bool, true, false, cond}
use native.Mathlib.Omega.{arith}
use lib.Dec.{ltb}
use lib.ListN.{length, get_or}
use Rattle.definitions.specs.Tag
use Rattle.definitions.specs.Tag.{rows, row_of, default_tags}
use Rattle.definitions.specs.Tree.{Callee, Expr, Exprs, Stmt, Block, Default, absent, present, exprs_of, block_of, branches_of, cases_of}
use Rattle.definitions.specs.Instr.{plain, unused0}
use Rattle.definitions.specs.Code.{Code, emits, label_limit}
use Rattle.definitions.specs.Lower.{weak_to_ref, lower_field, lower_arg, nops, emit_invoke, emit_call, lower_expr, lower_exprs, lower_args, lower_elements, lower_array, primitive_default, default_instrs, lower_return, lower_return_nothing, BlockSpan, jump_to, ends_group, in_group, lower_stmt, lower_matchers, lower_bodies, lower_blocks, lower_cases, lower_last, lower_branches, lower_default, lower_block}
use Rattle.laws.proofs.Sizes.{sized}
use Rattle.laws.proofs.Picked.{primitive_plain}
use Rattle.laws.proofs.Trees.{length_exprs_law}
use Rattle.landing.specs.Landed.{Each}
use Rattle.landing.proofs.Fits.{Fits, masked_below, plain_fits, Fine, nothing, marks, refuses, seq, labels, either, straight, bare, carry, flagged}

-- 1. Parts

pub weak_fine : (at weak : ℕ) → at < 256 ^ 4 → Fine (weak_to_ref at weak)
unfolding weak_to_ref
weak_fine at zero z = nothing
weak_fine at (suc w) z = bare at Tag.WeakRefToRef 0 0 (omega (arith, sized))

nops_fine : (at : ℕ) (ps : List ℕ) → at < 256 ^ 4 → Fine (nops at ps)
unfolding nops
nops_fine at [] z = nothing
nops_fine at (p ∷ ps) z = seq (bare at Tag.Nop 0 0 (omega (arith, sized))) (nops_fine at ps z)

pub field_fine : (at form name : ℕ) {receiver : Code} → (name < 256 ^ 4) × (at < 256 ^ 4) → Fine receiver → Fine (lower_field at form name receiver)
unfolding lower_field unused0 row_of rows label_limit
field_fine at zero name h f = seq (bare at Tag.StructField 0 name (omega (arith, sized))) f
field_fine at (suc weak) name h f =
    labels λ l k. seq (carry refl (omega (arith, sized))) (seq (weak_fine at weak h.1) (seq f (seq (bare at Tag.ObjectField 0 name (omega (arith, sized))) marks)))

arg_fine : (at p : ℕ) {arg : Code} → at < 256 ^ 4 → Fine arg → Fine (lower_arg at p arg)
unfolding lower_arg unused0 row_of rows label_limit
arg_fine at zero z f = f
arg_fine at (suc p) z f = labels λ l k. seq (carry refl (omega (arith, sized))) (seq f marks)

invoke_fine : (at b exit line flags function name : ℕ) → (exit < 65536) × (line < 65536) × (flags < 65536) × (function < 256 ^ 4) × (name < 256 ^ 4) × (at < 256 ^ 4) → Fine (emit_invoke at b exit line flags function name)
unfolding emit_invoke unused0 row_of rows
invoke_fine at zero exit line flags function name h = carry refl (omega (arith, sized))
invoke_fine at (suc b) exit line flags function name h = carry refl (omega (arith, sized))

-- what a call stores fits
pub record CalleeFits (c : Callee) : Type 0 where
  pub function : c.function < 256 ^ 4
  pub name : c.name < 256 ^ 4
  pub line : c.line < 65536

pub call_fine : (at : ℕ) (c : Callee) (args : Exprs) {code : Code} → at < 256 ^ 4 → CalleeFits c → Fine code → Fine (emit_call at c args code)
unfolding emit_call label_limit
call_fine at c args z h f =
    labels λ exit l. flagged args λ few. seq (invoke_fine at c.flags _ _ _ _ _ (omega arith)) (seq f (seq (bare at Tag.ParamEnd 0 0 (omega (arith, sized))) marks))

-- 2. Expressions that are read

abbrev pub FineExpr : Expr → Type 0
FineExpr e = Fine (lower_expr e)

pub exprs_fine : (xs : List Expr) → Each FineExpr xs → Fine (lower_exprs (exprs_of xs))
unfolding lower_expr exprs_of
exprs_fine [] h = nothing
exprs_fine (x ∷ xs) h = seq h.0 (exprs_fine xs h.1)

pub args_fine : (xs : List Expr) (at : ℕ) (ps : List ℕ) → at < 256 ^ 4 → Each FineExpr xs → Fine (lower_args (exprs_of xs) at ps)
unfolding lower_expr exprs_of
args_fine [] at ps z h = nops_fine at ps z
args_fine (x ∷ xs) at [] z h = seq h.0 (args_fine xs at [] z h.1)
args_fine (x ∷ xs) at (p ∷ ps) z h = seq (arg_fine at p z h.0) (args_fine xs at ps z h.1)

elements_fine : (xs : List Expr) (at l t i : ℕ) → (l < 256 ^ 4) × (t < 256 ^ 4) × (i + length xs < 256 ^ 4) × (at < 256 ^ 4) → Each FineExpr xs → Fine (lower_elements (exprs_of xs) at l t i)
unfolding lower_elements exprs_of
elements_fine [] at l t i w h = nothing
elements_fine (x ∷ xs) at l t i w h =
    seq (straight _ (plain_fits at Tag.Assign 0 0 (omega (arith, sized)), (plain_fits at Tag.ArrayElement 0 t (omega (arith, sized)), (plain_fits at Tag.Local 0 l (omega (arith, sized)), (plain_fits at Tag.U64Const 0 i (omega (arith, sized)), tt)))))
    (seq h.0 (elements_fine xs at l t (i + 1) (omega arith) h.1))

pub array_fine : (xs : List Expr) (at l t : ℕ) → (l < 256 ^ 4) × (t < 256 ^ 4) × (length xs < 256 ^ 4) × (at < 256 ^ 4) → Each FineExpr xs → Fine (lower_array (exprs_of xs) at l t)
unfolding lower_array exprs_of
array_fine [] at l t w h = nothing
array_fine (x ∷ xs) at l t w h =
    seq (straight _ (plain_fits at Tag.ArrayResize 0 t (omega (arith, sized)), (plain_fits at Tag.Local 0 l (omega (arith, sized)), (plain_fits at Tag.U64Const 0 _ (omega (arith, sized, length_exprs_law xs)), tt))))
    (elements_fine (x ∷ xs) at l t 0 (omega arith) h)

-- 3. Statements that are read

value_fits : (at k i : ℕ) → (i < 256 ^ 4) × (at < 256 ^ 4) → Each Fits (primitive_default at k i)
unfolding primitive_default
value_fits at k i h = go (ltb k 17) (ltb k 4)
  where
    go : (b c : Bool) → Each Fits (cond b (plain at (get_or default_tags k Tag.Nop) 0 (cond c i 0) ∷ []) [])
    go true c = (plain_fits at (get_or default_tags k Tag.Nop) 0 (cond c i 0) ((primitive_plain k).sized, omega arith, omega (arith, masked_below c i (256 ^ 4) h.0), h.1), tt)
    go false c = tt

default_fits : (at l b i : ℕ) → (l < 256 ^ 4) × (i < 256 ^ 4) × (at < 256 ^ 4) → Each Fits (default_instrs at l b i)
unfolding default_instrs
default_fits at l b i w = go b
  where
    assign : Fits (plain at Tag.Assign 0 0)
    assign = plain_fits at Tag.Assign 0 0 (omega (arith, sized))

    to : Fits (plain at Tag.Local 0 l)
    to = plain_fits at Tag.Local 0 l (omega (arith, sized))

    go : (b : ℕ) → Each Fits (default_instrs at l b i)
    go zero = tt
    go (suc zero) = (plain_fits at Tag.ArrayClear 0 i (omega (arith, sized)), (to, tt))
    go (suc (suc zero)) = (assign, (to, (plain_fits at Tag.Construct 0 i (omega (arith, sized)), tt)))
    go (suc (suc (suc zero))) = (assign, (to, (plain_fits at Tag.Null 0 0 (omega (arith, sized)), tt)))
    go (suc (suc (suc (suc zero)))) = (assign, (to, (plain_fits at Tag.I32ToEnum 1 i (omega (arith, sized)), (plain_fits at Tag.I8Const 0 0 (omega (arith, sized)), tt))))
    go (suc (suc (suc (suc (suc b))))) = (assign, (to, value_fits at _ i (w.1, w.2)))

pub default_fine : (at l b i : ℕ) → (l < 256 ^ 4) × (i < 256 ^ 4) × (at < 256 ^ 4) → Fine (emits (default_instrs at l b i))
default_fine at l b i w = straight (default_instrs at l b i) (default_fits at l b i w)

pub return_nothing_law : (at : ℕ) → at < 256 ^ 4 → Fine (lower_return_nothing at)
unfolding lower_return_nothing
return_nothing_law at z = seq (bare at Tag.Return 0 0 (omega (arith, sized))) (bare at Tag.Nop 0 0 (omega (arith, sized)))

pub return_fine : (at returns : ℕ) {value : Code} → at < 256 ^ 4 → Fine value → Fine (lower_return at returns value)
unfolding lower_return lower_return_nothing
return_fine at zero z f = seq f (return_nothing_law at z)
return_fine at (suc r) z f = seq (bare at Tag.Return 0 0 (omega (arith, sized))) f

-- a label that is made is below the limit, if there is one
abbrev Near : Option ℕ → Type 0
Near none = Unit {0}
Near (some l) = l < label_limit

pub record Known (span : BlockSpan) : Type 0 where
  pub break_target : Near span.break_target
  pub continue_target : Near span.continue_target

pub jump_to_fine : (number at : ℕ) (l : Option ℕ) → at < 256 ^ 4 → Near l → Fine (jump_to number at l)
unfolding jump_to unused0 row_of rows label_limit
jump_to_fine number at none z h = refuses
jump_to_fine number at (some l) z h = carry refl (omega (arith, sized))

abbrev pub FineStmt : Stmt → Type 0
FineStmt x = (span : BlockSpan) → Known span → Fine (lower_stmt x span)

abbrev pub FineBlock : Block → Type 0
FineBlock b = (span : BlockSpan) → Known span → Fine (lower_block b span)

abbrev pub FineArm : Expr × Block → Type 0
FineArm x = FineExpr x.0 × FineBlock x.1

-- as the default of Branches, and as the last of a Switch at `at`
abbrev pub FineDefault : Default → Type 0
FineDefault d = (at : ℕ) → at < 256 ^ 4 → (span : BlockSpan) → Known span → Fine (lower_default d span) × Fine (lower_last d at span)

pub block_fine : (xs : List Stmt) → Each FineStmt xs → FineBlock (block_of xs)
unfolding lower_stmt block_of
block_fine [] h span k = nothing
block_fine (x ∷ xs) h span k = seq (h.0 span k) (block_fine xs h.1 span k)

pub absent_fine : FineDefault absent
unfolding lower_stmt
absent_fine at z span k = (nothing, nothing)

pub present_fine : (b : Block) → FineBlock b → FineDefault (present b)
unfolding lower_stmt
present_fine b h at z span k = (h span k, seq (bare at Tag.SwitchDefault 0 0 (omega (arith, sized))) (h span k))

module _ (span : BlockSpan) (known : Known span) (at : ℕ) (z : at < 256 ^ 4) where
  pub branches_fine : (xs : List (Expr × Block)) (next exit : ℕ) → (next < label_limit) × (exit < label_limit) → Each FineArm xs → Fine (lower_branches (branches_of xs) at next exit span)
  unfolding lower_stmt branches_of unused0 row_of rows label_limit
  branches_fine [] next exit w h = nothing
  branches_fine (x ∷ xs) next exit w h =
      seq (carry refl (omega (arith, sized))) (seq h.0.0 (seq (h.0.1 span known) (seq (carry refl (omega (arith, sized))) (seq marks (labels λ l k. branches_fine xs l exit (k, w.1) h.1)))))

  group_fine : (g : Option ℕ) (k : ℕ → Code) → Near g → ((l : ℕ) → l < label_limit → Fine (k l)) → Fine (in_group g at k)
  unfolding in_group
  group_fine none k h f = labels f
  group_fine (some l) k h f = f l h

  pub cases_fine : (xs : List (Expr × Block)) (next : ℕ) (group : Option ℕ) → (next < label_limit) × Near group → Each FineArm xs → Fine (lower_cases (cases_of xs) at next group span)
  unfolding lower_stmt cases_of unused0 row_of rows label_limit
  cases_fine [] next group w h = marks
  cases_fine (x ∷ xs) next group w h =
      group_fine group _ w.1 λ body b. seq marks (labels λ l k. seq (carry refl (omega (arith, sized))) (seq h.0.0 (either (ends_group x.1 (cases_of xs))
      (seq marks (seq (h.0.1 span known) (cases_fine xs l none (k, tt) h.1)))
      (cases_fine xs l (some body) (k, b) h.1))))

  -- a mid default
  pub matchers_fine : (xs : List (Expr × Block)) (next body : ℕ) → (next < label_limit) × (body + length xs < label_limit) → Each FineArm xs → Fine (lower_matchers (cases_of xs) at next body)
  unfolding lower_stmt cases_of unused0 row_of rows label_limit
  matchers_fine [] next body w h = marks
  matchers_fine (x ∷ xs) next body w h = seq marks (labels λ l k. seq (carry refl (omega (arith, sized))) (seq h.0.0 (matchers_fine xs l (body + 1) (omega arith) h.1)))

  blocks_fine : (xs : List (Expr × Block)) (body : ℕ) → Each FineArm xs → Fine (lower_blocks (cases_of xs) body span)
  unfolding lower_stmt cases_of
  blocks_fine [] body h = nothing
  blocks_fine (x ∷ xs) body h = seq marks (seq (h.0.1 span known) (blocks_fine xs (body + 1) h.1))

  pub bodies_fine : (xs : List (Expr × Block)) (defaultIndex body dflt : ℕ) {default : Code} → Fine default → Each FineArm xs → Fine (lower_bodies (cases_of xs) defaultIndex body dflt default span)
  unfolding lower_stmt cases_of
  bodies_fine [] i body dflt f h = nothing
  bodies_fine (x ∷ xs) zero body dflt f h = seq marks (seq f (seq marks (seq (h.0.1 span known) (blocks_fine xs (body + 1) h.1))))
  bodies_fine (x ∷ xs) (suc i) body dflt f h = seq marks (seq (h.0.1 span known) (bodies_fine xs i (body + 1) dflt f h.1))
