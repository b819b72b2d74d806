-- What a tree lowers to and what the moved tree lowers to are in step, rule by rule. Assumes nothing.
use Prim.Native.Nat.{ℕ, zero, suc, ◌+◌, ◌*◌}
use mathlib.Core.Path.{◌≡◌, refl, ap}
use mathlib.Core.Bool.{Bool, true, false, cond}
use mathlib.Core.List.{List, [], ◌∷◌}
use mathlib.Core.Option.{Option, none, some}
use native.Mathlib.Omega.{arith}
use lib.Dec.{ltb}
use lib.ListN.{get_or}
use Rattle.definitions.specs.Tag.{Nop, Null, I8Const, U64Const, Assign, Local, Switch, SwitchLabel, SwitchDefault, Jump, JumpIfFalse, Skip, Conditional, Construct, InvokeStatic, InvokeVirtual, ParamEnd, Return, StructField, ObjectField, Context, New, ArrayClear, ArrayResize, ArrayElement, I32ToEnum, DynamicCast, WeakRefToRef, rows, row_of, default_tags, const_tag}
use Rattle.definitions.specs.Instr.{Instr, plain}
use Rattle.definitions.specs.Tree.{Callee, Expr, Exprs, Stmt, Block, Branches, Cases, Default, nop, const, null, new_instance, construct, assign, field, index, conditional, dyn_cast, local, intrinsic, free_call, static_call, instance_call, closure_call, enil, econs, expr, block, while, branches, switch, init_array, init_default, break, continue, return, return_nothing, bnil, bcons, brnil, brcons, cnil, ccons, absent, present, length_exprs, length_cases, is_present, place_of}
use Rattle.definitions.specs.Code.{Code, emit, act, ◌then◌, many}
use Rattle.definitions.specs.Code.{emits as emissions}
use Rattle.definitions.specs.Lower.{jump, jumps, require, is_prvalue, one_prvalue, is_flagged, flags_of, require_flags, weak_to_ref, lower_field, lower_arg, nops, emit_invoke, emit_call, lower_expr, lower_exprs, lower_args, lower_elements, lower_array, primitive_default, default_instrs, lower_return, lower_return_nothing, BlockSpan, in_loop, in_switch, jump_to, mid_default, ends_group, in_group, lower_stmt, lower_matchers, lower_bodies, lower_blocks, lower_cases, lower_last, lower_branches, lower_default, lower_block}
use Rattle.laws.proofs.Picked.{Carries, null_plain, element_plain, local_plain, primitive_plain, intrinsic_plain}
use Rattle.instep.specs.Moves.{Moves, moved_callee, moved_expr, moved_exprs, moved_stmt, moved_block, moved_branches, moved_cases, moved_default}
use Rattle.instep.proofs.Codes.{Like, nothing, marks, emits, refuses, seq, labels}

-- 1. What a relation of records has to hold of

-- a record with one label, or two
abbrev pub carrying : (at tag first second line flags value : ℕ) → Instr
carrying at t l j n f v = record { tag = t; small = 0; first = l; second = j; line = n; flags = f; value = v; node = at }

-- seven sorts of records: I relates what is emitted at a place and what is emitted where it has moved to
pub record Rules (m : Moves) (K : ℕ) (I : Instr → Instr → Type 0) : Type 0 where
  -- no label: the value stays, or is a free field; a constant
  pub plains : (at t a v : ℕ) → Carries t false false → I (plain at t a v) (plain (m.place at) t a v)
  pub frees : (at t a v : ℕ) → Carries t false false → I (plain at t a v) (plain (m.place at) t a (m.free v))
  pub constants : (at b v : ℕ) → I (plain at (const_tag b v) 0 v) (plain (m.place at) (const_tag (m.byte at b v) (m.value at b v)) 0 (m.value at b v))
  -- a jump; Conditional and SwitchLabel; Switch; an invoke
  pub ones : (at t l l' : ℕ) → Carries t true false → l' ≡ l + K → I (carrying at t l 0 0 0 0) (carrying (m.place at) t l' 0 0 0 0)
  pub twos : (at t l l' j j' : ℕ) → Carries t true true → l' ≡ l + K → j' ≡ j + K → I (carrying at t l j 0 0 0) (carrying (m.place at) t l' j' 0 0 0)
  pub switches : (at t l l' v : ℕ) → Carries t true false → l' ≡ l + K → I (carrying at t l 0 0 0 v) (carrying (m.place at) t l' 0 0 0 (m.free v))
  pub invokes : (at t l l' n f v : ℕ) → Carries t true false → l' ≡ l + K
      → I (carrying at t l 0 n f v) (carrying (m.place at) t l' 0 (m.free n) f (m.free v))

-- which labels the tag's row has
by_row : (t : ℕ) → Carries t (row_of t).first (row_of t).second
by_row t = (refl, refl)

-- 2. What decides flags and groups is the same of a moved tree

module _ (m : Moves) where
  length_moved : (es : Exprs) → length_exprs (moved_exprs m es) ≡ length_exprs es
  unfolding length_exprs moved_exprs
  length_moved enil = refl
  length_moved (econs e es) = ap suc (length_moved es)

  place_moved : (e : Expr) → place_of (moved_expr m e) ≡ m.place (place_of e)
  unfolding place_of moved_expr
  place_moved (nop at) = refl
  place_moved (const at b v) = refl
  place_moved (null at w) = refl
  place_moved (new_instance at c) = refl
  place_moved (construct at c es) = refl
  place_moved (assign at p e) = refl
  place_moved (field at f n e) = refl
  place_moved (index at d t a i) = refl
  place_moved (conditional at c t e) = refl
  place_moved (dyn_cast at c w e) = refl
  place_moved (local at f i) = refl
  place_moved (intrinsic at k s t i es) = refl
  place_moved (free_call at c es) = refl
  place_moved (static_call at c es) = refl
  place_moved (instance_call at w e c es) = refl
  place_moved (closure_call at e n l es) = refl

  prvalue_moved : (e : Expr) → is_prvalue (moved_expr m e) ≡ is_prvalue e
  unfolding is_prvalue moved_expr
  prvalue_moved (nop at) = refl
  prvalue_moved (const at b v) = refl
  prvalue_moved (null at w) = refl
  prvalue_moved (new_instance at c) = refl
  prvalue_moved (construct at c es) = refl
  prvalue_moved (assign at p e) = refl
  prvalue_moved (field at f n e) = refl
  prvalue_moved (index at d t a i) = refl
  prvalue_moved (conditional at c t e) = refl
  prvalue_moved (dyn_cast at c w e) = refl
  prvalue_moved (local at f i) = refl
  prvalue_moved (intrinsic at k s t i es) = refl
  prvalue_moved (free_call at c es) = refl
  prvalue_moved (static_call at c es) = refl
  prvalue_moved (instance_call at w e c es) = refl
  prvalue_moved (closure_call at e n l es) = refl

  one_moved : (es : Exprs) → one_prvalue (moved_exprs m es) ≡ one_prvalue es
  unfolding one_prvalue moved_exprs
  one_moved enil = refl
  one_moved (econs e enil) = prvalue_moved e
  one_moved (econs e (econs e' es)) = refl

  flagged_moved : (e : Expr) → is_flagged (moved_expr m e) ≡ is_flagged e
  unfolding is_flagged moved_expr
  flagged_moved (nop at) = refl
  flagged_moved (const at b v) = refl
  flagged_moved (null at w) = refl
  flagged_moved (new_instance at c) = refl
  flagged_moved (construct at c es) = refl
  flagged_moved (assign at p e) = refl
  flagged_moved (field at f n e) = refl
  flagged_moved (index at d t a i) = refl
  flagged_moved (conditional at c t e) = refl
  flagged_moved (dyn_cast at c w e) = refl
  flagged_moved (local at f i) = refl
  flagged_moved (intrinsic at k s t i es) = rw (one_moved es)
  flagged_moved (free_call at c es) = refl
  flagged_moved (static_call at c es) = refl
  flagged_moved (instance_call at w e c es) = refl
  flagged_moved (closure_call at e n l es) = refl

  flags_moved : (es : Exprs) (bit : ℕ) → flags_of (moved_exprs m es) bit ≡ flags_of es bit
  unfolding flags_of moved_exprs
  flags_moved enil bit = refl
  flags_moved (econs e es) bit = rw (flagged_moved e, flags_moved es (2 * bit))

  cases_moved : (cs : Cases) → length_cases (moved_cases m cs) ≡ length_cases cs
  unfolding length_cases moved_cases
  cases_moved cnil = refl
  cases_moved (ccons x b cs) = ap suc (cases_moved cs)

  present_moved : (d : Default) → is_present (moved_default m d) ≡ is_present d
  unfolding is_present moved_default
  present_moved absent = refl
  present_moved (present b) = refl

  mid_moved : (d : Default) (i : ℕ) (cs : Cases) → mid_default (moved_default m d) i (moved_cases m cs) ≡ mid_default d i cs
  unfolding mid_default
  mid_moved d i cs = rw (present_moved d, cases_moved cs)

  group_moved : (b : Block) (cs : Cases) → ends_group (moved_block m b) (moved_cases m cs) ≡ ends_group b cs
  unfolding ends_group moved_block moved_cases
  group_moved (bcons s b) cs = refl
  group_moved bnil cnil = refl
  group_moved bnil (ccons x b cs) = refl

-- 3. Where break and continue go: nowhere for both, or to a label with a number that is K higher

pub data LikeTarget (K : ℕ) : Option ℕ → Option ℕ → Type 0 where
  nowhere : LikeTarget K none none
  there : {l l' : ℕ} → l' ≡ l + K → LikeTarget K (some l) (some l')

pub record LikeSpans (K : ℕ) (p p' : BlockSpan) : Type 0 where
  pub break_is : LikeTarget K p.break_target p'.break_target
  pub continue_is : LikeTarget K p.continue_target p'.continue_target
  pub returns_is : p'.returns ≡ p.returns

loop_spans : {K start start' end end' : ℕ} {p p' : BlockSpan} → start' ≡ start + K → end' ≡ end + K → LikeSpans K p p'
    → LikeSpans K (in_loop start end p) (in_loop start' end' p')
loop_spans d e h = record { break_is = there e; continue_is = there d; returns_is = h.returns_is }

switch_spans : {K end end' : ℕ} {p p' : BlockSpan} → end' ≡ end + K → LikeSpans K p p' → LikeSpans K (in_switch end p) (in_switch end' p')
switch_spans e h = record { break_is = there e; continue_is = h.continue_is; returns_is = h.returns_is }

-- 4. The rules of lowering

module _ (m : Moves) (K : ℕ) (I : Instr → Instr → Type 0) (r : Rules m K I) where
  infixr 10 ◌~◌
  abbrev pub ◌~◌ : Code → Code → Type 0
  ◌~◌ p q = Like m.place K I p q

  -- one after the other
  infixr 20 ◌&◌
  abbrev ◌&◌ : {p q p' q' : Code} → p ~ q → p' ~ q' → p then p' ~ q then q'
  ◌&◌ l o = seq l o

  -- a record: with one label, with two, with a value that stays, with one that is a free field
  one : (t : ℕ) {at l l' : ℕ} → Carries t true false → l' ≡ l + K → jump at t l ~ jump (m.place at) t l'
  one t c e = emits (r.ones _ t _ _ c e)

  two : (t : ℕ) {at l l' j j' : ℕ} → Carries t true true → l' ≡ l + K → j' ≡ j + K → jumps at t l j ~ jumps (m.place at) t l' j'
  two t c e d = emits (r.twos _ t _ _ _ _ c e d)

  same : {at : ℕ} (t a v : ℕ) → Carries t false false → act (emit (plain at t a v)) ~ act (emit (plain (m.place at) t a v))
  same t a v c = emits (r.plains _ t a v c)

  free : {at : ℕ} (t a v : ℕ) → Carries t false false → act (emit (plain at t a v)) ~ act (emit (plain (m.place at) t a (m.free v)))
  free t a v c = emits (r.frees _ t a v c)

  requires : (b : Bool) (n p x : ℕ) → require b n p x ~ require b n (m.place p) x
  unfolding require
  requires true n p x = nothing
  requires false n p x = refuses

  flags : (es : Exprs) (i : ℕ) → require_flags es i ~ require_flags (moved_exprs m es) i
  unfolding require_flags moved_exprs
  flags enil i = nothing
  flags (econs e es) i = rw (flagged_moved m e, place_moved m e) (requires _ 13 (place_of e) (i + 1) & flags es (i + 1))

  weak : (at w : ℕ) → weak_to_ref at w ~ weak_to_ref (m.place at) w
  unfolding weak_to_ref row_of rows
  weak at zero = nothing
  weak at (suc w) = same WeakRefToRef 0 0 (by_row WeakRefToRef)

  -- 5. Expressions

  fields : {p q : Code} (at form name : ℕ) → p ~ q → lower_field at form name p ~ lower_field (m.place at) form (m.free name) q
  unfolding lower_field row_of rows
  fields at zero name l = free StructField 0 name (by_row StructField) & l
  fields at (suc w) name l = labels (λ exit exit' e. one Context (by_row Context) e & weak at w & l & free ObjectField 0 name (by_row ObjectField) & marks e)

  arg : {p q : Code} (at short : ℕ) → p ~ q → lower_arg at short p ~ lower_arg (m.place at) short q
  unfolding lower_arg row_of rows
  arg at zero l = l
  arg at (suc s) l = labels (λ skip skip' e. one Skip (by_row Skip) e & l & marks e)

  no_args : (at : ℕ) (ps : List ℕ) → nops at ps ~ nops (m.place at) ps
  unfolding nops row_of rows
  no_args at [] = nothing
  no_args at (p ∷ ps) = same Nop 0 0 (by_row Nop) & no_args at ps

  invoked : (at b exit exit' l f function name : ℕ) → exit' ≡ exit + K
      → emit_invoke at b exit l f function name ~ emit_invoke (m.place at) b exit' (m.free l) f (m.free function) (m.free name)
  unfolding emit_invoke row_of rows
  invoked at zero exit exit' l f function name e = emits (r.invokes at InvokeVirtual exit exit' l f name (by_row InvokeVirtual) e)
  invoked at (suc b) exit exit' l f function name e = emits (r.invokes at InvokeStatic exit exit' l f function (by_row InvokeStatic) e)

  called : {p q : Code} (at : ℕ) (c : Callee) (es : Exprs) → p ~ q → emit_call at c es p ~ emit_call (m.place at) (moved_callee m c) (moved_exprs m es) q
  unfolding emit_call row_of rows
  called at c es l =
      rw (flags_moved m es 1) (labels (λ exit exit' e.
      flags es 0 & invoked at c.flags exit exit' c.line (flags_of es 1) c.function c.name e & l & same ParamEnd 0 0 (by_row ParamEnd) & marks e))

  mutual
    unfolding lower_expr moved_expr row_of rows

    like_expr : (e : Expr) → lower_expr e ~ lower_expr (moved_expr m e)
    like_expr (nop at) = same Nop 0 0 (by_row Nop)
    like_expr (const at b v) = emits (r.constants at b v)
    like_expr (null at w) = same _ 0 0 (null_plain w).carries
    like_expr (new_instance at c) = free New 0 c (by_row New)
    like_expr (construct at c es) = rw (length_moved m es) (requires _ 12 at _ & free Construct (length_exprs es) c (by_row Construct) & like_exprs es)
    like_expr (assign at p e) = same Assign 0 0 (by_row Assign) & like_expr p & like_expr e
    like_expr (field at f n e) = fields at f n (like_expr e)
    like_expr (index at d t a i) = free _ 0 t (element_plain d).carries & like_expr a & like_expr i
    like_expr (conditional at c t e) =
        labels (λ else else' d. labels (λ exit exit' b. two Conditional (by_row Conditional) d b & like_expr c & like_expr t & marks d & like_expr e & marks b))
    like_expr (dyn_cast at c w e) = free DynamicCast w c (by_row DynamicCast) & like_expr e
    like_expr (local at f i) = free _ 0 i (local_plain f).carries
    like_expr (intrinsic at k s t i es) = requires _ 14 at 0 & free _ _ i (intrinsic_plain k).carries & like_exprs es
    like_expr (free_call at c es) = called at c es (like_args es at c.params)
    like_expr (static_call at c es) = labels (λ exit exit' e. called at c es (like_args es at c.params) & marks e)
    like_expr (instance_call at w e c es) =
        labels (λ exit exit' d. one Context (by_row Context) d & weak at w & like_expr e & called at c es (like_args es at c.params) & marks d)
    like_expr (closure_call at e n l es) =
        labels (λ context context' d. one Context (by_row Context) d & like_expr e & marks d &
        labels (λ exit exit' b.
        emits (r.invokes at InvokeVirtual exit exit' l 0 n (by_row InvokeVirtual) b) & like_exprs es & same ParamEnd 0 0 (by_row ParamEnd) & marks b))

    like_exprs : (es : Exprs) → lower_exprs es ~ lower_exprs (moved_exprs m es)
    like_exprs enil = nothing
    like_exprs (econs e es) = like_expr e & like_exprs es

    like_args : (es : Exprs) (at : ℕ) (ps : List ℕ) → lower_args es at ps ~ lower_args (moved_exprs m es) (m.place at) ps
    like_args enil at ps = no_args at ps
    like_args (econs e es) at [] = like_expr e & like_args es at []
    like_args (econs e es) at (p ∷ ps) = arg at p (like_expr e) & like_args es at ps

  -- 6. Statements without blocks

  elements : (es : Exprs) (at l t i : ℕ) → lower_elements es at l t i ~ lower_elements (moved_exprs m es) (m.place at) (m.free l) (m.free t) i
  unfolding lower_elements moved_exprs emissions row_of rows
  elements enil at l t i = nothing
  elements (econs e es) at l t i =
      (same Assign 0 0 (by_row Assign) & free ArrayElement 0 t (by_row ArrayElement) & free Local 0 l (by_row Local)
      & same U64Const 0 i (by_row U64Const) & nothing)
      & like_expr e & elements es at l t (i + 1)

  array : (es : Exprs) (at l t : ℕ) → lower_array es at l t ~ lower_array (moved_exprs m es) (m.place at) (m.free l) (m.free t)
  unfolding lower_array moved_exprs emissions row_of rows
  array enil at l t = nothing
  array (econs e es) at l t =
      rw (length_moved m es)
      ((free ArrayResize 0 t (by_row ArrayResize) & free Local 0 l (by_row Local) & same U64Const 0 (suc (length_exprs es)) (by_row U64Const) & nothing)
      & elements (econs e es) at l t 0)

  primitive : (at k i : ℕ) → emissions (primitive_default at k i) ~ emissions (primitive_default (m.place at) k (m.free i))
  unfolding primitive_default emissions
  primitive at k i = go (ltb k 17) (ltb k 4)
    where
      go : (b c : Bool) → emissions (cond b (plain at (get_or default_tags k Nop) 0 (cond c i 0) ∷ []) [])
          ~ emissions (cond b (plain (m.place at) (get_or default_tags k Nop) 0 (cond c (m.free i) 0) ∷ []) [])
      go true true = free _ 0 i (primitive_plain k).carries & nothing
      go true false = same _ 0 0 (primitive_plain k).carries & nothing
      go false c = nothing

  default_like : (at l b i : ℕ) → emissions (default_instrs at l b i) ~ emissions (default_instrs (m.place at) (m.free l) b (m.free i))
  unfolding default_instrs emissions row_of rows
  default_like at l zero i = nothing
  default_like at l (suc zero) i = free ArrayClear 0 i (by_row ArrayClear) & free Local 0 l (by_row Local) & nothing
  default_like at l (suc (suc zero)) i = same Assign 0 0 (by_row Assign) & free Local 0 l (by_row Local) & free Construct 0 i (by_row Construct) & nothing
  default_like at l (suc (suc (suc zero))) i = same Assign 0 0 (by_row Assign) & free Local 0 l (by_row Local) & same Null 0 0 (by_row Null) & nothing
  default_like at l (suc (suc (suc (suc zero)))) i =
      same Assign 0 0 (by_row Assign) & free Local 0 l (by_row Local) & free I32ToEnum 1 i (by_row I32ToEnum) & same I8Const 0 0 (by_row I8Const) & nothing
  default_like at l (suc (suc (suc (suc (suc b))))) i = same Assign 0 0 (by_row Assign) & free Local 0 l (by_row Local) & primitive at _ i

  returned : {p q : Code} (at returns : ℕ) → p ~ q → lower_return at returns p ~ lower_return (m.place at) returns q
  unfolding lower_return row_of rows
  returned at zero l = l & same Return 0 0 (by_row Return) & same Nop 0 0 (by_row Nop)
  returned at (suc n) l = same Return 0 0 (by_row Return) & l

  returned_nothing : (at : ℕ) → lower_return_nothing at ~ lower_return_nothing (m.place at)
  unfolding lower_return_nothing row_of rows
  returned_nothing at = same Return 0 0 (by_row Return) & same Nop 0 0 (by_row Nop)

  -- 7. Statements

  many_like : {p q : Code} (at k : ℕ) → p ~ q → many at k p ~ many (m.place at) k q
  unfolding many
  many_like at zero l = l
  many_like at (suc k) l = labels (λ n n' e. many_like at k l)

  cond_like : {p q p' q' : Code} (b : Bool) → p ~ q → p' ~ q' → cond b p p' ~ cond b q q'
  cond_like true l o = l
  cond_like false l o = o

  grouped : {k k' : ℕ → Code} {g g' : Option ℕ} (at : ℕ) → LikeTarget K g g'
      → ((l l' : ℕ) → l' ≡ l + K → k l ~ k' l') → in_group g at k ~ in_group g' (m.place at) k'
  unfolding in_group
  grouped at nowhere h = labels h
  grouped at (there {l} {l'} e) h = h l l' e

  jumps_to : (n at : ℕ) {g g' : Option ℕ} → LikeTarget K g g' → jump_to n at g ~ jump_to n (m.place at) g'
  unfolding jump_to row_of rows
  jumps_to n at nowhere = refuses
  jumps_to n at (there e) = one Jump (by_row Jump) e

  mutual
    unfolding lower_stmt moved_stmt row_of rows

    like_stmt : (s : Stmt) (p p' : BlockSpan) → LikeSpans K p p' → lower_stmt s p ~ lower_stmt (moved_stmt m s) p'
    like_stmt (expr at e) p p' h = like_expr e
    like_stmt (block at b) p p' h = like_block b p p' h
    like_stmt (while at c b) p p' h =
        labels (λ start start' d. labels (λ end end' e.
        marks d & one JumpIfFalse (by_row JumpIfFalse) e & like_expr c & like_block b _ _ (loop_spans d e h) & one Jump (by_row Jump) d & marks e))
    like_stmt (branches at bs d) p p' h =
        labels (λ next next' e. labels (λ exit exit' f. like_branches bs at next next' exit exit' e f p p' h & like_last d p p' h & marks f))
    like_stmt (switch at t e i cs d) p p' h =
        rw (mid_moved m d i cs, cases_moved m cs)
        (labels (λ end end' b. labels (λ first first' f. emits (r.switches at Switch first first' t (by_row Switch) f) & like_expr e &
        cond_like (mid_default d i cs)
        (labels (λ body body' g.
        let z : body' + length_cases cs ≡ body + length_cases cs + K = omega arith in
        many_like at (length_cases cs)
        (like_matchers cs at first first' body body' f g & same SwitchDefault 0 0 (by_row SwitchDefault) & one Jump (by_row Jump) z &
        like_bodies cs i body body' (body + length_cases cs) (body' + length_cases cs) g z (like_last d _ _ (switch_spans b h)) _ _ (switch_spans b h))))
        (like_cases cs at first first' f none none nowhere _ _ (switch_spans b h) & like_default_last d at _ _ (switch_spans b h)) &
        marks b)))
    like_stmt (init_array at l t es) p p' h = array es at l t
    like_stmt (init_default at l b i) p p' h = default_like at l b i
    like_stmt (break at) p p' h = jumps_to 10 at h.break_is
    like_stmt (continue at) p p' h = jumps_to 11 at h.continue_is
    like_stmt (return at e) p p' h = rw h.returns_is (returned at p.returns (like_expr e))
    like_stmt (return_nothing at) p p' h = returned_nothing at

    like_matchers : (cs : Cases) (at next next' body body' : ℕ) → next' ≡ next + K → body' ≡ body + K
        → lower_matchers cs at next body ~ lower_matchers (moved_cases m cs) (m.place at) next' body'
    like_matchers cnil at next next' body body' e f = marks e
    like_matchers (ccons x b cs) at next next' body body' e f =
        marks e & labels (λ n n' g. two SwitchLabel (by_row SwitchLabel) g f & like_expr x & like_matchers cs at n n' (body + 1) (body' + 1) g (omega arith))

    like_bodies : {q q' : Code} (cs : Cases) (i body body' dflt dflt' : ℕ) → body' ≡ body + K → dflt' ≡ dflt + K → q ~ q'
        → (p p' : BlockSpan) → LikeSpans K p p' → lower_bodies cs i body dflt q p ~ lower_bodies (moved_cases m cs) i body' dflt' q' p'
    like_bodies cnil i body body' dflt dflt' e f l p p' h = nothing
    like_bodies (ccons x b cs) zero body body' dflt dflt' e f l p p' h =
        marks f & l & marks e & like_block b p p' h & like_blocks cs (body + 1) (body' + 1) (omega arith) p p' h
    like_bodies (ccons x b cs) (suc i) body body' dflt dflt' e f l p p' h =
        marks e & like_block b p p' h & like_bodies cs i (body + 1) (body' + 1) dflt dflt' (omega arith) f l p p' h

    like_blocks : (cs : Cases) (body body' : ℕ) → body' ≡ body + K → (p p' : BlockSpan) → LikeSpans K p p'
        → lower_blocks cs body p ~ lower_blocks (moved_cases m cs) body' p'
    like_blocks cnil body body' e p p' h = nothing
    like_blocks (ccons x b cs) body body' e p p' h = marks e & like_block b p p' h & like_blocks cs (body + 1) (body' + 1) (omega arith) p p' h

    like_cases : (cs : Cases) (at next next' : ℕ) → next' ≡ next + K → (g g' : Option ℕ) → LikeTarget K g g' → (p p' : BlockSpan) → LikeSpans K p p'
        → lower_cases cs at next g p ~ lower_cases (moved_cases m cs) (m.place at) next' g' p'
    like_cases cnil at next next' e g g' o p p' h = marks e
    like_cases (ccons x b cs) at next next' e g g' o p p' h =
        rw (group_moved m b cs)
        (grouped at o (λ body body' f. marks e & labels (λ n n' d. two SwitchLabel (by_row SwitchLabel) d f & like_expr x &
        cond_like (ends_group b cs) (marks f & like_block b p p' h & like_cases cs at n n' d none none nowhere p p' h)
        (like_cases cs at n n' d (some body) (some body') (there f) p p' h))))

    like_default_last : (d : Default) (at : ℕ) (p p' : BlockSpan) → LikeSpans K p p' → lower_last d at p ~ lower_last (moved_default m d) (m.place at) p'
    like_default_last absent at p p' h = nothing
    like_default_last (present b) at p p' h = same SwitchDefault 0 0 (by_row SwitchDefault) & like_block b p p' h

    like_branches : (bs : Branches) (at next next' exit exit' : ℕ) → next' ≡ next + K → exit' ≡ exit + K → (p p' : BlockSpan) → LikeSpans K p p'
        → lower_branches bs at next exit p ~ lower_branches (moved_branches m bs) (m.place at) next' exit' p'
    like_branches brnil at next next' exit exit' e f p p' h = nothing
    like_branches (brcons c b bs) at next next' exit exit' e f p p' h =
        one JumpIfFalse (by_row JumpIfFalse) e & like_expr c & like_block b p p' h & one Jump (by_row Jump) f & marks e
        & labels (λ n n' d. like_branches bs at n n' exit exit' d f p p' h)

    like_last : (d : Default) (p p' : BlockSpan) → LikeSpans K p p' → lower_default d p ~ lower_default (moved_default m d) p'
    like_last absent p p' h = nothing
    like_last (present b) p p' h = like_block b p p' h

    pub like_block : (b : Block) (p p' : BlockSpan) → LikeSpans K p p' → lower_block b p ~ lower_block (moved_block m b) p'
    like_block bnil p p' h = nothing
    like_block (bcons s b) p p' h = like_stmt s p p' h & like_block b p p' h
