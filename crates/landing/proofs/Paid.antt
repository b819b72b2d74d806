-- Each kind pays for what it emits: an expression with 28 units and 4 records to spare, which an element of an InitArray takes.
-- In a unit of bytes it emits only records that fit.
use Prim.Native.Nat.{ℕ, zero, suc, ◌+◌, ◌-◌, ◌*◌, ◌^◌, ◌≤◌, ◌<◌}
use mathlib.Core.Path.{◌≡◌, refl}
use mathlib.Core.List.{List, [], ◌∷◌}
use mathlib.Core.Bool.{Bool, true, false, cond, ◌&&◌}
use mathlib.Core.Option.{none}
use native.Mathlib.Omega.{arith}
use native.Mathlib.Nat.{pow-le-pow_right}
use lib.Dec.{leb, ltb, eqb, leb→le, lit<}
use lib.ListN.{length, get_or}
use borrow.Author.Tests.{leb-true, ltb-true}
use Rattle.definitions.specs.Answer.{Answer, ok, refused, bind}
use Rattle.definitions.specs.Tag
use Rattle.definitions.specs.Tag.{rows, row_of, const_widths, const_tag, intrinsic_of, default_tags}
use Rattle.definitions.specs.Tree.{Callee, Expr, Exprs, Stmt, Block, Default, Script, nop, const, null, new_instance, construct, assign, field, index, conditional, dyn_cast, local, intrinsic, free_call, static_call, instance_call, closure_call, enil, econs, expr, block, while, branches, switch, init_array, init_default, break, continue, return, return_nothing, absent, present, exprs_of, block_of, branches_of, cases_of, length_exprs, length_cases}
use Rattle.definitions.specs.Instr.{unused0}
use Rattle.definitions.specs.Code.{label_limit}
use Rattle.definitions.specs.Read.{Parser, give, unsigned, mark_byte, run, ended, as_nop, payload, as_const, as_null, as_new_instance, as_construct, as_assign, as_field, as_index, as_conditional, as_dyn_cast, as_local, as_intrinsic, callee, arguments, as_free_call, as_static_call, as_instance_call, as_closure_call, expr_kinds, expr_body, parse_expr, as_expr, as_block, as_while, arm, block_if, as_branches, as_switch, as_init_array, as_init_default, as_break, as_continue, return_if, as_return, stmt_kinds, stmt_body, parse_stmt, unit_limit, depth_limit, front_good, parse_unit, ◌>>=◌}
use Rattle.definitions.specs.Lower.{null_tag, element_tag, local_tag, lower_expr, lower_args, primitive_default, default_instrs, in_loop, in_switch, outside, mid_default, lower_stmt, code_of}
use Rattle.laws.proofs.Inversion.{refused_not_ok, bind_ok}
use Rattle.laws.proofs.Tables.{every, at as table}
use Rattle.laws.proofs.Sizes.{tag_total, total_is, size_limit, sized}
use Rattle.laws.proofs.Picked.{const_plain, null_plain, element_plain, local_plain, intrinsic_plain, intrinsic_small}
use Rattle.laws.proofs.Trees.{length_cases_law}
use Rattle.landing.specs.Distance.{size_weak, size_field, size_skip, size_nops, size_invoke, size_call, size_expr, size_exprs, size_args, size_elements, size_array, size_after_return, size_stmt, size_matchers, size_blocks, size_cases, size_last, size_branches, size_default, size_block, size_of}
use Rattle.landing.specs.Walk.{Bytes}
use Rattle.landing.proofs.Counts.{one_if, count_field, count_expr, count_exprs, count_args, count_elements, count_array, count_return, count_stmt, count_matchers, count_blocks, count_cases, count_last, count_branches, count_default, count_block}
use Rattle.landing.proofs.Fits.{Fine, marks, seq, labels, many_labels, either, required, bare, carry}
use Rattle.landing.proofs.Parts.{weak_fine, field_fine, CalleeFits, call_fine, FineExpr, exprs_fine, args_fine, array_fine, default_fine, return_nothing_law, return_fine, Known, jump_to_fine, FineStmt, FineArm, FineDefault, block_fine, absent_fine, present_fine, branches_fine, cases_fine, matchers_fine, bodies_fine}
use Rattle.landing.proofs.Bytes.{◌&◌, Narrow, Pays, Item, passed, over, gives, unsigned_pays, tested, byte_below_pays, mark_bytes_pays, sum, run_pays, run_within, over_ended, node_item, unknown_pays, pick_pays}

-- 1. Expressions: what a list of them takes

-- an expression and what it leaves to spare
abbrev spare_e : Expr → ℕ
spare_e e = size_expr e + 28

abbrev spare_c : Expr → ℕ
spare_c e = count_expr e + 4

el_size : (xs : List Expr) → size_elements (exprs_of xs) ≡ sum spare_e xs
unfolding size_elements exprs_of sum
el_size [] = refl
el_size (x ∷ xs) = omega (arith, sized, el_size xs)

el_count : (xs : List Expr) → count_elements (exprs_of xs) ≡ sum spare_c xs
unfolding count_elements exprs_of sum
el_count [] = refl
el_count (x ∷ xs) = omega (arith, el_count xs)

es_size : (es : Exprs) → (size_exprs es ≤ size_elements es) × (count_exprs es ≤ count_elements es)
unfolding size_exprs size_elements count_exprs count_elements
es_size enil = (omega arith, omega arith)
es_size (econs e es) = let r = es_size es in (omega arith, omega arith)

one_if_law : (m : ℕ) → one_if m ≤ 1
unfolding one_if
one_if_law zero = omega arith
one_if_law (suc m) = omega arith

weak_size : (w : ℕ) → size_weak w ≤ 1
unfolding size_weak
weak_size zero = omega (arith, sized)
weak_size (suc w) = omega (arith, sized)

skip_size : (p : ℕ) → size_skip p ≤ 3
unfolding size_skip
skip_size zero = omega (arith, sized)
skip_size (suc p) = omega (arith, sized)

invoke_size : (b : ℕ) → size_invoke b ≤ 17
unfolding size_invoke
invoke_size zero = size_limit _
invoke_size (suc b) = size_limit _

nops_size : (ps : List ℕ) → size_nops ps ≤ 3 * length ps
unfolding size_nops
nops_size [] = omega (arith, sized)
nops_size (p ∷ ps) = omega (arith, sized, nops_size ps)

-- arguments and parameters
a_size : (es : Exprs) (ps : List ℕ) → (size_args es ps ≤ size_elements es + 3 * length ps) × (count_args es ps ≤ count_elements es + length ps)
unfolding size_args size_elements count_args count_elements
a_size enil ps = (omega (arith, nops_size ps), omega arith)
a_size (econs e es) [] = let r = a_size es [] in (omega arith, omega arith)
a_size (econs e es) (p ∷ ps) = let r = a_size es ps in (omega (arith, skip_size p), omega (arith, one_if_law p))

field_size : (form r : ℕ) → size_field form r ≤ 13 + r
unfolding size_field
field_size zero r = omega (arith, sized)
field_size (suc w) r = omega (arith, sized, weak_size w)

field_count : (form r : ℕ) → count_field form r ≤ 3 + r
unfolding count_field
field_count zero r = omega arith
field_count (suc w) r = omega (arith, one_if_law w)

-- 2. Expressions: each kind

-- an expression of a run
abbrev ExprItem : (s : List ℕ) → (ℕ → Parser Expr) → Type 0
ExprItem s child = (end : ℕ) → Narrow end → Item s (child end) end spare_e spare_c FineExpr

payload_pays : (s : List ℕ) (at end b : ℕ) → Pays s (payload s at end b) 0 0 (λ v. 0) (λ v. 0) (λ v. v < 256 ^ 8)
unfolding payload const_widths every
payload_pays s at end b = go (eqb b 15) (get_or const_widths b 0) (leb→le (get_or const_widths b 0) 8 (table (λ w. leb w 8) const_widths 0 tt tt b))
  where
    go : (c : Bool) (w : ℕ) → w ≤ 8 → Pays {A = ℕ} s (elim c [ true ↦ mark_byte s at end | false ↦ unsigned s at end w ]) 0 0 (λ v. 0) (λ v. 0) (λ v. v < 256 ^ 8)
    go true w h = record { paid = λ i v next e. let r = (byte_below_pays s at end 2).paid i v next e in (omega arith, omega arith, λ bytes. omega (arith, r.2 bytes)) }
    go false w h = record {
      paid = λ i v next e.
          let r = (unsigned_pays s at end w).paid i v next e in
          (omega arith, omega arith, λ bytes. omega (arith, r.2 bytes, pow-le-pow_right {n = 256} (lit< tt) {i = w} {j = 8} h));
    }

callee_pays : (s : List ℕ) (at end : ℕ) → Pays s (callee s at end) 0 0 (λ c. 96 + 8 * length c.params) (λ c. 12 + length c.params) CalleeFits
unfolding callee
callee_pays s at end =
    over (unsigned_pays s at end 4) λ f f'. over (unsigned_pays s at end 4) λ n n'. over (unsigned_pays s at end 2) λ l l'. over (byte_below_pays s at end 16) λ b b'.
    over (unsigned_pays s at end 1) λ k k'. over (mark_bytes_pays s at end k) λ ms ms'. gives _ (omega arith) λ bytes. record { function = f' bytes; name = n' bytes; line = l' bytes }

arguments_pay : {child : ℕ → Parser Expr} (s : List ℕ) (at end params : ℕ) → at ≤ end → Narrow end → ExprItem s child →
    Pays s (arguments s child at end params) 0 0 (λ es. 32 + size_elements es) (λ es. 4 + count_elements es) (λ es. (ps : List ℕ) → Fine (lower_args es at ps))
unfolding arguments
arguments_pay s at end params z near h =
    over (run_pays s end near h) λ xs xs'. over_ended at end xs _
    (tested (leb (length xs) params) (exprs_of xs) 5 at 0 (omega (arith, el_size xs, el_count xs)) λ e bytes ps. args_fine xs at ps (omega arith) (xs' bytes).1)

-- a call is paid by its node, its function and its arguments
call_size : (c : Callee) (es : Exprs) →
    (size_call c (size_args es c.params) + 28 ≤ 40 + (96 + 8 * length c.params) + (32 + size_elements es))
    × (2 + count_args es c.params + 4 ≤ 5 + (12 + length c.params) + (4 + count_elements es))
call_size c es = let r = a_size es c.params in (omega (arith, invoke_size c.flags, size_limit Tag.ParamEnd), omega arith)

-- one expression, in a node with 40 units and 5 records
abbrev PaysE : (s : List ℕ) → Parser Expr → Type 0
PaysE s p = Pays s p 40 5 spare_e spare_c FineExpr

module _ (s : List ℕ) (child : ℕ → Parser Expr) (h : ExprItem s child) (at end : ℕ) (z : at ≤ end) (near : Narrow end) where
  nop_pays : PaysE s (as_nop at)
  unfolding as_nop size_expr count_expr lower_expr
  nop_pays = gives (nop at) (omega (arith, sized)) λ bytes. bare at Tag.Nop 0 0 (omega (arith, sized))

  const_pays : PaysE s (as_const s at end)
  unfolding as_const size_expr count_expr lower_expr
  const_pays =
      over (byte_below_pays s at end 16) λ b b'. over (payload_pays s at end b) λ v v'.
      gives (const at b v) (omega (arith, size_limit (const_tag b v))) λ bytes. bare at (const_tag b v) 0 v ((const_plain b v).sized, omega arith, v' bytes, omega arith)

  null_pays : PaysE s (as_null s at end)
  unfolding as_null size_expr count_expr lower_expr
  null_pays = over (byte_below_pays s at end 2) λ w w'. gives (null at w) (omega (arith, size_limit (null_tag w))) λ bytes. bare at (null_tag w) 0 0 ((null_plain w).sized, omega arith, omega arith, omega arith)

  new_instance_pays : PaysE s (as_new_instance s at end)
  unfolding as_new_instance size_expr count_expr lower_expr
  new_instance_pays = over (unsigned_pays s at end 4) λ c c'. gives (new_instance at c) (omega (arith, sized)) λ bytes. bare at Tag.New 0 c (omega (arith, sized, c' bytes))

  construct_pays : PaysE s (as_construct s child at end)
  unfolding as_construct size_expr count_expr lower_expr
  construct_pays =
      over (unsigned_pays s at end 4) λ c c'. over (run_pays s end near h) λ xs xs'. let n = length_exprs (exprs_of xs) in let r = es_size (exprs_of xs) in
      gives (construct at c (exprs_of xs)) (omega (arith, sized, el_size xs, el_count xs)) λ bytes.
      required (ltb n 256) 12 at n λ e. seq (bare at Tag.Construct n c (omega (arith, sized, ltb-true n 256 e, c' bytes))) (exprs_fine xs (xs' bytes).1)

  assign_pays : PaysE s (as_assign child at end)
  unfolding as_assign size_expr count_expr lower_expr
  assign_pays = over (h end near).pays λ p p'. over (h end near).pays λ e e'. gives (assign at p e) (omega (arith, sized)) λ bytes. seq (bare at Tag.Assign 0 0 (omega (arith, sized))) (seq (p' bytes) (e' bytes))

  field_pays : PaysE s (as_field s child at end)
  unfolding as_field size_expr count_expr lower_expr
  field_pays =
      over (byte_below_pays s at end 3) λ f f'. over (unsigned_pays s at end 4) λ n n'. over (h end near).pays λ e e'.
      gives (field at f n e) (omega (arith, field_size f (size_expr e), field_count f (count_expr e))) λ bytes. field_fine at f n (n' bytes, omega arith) (e' bytes)

  index_pays : PaysE s (as_index s child at end)
  unfolding as_index size_expr count_expr lower_expr
  index_pays =
      over (byte_below_pays s at end 2) λ d d'. over (unsigned_pays s at end 4) λ t t'. over (h end near).pays λ a a'. over (h end near).pays λ i i'.
      gives (index at d t a i) (omega (arith, size_limit (element_tag d))) λ bytes. seq (bare at (element_tag d) 0 t ((element_plain d).sized, omega arith, omega (arith, t' bytes), omega arith)) (seq (a' bytes) (i' bytes))

  conditional_pays : PaysE s (as_conditional child at end)
  unfolding as_conditional size_expr count_expr lower_expr unused0 row_of rows label_limit
  conditional_pays =
      over (h end near).pays λ c c'. over (h end near).pays λ t t'. over (h end near).pays λ e e'.
      gives (conditional at c t e) (omega (arith, sized)) λ bytes. labels λ l l'. labels λ m m'. seq (carry refl (omega (arith, sized))) (seq (c' bytes) (seq (t' bytes) (seq marks (seq (e' bytes) marks))))

  dyn_cast_pays : PaysE s (as_dyn_cast s child at end)
  unfolding as_dyn_cast size_expr count_expr lower_expr
  dyn_cast_pays =
      over (unsigned_pays s at end 4) λ c c'. over (byte_below_pays s at end 2) λ w w'. over (h end near).pays λ e e'.
      gives (dyn_cast at c w e) (omega (arith, sized)) λ bytes. seq (bare at Tag.DynamicCast w c (omega (arith, sized, c' bytes, w' bytes))) (e' bytes)

  local_pays : PaysE s (as_local s at end)
  unfolding as_local size_expr count_expr lower_expr
  local_pays =
      over (byte_below_pays s at end 4) λ f f'. over (unsigned_pays s at end 4) λ i i'.
      gives (local at f i) (omega (arith, size_limit (local_tag f))) λ bytes. bare at (local_tag f) 0 i ((local_plain f).sized, omega arith, omega (arith, i' bytes), omega arith)

  intrinsic_pays : PaysE s (as_intrinsic s child at end)
  unfolding as_intrinsic size_expr count_expr lower_expr
  intrinsic_pays =
      over (byte_below_pays s at end 34) λ k k'. over (byte_below_pays s at end 2) λ m m'. over (unsigned_pays s at end 1) λ t t'. over (unsigned_pays s at end 4) λ i i'. over (run_pays s end near h) λ xs xs'. let r = es_size (exprs_of xs) in
      gives (intrinsic at k m t i (exprs_of xs)) (omega (arith, el_size xs, size_limit (intrinsic_of k).tag, el_count xs)) λ bytes.
      required _ 14 at 0 λ e. seq (bare at (intrinsic_of k).tag (intrinsic_of k).small i ((intrinsic_plain k).sized, intrinsic_small k, omega (arith, i' bytes), omega arith)) (exprs_fine xs (xs' bytes).1)

  free_call_pays : PaysE s (as_free_call s child at end)
  unfolding as_free_call size_expr count_expr lower_expr
  free_call_pays =
      over (callee_pays s at end) λ c c'. over (arguments_pay s at end (length c.params) z near h) λ es es'.
      gives (free_call at c es) (call_size c es) λ bytes. call_fine at c es (omega arith) (c' bytes) (es' bytes c.params)

  static_call_pays : PaysE s (as_static_call s child at end)
  unfolding as_static_call size_expr count_expr lower_expr
  static_call_pays =
      over (callee_pays s at end) λ c c'. over (arguments_pay s at end (length c.params) z near h) λ es es'.
      gives (static_call at c es) (call_size c es) λ bytes. labels λ l l'. seq (call_fine at c es (omega arith) (c' bytes) (es' bytes c.params)) marks

  instance_call_pays : PaysE s (as_instance_call s child at end)
  unfolding as_instance_call size_expr count_expr lower_expr unused0 row_of rows label_limit
  instance_call_pays =
      over (byte_below_pays s at end 2) λ w w'. over (h end near).pays λ e e'. over (callee_pays s at end) λ c c'. over (arguments_pay s at end (length c.params) z near h) λ es es'. let r = a_size es c.params in
      gives (instance_call at w e c es) (omega (arith, invoke_size c.flags, weak_size w, size_limit Tag.ParamEnd, size_limit Tag.Context, one_if_law w)) λ bytes.
      labels λ l l'. seq (carry refl (omega (arith, sized))) (seq (weak_fine at w (omega arith)) (seq (e' bytes) (seq (call_fine at c es (omega arith) (c' bytes) (es' bytes c.params)) marks)))

  closure_call_pays : PaysE s (as_closure_call s child at end)
  unfolding as_closure_call size_expr count_expr lower_expr unused0 row_of rows label_limit
  closure_call_pays =
      over (h end near).pays λ e e'. over (unsigned_pays s at end 4) λ n n'. over (unsigned_pays s at end 2) λ l l'. over (run_pays s end near h) λ xs xs'. let r = es_size (exprs_of xs) in
      gives (closure_call at e n l (exprs_of xs)) (omega (arith, sized, el_size xs, el_count xs)) λ bytes.
      labels λ m m'. seq (carry refl (omega (arith, sized))) (seq (e' bytes) (seq marks (labels λ k k'. seq (carry refl (omega (arith, sized, n' bytes, l' bytes))) (seq (exprs_fine xs (xs' bytes).1) (seq (bare at Tag.ParamEnd 0 0 (omega (arith, sized))) marks)))))

  body_pays : (kind : ℕ) → PaysE s (expr_body s child kind at end)
  unfolding expr_body expr_kinds
  body_pays kind = pick_pays (expr_kinds s child at end) at kind
      (unknown_pays at & nop_pays & const_pays & null_pays & new_instance_pays & construct_pays & assign_pays & field_pays & index_pays & conditional_pays & dyn_cast_pays
      & local_pays & intrinsic_pays & free_call_pays & static_call_pays & instance_call_pays & closure_call_pays & tt)

expr_item : (depth : ℕ) (s : List ℕ) → ExprItem s (parse_expr depth s)
unfolding parse_expr
expr_item zero s holder near = record { pays = record { paid = λ at a next e. refused_not_ok e }; within = λ at a next e. refused_not_ok e }
expr_item (suc d) s holder near = node_item s holder near (λ kind at end z near. body_pays s (parse_expr d s) (expr_item d s) at end z near kind)

-- 3. Statements, in a unit with the return byte r

module _ (r : ℕ) where
  -- a block, and an arm: a condition or matcher, and a block
  abbrev pub item_s : Stmt → ℕ
  item_s s = size_stmt s r

  abbrev pub item_c : Stmt → ℕ
  item_c s = count_stmt s r

  abbrev arm_s : Expr × Block → ℕ
  arm_s x = spare_e x.0 + 32 + size_block x.1 r

  abbrev arm_c : Expr × Block → ℕ
  arm_c x = spare_c x.0 + 4 + count_block x.1 r

  pub block_size : (xs : List Stmt) → (size_block (block_of xs) r ≡ sum item_s xs) × (count_block (block_of xs) r ≡ sum item_c xs)
  unfolding block_of sum size_block count_block
  block_size [] = (refl, refl)
  block_size (x ∷ xs) = let q = block_size xs in (omega arith, omega arith)

  branches_size : (xs : List (Expr × Block)) → (size_branches (branches_of xs) r ≤ sum arm_s xs) × (count_branches (branches_of xs) r ≤ sum arm_c xs)
  unfolding branches_of sum size_branches count_branches
  branches_size [] = (omega (arith, sized), omega arith)
  branches_size (x ∷ xs) = let q = branches_size xs in (omega (arith, sized), omega arith)

  cases_size : (xs : List (Expr × Block)) → (size_cases (cases_of xs) r ≤ sum arm_s xs) × (count_cases (cases_of xs) r ≤ sum arm_c xs)
  unfolding cases_of sum size_cases count_cases
  cases_size [] = (omega (arith, sized), omega arith)
  cases_size (x ∷ xs) = let q = cases_size xs in (omega (arith, sized), omega arith)

  mid_size : (xs : List (Expr × Block)) (defaultIndex D K : ℕ) →
      (size_matchers (cases_of xs) + size_blocks (cases_of xs) defaultIndex D r ≤ sum arm_s xs + D) × (count_matchers (cases_of xs) + count_blocks (cases_of xs) defaultIndex K r ≤ sum arm_c xs + K)
  unfolding cases_of sum size_matchers size_blocks count_matchers count_blocks
  mid_size [] defaultIndex D K = (omega (arith, sized), omega arith)
  mid_size (x ∷ xs) zero D K = let q = mid_size xs zero 0 0 in (omega (arith, sized), omega arith)
  mid_size (x ∷ xs) (suc defaultIndex) D K = let q = mid_size xs defaultIndex D K in (omega (arith, sized), omega arith)

  last_size : (d : Default) → (size_last d r ≤ 1 + size_default d r) × (count_last d r ≤ 1 + count_default d r)
  unfolding size_last size_default count_last count_default
  last_size absent = (omega (arith, sized), omega arith)
  last_size (present b) = (omega (arith, sized), omega arith)

  -- the cases and the default of a switch, in either layout
  switch_size : (xs : List (Expr × Block)) (d : Default) (defaultIndex : ℕ) (mid : Bool) →
      (cond mid (size_matchers (cases_of xs) + Rattle.landing.specs.Distance.SwitchDefault + Rattle.landing.specs.Distance.Jump + size_blocks (cases_of xs) defaultIndex (size_default d r) r) (size_cases (cases_of xs) r + size_last d r) ≤ sum arm_s xs + size_default d r + 4)
      × (cond mid (2 + count_matchers (cases_of xs) + count_blocks (cases_of xs) defaultIndex (count_default d r) r) (count_cases (cases_of xs) r + count_last d r) ≤ sum arm_c xs + count_default d r + 2)
  switch_size xs d defaultIndex true = let q = mid_size xs defaultIndex (size_default d r) (count_default d r) in (omega (arith, sized), omega arith)
  switch_size xs d defaultIndex false = let q = cases_size xs in let l = last_size d in (omega (arith, sized), omega arith)

array_size : (es : Exprs) → (size_array es ≤ 27 + size_elements es) × (count_array es ≤ 3 + count_elements es)
unfolding size_array count_array
array_size enil = (omega (arith, sized), omega arith)
array_size (econs e es) = (omega (arith, sized), omega arith)

primitive_size : (at k i : ℕ) → (tag_total (primitive_default at k i) ≤ 17) × (length (primitive_default at k i) ≤ 1)
unfolding primitive_default
primitive_size at k i = go (ltb k 17) (cond (ltb k 4) i 0)
  where
    go : (b : Bool) (v : ℕ) → let is = cond b (Rattle.definitions.specs.Instr.plain at (get_or default_tags k Tag.Nop) 0 v ∷ []) [] in (tag_total is ≤ 17) × (length is ≤ 1)
    go true v = (omega (arith, size_limit (get_or default_tags k Tag.Nop)), omega arith)
    go false v = (omega arith, omega arith)

default_size : (at l b i : ℕ) → (tag_total (default_instrs at l b i) ≤ 27) × (length (default_instrs at l b i) ≤ 4)
unfolding default_instrs
default_size at l zero i = (omega (arith, sized), omega arith)
default_size at l (suc zero) i = (omega (arith, sized), omega arith)
default_size at l (suc (suc zero)) i = (omega (arith, sized), omega arith)
default_size at l (suc (suc (suc zero))) i = (omega (arith, sized), omega arith)
default_size at l (suc (suc (suc (suc zero)))) i = (omega (arith, sized), omega arith)
default_size at l (suc (suc (suc (suc (suc b))))) i = let q = primitive_size at (suc (suc (suc (suc (suc b)))) - 5) i in (omega (arith, sized), omega arith)

return_size : (r : ℕ) → (size_after_return r ≤ 1) × (count_return r ≤ 2)
unfolding size_after_return count_return
return_size zero = (omega (arith, sized), omega arith)
return_size (suc r) = (omega (arith, sized), omega arith)

-- 4. Statements: each kind

module _ (r : ℕ) where
  abbrev pub StmtItem : (s : List ℕ) → (ℕ → Parser Stmt) → Type 0
  StmtItem s child = (end : ℕ) → Narrow end → Item s (child end) end (item_s r) (item_c r) FineStmt

  abbrev PaysS : (s : List ℕ) → Parser Stmt → Type 0
  PaysS s p = Pays s p 40 5 (item_s r) (item_c r) FineStmt

module _ (r : ℕ) (s : List ℕ) (value : ℕ → Parser Expr) (v : ExprItem s value) (child : ℕ → Parser Stmt) (h : StmtItem r s child) where
  arm_item : (end : ℕ) → Narrow end → Item s (arm s value child end) end (arm_s r) (arm_c r) FineArm
  unfolding arm ◌>>=◌ give
  arm_item end near = record {
    pays = over (v end near).pays λ c c'. over (run_pays s end near h) λ xs xs'. let q = block_size r xs in gives (c, block_of xs) (omega arith) λ bytes. (c' bytes, block_fine xs (xs' bytes).1);
    within = λ at a next e.
        let p = bind_ok (value end at) (λ c mid. bind (run s end child mid) (λ b n. ok (c, block_of b) n)) e in
        let q = bind_ok (run s end child p.1) (λ b n. ok (p.0, block_of b) n) p.3 in
        let n : q.1 ≡ next = cc in
        rw (← n) (run_within s end near h p.1 q.0 q.1 q.2);
  }

  default_pays : (end : ℕ) → Narrow end → (m : ℕ) → Pays s (block_if m (run s end child)) 0 0 (λ d. size_default d r) (λ d. count_default d r) FineDefault
  unfolding block_if size_default count_default
  default_pays end near zero = gives absent (omega arith) λ bytes. absent_fine
  default_pays end near (suc m) = over (run_pays s end near h) λ xs xs'. let q = block_size r xs in gives (present (block_of xs)) (omega arith) λ bytes. present_fine (block_of xs) (block_fine xs (xs' bytes).1)

  module _ (at end : ℕ) (z : at ≤ end) (near : Narrow end) where
    expr_pays : PaysS r s (as_expr value at end)
    unfolding as_expr size_stmt count_stmt lower_stmt
    expr_pays = over (v end near).pays λ e e'. gives (expr at e) (omega arith) λ bytes span k. e' bytes

    block_pays : PaysS r s (as_block s child at end)
    unfolding as_block size_stmt count_stmt lower_stmt
    block_pays = over (run_pays s end near h) λ xs xs'. let q = block_size r xs in gives (block at (block_of xs)) (omega arith) λ bytes. block_fine xs (xs' bytes).1

    while_pays : PaysS r s (as_while s value child at end)
    unfolding as_while size_stmt count_stmt lower_stmt unused0 row_of rows label_limit
    while_pays =
        over (v end near).pays λ c c'. over (run_pays s end near h) λ xs xs'. let q = block_size r xs in
        gives (while at c (block_of xs)) (omega (arith, sized)) λ bytes span k.
        labels λ l l'. labels λ m m'. seq marks (seq (carry refl (omega (arith, sized))) (seq (c' bytes)
        (seq (block_fine xs (xs' bytes).1 (in_loop l m span) (record { break_target = m'; continue_target = l' })) (seq (carry refl (omega (arith, sized))) marks))))

    branches_pay : PaysS r s (as_branches s value child at end)
    unfolding as_branches size_stmt count_stmt lower_stmt
    branches_pay =
        over (run_pays s end near arm_item) λ xs xs'. over (byte_below_pays s at end 2) λ m m'. over (default_pays end near m) λ d d'. let q = branches_size r xs in
        gives (branches at (branches_of xs) d) (omega arith) λ bytes span k.
        labels λ l l'. labels λ n n'. seq (branches_fine span k at (omega arith) xs l n (l', n') (xs' bytes).1) (seq (d' bytes at (omega arith) span k).0 marks)

    switch_pays : PaysS r s (as_switch s value child at end)
    unfolding as_switch size_stmt count_stmt lower_stmt unused0 row_of rows label_limit
    switch_pays =
        over (unsigned_pays s at end 4) λ t t'. over (v end near).pays λ e e'. over (unsigned_pays s at end 4) λ i i'. over (byte_below_pays s at end 2) λ m m'.
        over (run_pays s end near arm_item) λ xs xs'. over (default_pays end near m) λ d d'. let q = switch_size r xs d i (mid_default d i (cases_of xs)) in
        gives (switch at t e i (cases_of xs) d) (omega (arith, size_limit Tag.Switch)) λ bytes span k.
        labels λ l l'. labels λ n n'. let inside = in_switch l span in let k' : Known inside = record { break_target = l'; continue_target = k.continue_target } in
        seq (carry refl (omega (arith, sized, t' bytes))) (seq (e' bytes) (seq (either (mid_default d i (cases_of xs))
        (many_labels (length_cases (cases_of xs)) λ body b.
        seq (matchers_fine inside k' at (omega arith) xs n body (omega (arith, length_cases_law xs)) (xs' bytes).1) (seq (bare at Tag.SwitchDefault 0 0 (omega (arith, sized))) (seq (carry refl (omega (arith, sized)))
        (bodies_fine inside k' at (omega arith) xs i body (body + length_cases (cases_of xs)) (d' bytes at (omega arith) inside k').0 (xs' bytes).1))))
        (seq (cases_fine inside k' at (omega arith) xs n none (n', tt) (xs' bytes).1) (d' bytes at (omega arith) inside k').1)) marks))

    init_array_pays : PaysS r s (as_init_array s value at end)
    unfolding as_init_array size_stmt count_stmt lower_stmt
    init_array_pays =
        over (unsigned_pays s at end 4) λ l l'. over (unsigned_pays s at end 4) λ t t'. over (run_pays s end near v) λ xs xs'. let q = array_size (exprs_of xs) in
        gives (init_array at l t (exprs_of xs)) (omega (arith, el_size xs, el_count xs)) λ bytes span k. array_fine xs at l t (l' bytes, t' bytes, (xs' bytes).0, omega arith) (xs' bytes).1

    init_default_pays : PaysS r s (as_init_default s at end)
    unfolding as_init_default size_stmt count_stmt lower_stmt
    init_default_pays =
        over (unsigned_pays s at end 4) λ l l'. over (byte_below_pays s at end 23) λ b b'. over (unsigned_pays s at end 4) λ i i'. let q = default_size at l b i in
        gives (init_default at l b i) (omega (arith, total_is (default_instrs at l b i))) λ bytes span k. default_fine at l b i (l' bytes, i' bytes, omega arith)

    break_pays : PaysS r s (as_break at)
    unfolding as_break size_stmt count_stmt lower_stmt
    break_pays = gives (break at) (omega (arith, sized)) λ bytes span k. jump_to_fine 10 at span.break_target (omega arith) k.break_target

    continue_pays : PaysS r s (as_continue at)
    unfolding as_continue size_stmt count_stmt lower_stmt
    continue_pays = gives (continue at) (omega (arith, sized)) λ bytes span k. jump_to_fine 11 at span.continue_target (omega arith) k.continue_target

    return_if_pays : (m : ℕ) → Pays s (return_if m at (value end)) 48 6 (item_s r) (item_c r) FineStmt
    unfolding return_if size_stmt count_stmt lower_stmt
    return_if_pays zero = gives (return_nothing at) (omega (arith, sized)) λ bytes span k. return_nothing_law at (omega arith)
    return_if_pays (suc m) = over (v end near).pays λ e e'. let q = return_size r in gives (return at e) (omega (arith, sized)) λ bytes span k. return_fine at span.returns (omega arith) (e' bytes)

    return_pays : PaysS r s (as_return s value at end)
    unfolding as_return
    return_pays = over (byte_below_pays s at end 2) λ m m'. return_if_pays m

    stmt_body_pays : (kind : ℕ) → PaysS r s (stmt_body s value child kind at end)
    unfolding stmt_body stmt_kinds
    stmt_body_pays kind = pick_pays (stmt_kinds s value child at end) at kind
        (unknown_pays at & expr_pays & block_pays & while_pays & branches_pay & switch_pays & init_array_pays & init_default_pays & break_pays & continue_pays & return_pays & tt)

stmt_item : (r depth : ℕ) (s : List ℕ) → StmtItem r s (parse_stmt depth s)
unfolding parse_stmt
stmt_item r zero s holder near = record { pays = record { paid = λ at a next e. refused_not_ok e }; within = λ at a next e. refused_not_ok e }
stmt_item r (suc d) s holder near = node_item s holder near (λ kind at end z near. stmt_body_pays r s (parse_expr d s) (expr_item d s) (parse_stmt d s) (stmt_item r d s) at end z near kind)

-- 5. A unit

-- the front is good, so its bytes are at most 1,048,576
front_length_law : (s : List ℕ) → front_good s ≡ true → length s ≤ unit_limit
unfolding front_good
front_length_law s e = leb-true (length s) unit_limit (second (leb 6 (length s)) (leb (length s) unit_limit) _ _ _ e)
  where
    second : (a b c d f : Bool) → a && b && c && d && f ≡ true → b ≡ true
    second a true c d f e = refl
    second true false c d f e = e
    second false false c d f e = e

-- a unit that is read: the size of what it emits is at most 8 times its bytes, its records are at most its bytes, and they fit if it is of bytes
pub record Paid (s : List ℕ) (u : Script) : Type 0 where
  pub bytes : length s ≤ unit_limit
  pub size : size_of u ≤ 8 * length s
  pub count : count_block u.body u.returns ≤ length s
  pub fine : Bytes s → Fine (code_of u)

pub unit_paid : (s : List ℕ) (u : Script) (next : ℕ) → parse_unit s ≡ ok u next → Paid s u
unfolding parse_unit ◌>>=◌ ended
unit_paid s u next e = go (front_good s) refl e
  where
    go : (b : Bool) → front_good s ≡ b → ◌≡◌ {A = Answer Script} (elim b [
      | true ↦ bind (run s (length s) (parse_stmt depth_limit s) 6) (λ b. ended 6 (length s) (record { returns = get_or s 5 0; body = block_of b }))
      | false ↦ refused 1 0 0
    ]) (ok u next) → Paid s u
    go true f e =
        let r = get_or s 5 0 in
        let p = bind_ok (run s (length s) (parse_stmt depth_limit s) 6) (λ b. ended 6 (length s) (record { returns = r; body = block_of b })) e in
        let t = passed (eqb p.1 (length s)) (record { returns = r; body = block_of p.0 }) p.1 3 6 0 u next p.3 in
        let near : Narrow (length s) = omega (arith, front_length_law s f) in
        let paid = (run_pays s (length s) near (stmt_item r depth_limit s)).paid 6 p.0 p.1 p.2 in
        let end = run_within s (length s) near (stmt_item r depth_limit s) 6 p.0 p.1 p.2 in
        let b = block_size r p.0 in
        rw (← t.1) (record { bytes = front_length_law s f; size = omega arith; count = omega arith; fine = λ bytes. block_fine p.0 (paid.2 bytes).1 (outside r) (record { break_target = tt; continue_target = tt }) })
    go false f e = refused_not_ok e
