-- Each expression: its code has the tree's size and the tree's distances. A line follows the text of `lower_expr`; `omega` closes what is left.
use Prim.Native.Nat.{ℕ, zero, suc, ◌+◌}
use mathlib.Core.Path.{◌≡◌, refl}
use mathlib.Core.List.{List, [], ◌∷◌}
use native.Mathlib.Omega.{arith}
use lib.ListN.{length}
use lib.IntN.{ℤ}
use Rattle.definitions.specs.Tag
use Rattle.definitions.specs.Tag.{rows, row_of, tag_size}
use Rattle.definitions.specs.Instr.{Instr, plain as plain_instr}
use Rattle.definitions.specs.Tree.{Callee, Expr, Exprs, nop, const, null, new_instance, construct, assign, field, index, conditional, dyn_cast, local, intrinsic, free_call, static_call, instance_call, closure_call, enil, econs}
use Rattle.definitions.specs.Code.{Code}
use Rattle.definitions.specs.Lower.{weak_to_ref, lower_field, lower_arg, nops, emit_invoke, emit_call, require_flags, lower_expr, lower_exprs, lower_args, lower_elements, lower_array}
use Rattle.laws.proofs.Sizes.{tag_total}
use Rattle.laws.proofs.Picked.{const_plain, null_plain, element_plain, local_plain, intrinsic_plain}
use Rattle.landing.specs.Distance.{ahead, size_weak, size_field, size_skip, size_nops, size_invoke, size_call, size_expr, size_exprs, size_args, size_elements, size_array, dist_field, dist_skip, dist_call, dist_expr, dist_exprs, dist_args}
use Rattle.landing.proofs.Pieces.{Piece}
use Rattle.landing.proofs.Counts.{one_if, count_field, count_expr, count_exprs, count_args, count_elements, count_array}
use Rattle.landing.proofs.Rules.{nothing, plain, carry, carry2, labels, seq, ends, close, last, here, Whole, straight, requires}

-- 1. Parts

land_weak : {M : ℕ → ℕ} {o n : ℕ} (at weak : ℕ) → Whole M o n (weak_to_ref at weak) (size_weak weak) (one_if weak) []
unfolding weak_to_ref size_weak one_if row_of rows
land_weak at zero = nothing
land_weak at (suc w) = plain (refl, refl)

land_nops : {M : ℕ → ℕ} {o n : ℕ} (at : ℕ) (ps : List ℕ) → Whole M o n (nops at ps) (size_nops ps) (length ps) []
unfolding nops size_nops row_of rows
land_nops at [] = nothing
land_nops {o} at (p ∷ ps) = close (seq (plain (refl, refl)) (land_nops {o = o + tag_size Tag.Nop} at ps)) refl (omega arith)

-- a field, with what is said of its receiver
land_field : {M : ℕ → ℕ} {o n : ℕ} {s c : ℕ} {ds : List ℤ} (at form name : ℕ) (receiver : Code) → ((o n : ℕ) → Whole M o n receiver s c ds) →
    Whole M o n (lower_field at form name receiver) (size_field form s) (count_field form c) (dist_field form s ds)
unfolding lower_field size_field count_field dist_field row_of rows
land_field at zero name receiver f = close (seq (plain (refl, refl)) (f _ _)) refl (omega arith)
land_field at (suc weak) name receiver f =
    close (labels (seq (carry (refl, refl)) (seq (land_weak at weak) (last (f _ _) (ends (plain (refl, refl))))))) refl (omega arith)

land_arg : {M : ℕ → ℕ} {o n : ℕ} {s c : ℕ} {ds : List ℤ} (at p : ℕ) (arg : Code) → ((o n : ℕ) → Whole M o n arg s c ds) →
    Whole M o n (lower_arg at p arg) (size_skip p + s) (one_if p + c) (dist_skip p s ds)
unfolding lower_arg size_skip dist_skip one_if row_of rows
land_arg at zero arg f = close (f _ _) refl (omega arith)
land_arg at (suc p) arg f = close (labels (seq (carry (refl, refl)) (ends (f _ _)))) refl (omega arith)

-- 13 over all arguments
land_flags : {M : ℕ → ℕ} {o n : ℕ} (es : Exprs) (i : ℕ) → Whole M o n (require_flags es i) 0 0 []
unfolding require_flags
land_flags enil i = nothing
land_flags {o} (econs e es) i = close (seq (requires _ 13 _ (i + 1)) (land_flags {o = o + 0} es (i + 1))) refl (omega arith)

land_invoke : {M : ℕ → ℕ} {o n a : ℕ} (at b exit line flags function name : ℕ) →
    Piece M o n (emit_invoke at b exit line flags function name) (size_invoke b) 1 [] [] Unit (M exit ≡ o + a) Unit Unit (ahead a ∷ [])
unfolding emit_invoke size_invoke row_of rows
land_invoke at zero exit line flags function name = carry (refl, refl)
land_invoke at (suc b) exit line flags function name = carry (refl, refl)

-- a call, with what is said of its arguments
land_call : {M : ℕ → ℕ} {o n : ℕ} {s c : ℕ} {ds : List ℤ} (at : ℕ) (k : Callee) (args : Exprs) (code : Code) → ((o n : ℕ) → Whole M o n code s c ds) →
    Whole M o n (emit_call at k args code) (size_call k s) (2 + c) (dist_call k s ds)
unfolding emit_call row_of rows
land_call at k args code f =
    close (labels (seq (land_flags args 0) (seq (land_invoke at k.flags _ _ _ _ _) (last (f _ _) (ends (plain (refl, refl))))))) refl (omega arith)

-- 2. Expressions

mutual
  unfolding lower_expr size_expr count_expr dist_expr row_of rows

  pub land_expr : {M : ℕ → ℕ} {o n : ℕ} (e : Expr) → Whole M o n (lower_expr e) (size_expr e) (count_expr e) (dist_expr e)
  land_expr (nop at) = plain (refl, refl)
  land_expr (const at b v) = plain (const_plain b v).carries
  land_expr (null at weak) = plain (null_plain weak).carries
  land_expr (new_instance at class) = plain (refl, refl)
  land_expr (construct at class args) = close (seq (requires _ 12 at _) (seq (plain (refl, refl)) (land_exprs args))) refl (omega arith)
  land_expr (assign at p e) = close (seq (plain (refl, refl)) (seq (land_expr p) (land_expr e))) refl (omega arith)
  land_expr (field at form name e) = land_field at form name (lower_expr e) (λ o n. land_expr e)
  land_expr (index at dynamic type a i) =
      close (seq (plain (element_plain dynamic).carries) (seq (land_expr a) (land_expr i))) refl (omega arith)
  land_expr (conditional at c t e) =
      close (labels (labels (seq (carry2 (refl, refl)) (seq (land_expr c) (seq (land_expr t) (here (ends (land_expr e)))))))) refl (omega arith)
  land_expr (dyn_cast at class weak e) = close (seq (plain (refl, refl)) (land_expr e)) refl (omega arith)
  land_expr (local at form i) = plain (local_plain form).carries
  land_expr (intrinsic at code short types i args) =
      close (seq (requires _ 14 at 0) (seq (plain (intrinsic_plain code).carries) (land_exprs args))) refl (omega arith)
  land_expr (free_call at c args) = land_call at c args (lower_args args at c.params) (λ o n. land_args args at c.params)
  land_expr (static_call at c args) =
      close (labels (ends (land_call at c args (lower_args args at c.params) (λ o n. land_args args at c.params)))) refl (omega arith)
  land_expr (instance_call at weak e c args) =
      close (labels (seq (carry (refl, refl)) (seq (land_weak at weak) (seq (land_expr e)
      (ends (land_call at c args (lower_args args at c.params) (λ o n. land_args args at c.params))))))) refl (omega arith)
  land_expr (closure_call at e name line args) =
      close (labels (seq (carry (refl, refl)) (seq (land_expr e) (here (labels (seq (carry (refl, refl)) (last (land_exprs args) (ends (plain (refl, refl)))))))))) refl (omega arith)

  pub land_exprs : {M : ℕ → ℕ} {o n : ℕ} (es : Exprs) → Whole M o n (lower_exprs es) (size_exprs es) (count_exprs es) (dist_exprs es)
  land_exprs enil = nothing
  land_exprs (econs e es) = close (seq (land_expr e) (land_exprs es)) refl (omega arith)

  pub land_args : {M : ℕ → ℕ} {o n : ℕ} (es : Exprs) (at : ℕ) (params : List ℕ) → Whole M o n (lower_args es at params) (size_args es params) (count_args es params) (dist_args es params)
  land_args enil at ps = land_nops at ps
  land_args (econs e es) at [] = close (seq (land_expr e) (land_args es at [])) refl (omega arith)
  land_args (econs e es) at (p ∷ ps) = close (seq (land_arg at p (lower_expr e) (λ o n. land_expr e)) (land_args es at ps)) refl (omega arith)

-- 3. The elements of an array

-- what assigns an element
abbrev store_element : (at l t i : ℕ) → List Instr
store_element at l t i = plain_instr at Tag.Assign 0 0 ∷ plain_instr at Tag.ArrayElement 0 t ∷ plain_instr at Tag.Local 0 l ∷ plain_instr at Tag.U64Const 0 i ∷ []

land_elements : {M : ℕ → ℕ} {o n : ℕ} (es : Exprs) (at l t i : ℕ) → Whole M o n (lower_elements es at l t i) (size_elements es) (count_elements es) (dist_exprs es)
unfolding lower_elements size_elements count_elements dist_exprs row_of rows
land_elements enil at l t i = nothing
land_elements {o} (econs e es) at l t i = close (seq (straight (store_element at l t i) ((refl, refl), ((refl, refl), ((refl, refl), ((refl, refl), tt))))) (seq (land_expr e) (land_elements {o = o + tag_total (store_element at l t i) + size_expr e} es at l t (i + 1)))) refl (omega arith)

pub land_array : {M : ℕ → ℕ} {o n : ℕ} (es : Exprs) (at l t : ℕ) → Whole M o n (lower_array es at l t) (size_array es) (count_array es) (dist_exprs es)
unfolding lower_array size_array count_array dist_exprs row_of rows
land_array enil at l t = nothing
land_array (econs e es) at l t = close (seq (straight _ ((refl, refl), ((refl, refl), ((refl, refl), tt)))) (land_elements (econs e es) at l t 0)) refl (omega arith)
