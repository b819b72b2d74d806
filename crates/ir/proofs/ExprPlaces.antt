-- For each kind of expression that is read: where its parts are. Assumes nothing.
use Prim.Native.Nat.{ℕ, zero, suc, ◌+◌, ◌-◌, ◌≤◌, ◌<◌}
use mathlib.Core.Path.{◌≡◌, refl}
use mathlib.Core.List.{List, [], ◌∷◌}
use native.Mathlib.Omega.{arith}
use lib.ListN.{length, get_or}
use Rattle.definitions.specs.Answer.{ok}
use Rattle.definitions.specs.Bytes.{number}
use Rattle.definitions.specs.Tree.{Expr, nop, index, intrinsic, free_call, static_call, instance_call, closure_call, exprs_of}
use Rattle.definitions.specs.Read.{Parser, unknown_kind, pick, as_nop, as_const, as_null, as_new_instance, as_construct, as_assign, as_field, as_index, as_conditional, as_dyn_cast, as_local, as_intrinsic, as_free_call, as_static_call, as_instance_call, as_closure_call, expr_kinds, expr_body, parse_expr}
use Rattle.ir.specs.Places.{end_of, NopAt, ConstAt, NullAt, NewInstanceAt, ConstructAt, AssignAt, FieldAt, IndexAt, ConditionalAt, DynCastAt, LocalAt, IntrinsicAt, FreeCallAt, StaticCallAt, InstanceCallAt, ClosureCallAt}
use Rattle.laws.proofs.Arms.{Nones, past}
use Rattle.ir.proofs.Inversion.{refused_not_ok, expr_ok, child_ok, unsigned_ok, byte_below_ok, payload_ok, run_ok, give_ok, call_ok, one_byte}

-- there are no more kinds than the list has
pub no_kind_past : {A X : Type 0} (ps : List (Parser A)) (at k m : ℕ) {a : A} {n : ℕ} → length ps ≤ k → pick ps at k m ≡ ok a n → X
unfolding pick unknown_kind
no_kind_past [] at k m h e = refused_not_ok e
no_kind_past (p ∷ ps) at zero m h e = absurd (omega arith)
no_kind_past (p ∷ ps) at (suc k) m h e = no_kind_past ps at k m (omega arith) e

module _ (depth : ℕ) (s : List ℕ) (holder at : ℕ) (e : Expr) (stop : ℕ) (r : parse_expr depth s holder at ≡ ok e stop) where
  reads_as : (k : ℕ) → get_or s (at + 4) 0 ≡ k → expr_body s (parse_expr (depth - 1) s) k at stop (at + 5) ≡ ok e stop
  reads_as k h = let i = expr_ok depth s holder at r in rw (← i.1.next, h) at i.1.reads

  pub nop_at : get_or s (at + 4) 0 ≡ 1 → NopAt at stop e
  unfolding expr_body expr_kinds pick as_nop
  nop_at k = let g = give_ok (nop at) (at + 5) (reads_as 1 k) in record { ends = g.1; tree = g.0 }

  pub const_at : get_or s (at + 4) 0 ≡ 2 → ConstAt s at stop e
  unfolding expr_body expr_kinds pick as_const
  const_at k =
      let b = byte_below_ok s at stop 16 _ (at + 5) (reads_as 2 k) in
      let six : at + 5 + 1 ≡ at + 6 = omega arith in
      let v = payload_ok s at stop (get_or s (at + 5) 0) _ (at + 6) (rw six at b.1) in
      let g = give_ok _ _ v.1 in
      record { byte = b.0; ends = g.1; tree = g.0 }

  pub null_at : get_or s (at + 4) 0 ≡ 3 → NullAt s at stop e
  unfolding expr_body expr_kinds pick as_null
  null_at k =
      let b = byte_below_ok s at stop 2 _ (at + 5) (reads_as 3 k) in
      let g = give_ok _ _ b.1 in
      record { weak = b.0; ends = omega (arith, g.1); tree = g.0 }

  pub new_instance_at : get_or s (at + 4) 0 ≡ 4 → NewInstanceAt s at stop e
  unfolding expr_body expr_kinds pick as_new_instance
  new_instance_at k =
      let v = unsigned_ok s at stop 4 _ (at + 5) (reads_as 4 k) in
      let g = give_ok _ _ v.1 in
      record { ends = omega (arith, g.1); tree = g.0 }

  pub construct_at : get_or s (at + 4) 0 ≡ 5 → ConstructAt (depth - 1) s at stop e
  unfolding expr_body expr_kinds pick as_construct
  construct_at k =
      let v = unsigned_ok s at stop 4 _ (at + 5) (reads_as 5 k) in
      let nine : at + 5 + 4 ≡ at + 9 = omega arith in
      let l = run_ok s stop (parse_expr (depth - 1) s) _ (at + 9) (rw nine at v.1) in
      let g = give_ok _ _ l.2 in
      record { args = l.0; run = rw g.1 at l.1; tree = g.0 }

  pub assign_at : get_or s (at + 4) 0 ≡ 6 → AssignAt (depth - 1) s at stop e
  unfolding expr_body expr_kinds pick as_assign
  assign_at k =
      let a = child_ok (depth - 1) s stop _ (at + 5) (reads_as 6 k) in
      let b = child_ok (depth - 1) s stop _ a.1 a.3 in
      let g = give_ok _ _ b.3 in
      record { place = a.0; value = b.0; second = a.1; one = a.2; two = rw g.1 at b.2; tree = g.0 }

  pub field_at : get_or s (at + 4) 0 ≡ 7 → FieldAt (depth - 1) s at stop e
  unfolding expr_body expr_kinds pick as_field
  field_at k =
      let b = byte_below_ok s at stop 3 _ (at + 5) (reads_as 7 k) in
      let six : at + 5 + 1 ≡ at + 6 = omega arith in
      let ten : at + 6 + 4 ≡ at + 10 = omega arith in
      let v = unsigned_ok s at stop 4 _ (at + 6) (rw six at b.1) in
      let a = child_ok (depth - 1) s stop _ (at + 10) (rw ten at v.1) in
      let g = give_ok _ _ a.3 in
      record { receiver = a.0; form = b.0; one = rw g.1 at a.2; tree = g.0 }

  pub index_at : get_or s (at + 4) 0 ≡ 8 → IndexAt (depth - 1) s at stop e
  unfolding expr_body expr_kinds pick as_index
  index_at k =
      let b = byte_below_ok s at stop 2 _ (at + 5) (reads_as 8 k) in
      let six : at + 5 + 1 ≡ at + 6 = omega arith in
      let ten : at + 6 + 4 ≡ at + 10 = omega arith in
      let v = unsigned_ok s at stop 4 _ (at + 6) (rw six at b.1) in
      let a = child_ok (depth - 1) s stop _ (at + 10) (rw ten at v.1) in
      let i = child_ok (depth - 1) s stop _ a.1 a.3 in
      let g = give_ok (index at (get_or s (at + 5) 0) (number 4 s (at + 6)) a.0 i.0) i.1 i.3 in
      record { array = a.0; subscript = i.0; second = a.1; dynamic = b.0; one = a.2; two = rw g.1 at i.2; tree = g.0 }

  pub conditional_at : get_or s (at + 4) 0 ≡ 9 → ConditionalAt (depth - 1) s at stop e
  unfolding expr_body expr_kinds pick as_conditional
  conditional_at k =
      let a = child_ok (depth - 1) s stop _ (at + 5) (reads_as 9 k) in
      let b = child_ok (depth - 1) s stop _ a.1 a.3 in
      let c = child_ok (depth - 1) s stop _ b.1 b.3 in
      let g = give_ok _ _ c.3 in
      record { test = a.0; then = b.0; else = c.0; second = a.1; third = b.1; one = a.2; two = b.2; three = rw g.1 at c.2; tree = g.0 }

  pub dyn_cast_at : get_or s (at + 4) 0 ≡ 10 → DynCastAt (depth - 1) s at stop e
  unfolding expr_body expr_kinds pick as_dyn_cast
  dyn_cast_at k =
      let v = unsigned_ok s at stop 4 _ (at + 5) (reads_as 10 k) in
      let nine : at + 5 + 4 ≡ at + 9 = omega arith in
      let ten : at + 9 + 1 ≡ at + 10 = omega arith in
      let b = byte_below_ok s at stop 2 _ (at + 9) (rw nine at v.1) in
      let a = child_ok (depth - 1) s stop _ (at + 10) (rw ten at b.1) in
      let g = give_ok _ _ a.3 in
      record { value = a.0; weak = b.0; one = rw g.1 at a.2; tree = g.0 }

  pub local_at : get_or s (at + 4) 0 ≡ 11 → LocalAt s at stop e
  unfolding expr_body expr_kinds pick as_local
  local_at k =
      let b = byte_below_ok s at stop 4 _ (at + 5) (reads_as 11 k) in
      let six : at + 5 + 1 ≡ at + 6 = omega arith in
      let v = unsigned_ok s at stop 4 _ (at + 6) (rw six at b.1) in
      let g = give_ok _ _ v.1 in
      record { form = b.0; ends = omega (arith, g.1); tree = g.0 }

  pub intrinsic_at_law : get_or s (at + 4) 0 ≡ 12 → IntrinsicAt (depth - 1) s at stop e
  unfolding expr_body expr_kinds pick as_intrinsic
  intrinsic_at_law k =
      let c = byte_below_ok s at stop 34 _ (at + 5) (reads_as 12 k) in
      let six : at + 5 + 1 ≡ at + 6 = omega arith in
      let seven : at + 6 + 1 ≡ at + 7 = omega arith in
      let eight : at + 7 + 1 ≡ at + 8 = omega arith in
      let twelve : at + 8 + 4 ≡ at + 12 = omega arith in
      let m = byte_below_ok s at stop 2 _ (at + 6) (rw six at c.1) in
      let t = unsigned_ok s at stop 1 _ (at + 7) (rw seven at m.1) in
      let i = unsigned_ok s at stop 4 _ (at + 8) (rw (eight, one_byte s (at + 7)) at t.1) in
      let l = run_ok s stop (parse_expr (depth - 1) s) _ (at + 12) (rw twelve at i.1) in
      let g = give_ok (intrinsic at (get_or s (at + 5) 0) (get_or s (at + 6) 0) (get_or s (at + 7) 0) (number 4 s (at + 8)) (exprs_of l.0)) (end_of s (at + 12)) l.2 in
      record { args = l.0; code = c.0; short = m.0; run = rw g.1 at l.1; tree = g.0 }

  pub free_call_at : get_or s (at + 4) 0 ≡ 13 → FreeCallAt (depth - 1) s at stop e
  unfolding expr_body expr_kinds pick as_free_call
  free_call_at k =
      let c = call_ok (depth - 1) s at stop (free_call at) (at + 5) (reads_as 13 k) in
      record { callee = c.0; args = c.1; list = c.2; call = c.3; tree = c.4 }

  pub static_call_at : get_or s (at + 4) 0 ≡ 14 → StaticCallAt (depth - 1) s at stop e
  unfolding expr_body expr_kinds pick as_static_call
  static_call_at k =
      let c = call_ok (depth - 1) s at stop (static_call at) (at + 5) (reads_as 14 k) in
      record { callee = c.0; args = c.1; list = c.2; call = c.3; tree = c.4 }

  pub instance_call_at : get_or s (at + 4) 0 ≡ 15 → InstanceCallAt (depth - 1) s at stop e
  unfolding expr_body expr_kinds pick as_instance_call
  instance_call_at k =
      let b = byte_below_ok s at stop 2 _ (at + 5) (reads_as 15 k) in
      let six : at + 5 + 1 ≡ at + 6 = omega arith in
      let a = child_ok (depth - 1) s stop _ (at + 6) (rw six at b.1) in
      let c = call_ok (depth - 1) s at stop (instance_call at (get_or s (at + 5) 0) a.0) a.1 a.3 in
      record { receiver = a.0; callee = c.0; args = c.1; second = a.1; list = c.2; weak = b.0; one = a.2; call = c.3; tree = c.4 }

  pub closure_call_at : get_or s (at + 4) 0 ≡ 16 → ClosureCallAt (depth - 1) s at stop e
  unfolding expr_body expr_kinds pick as_closure_call
  closure_call_at k =
      let a = child_ok (depth - 1) s stop _ (at + 5) (reads_as 16 k) in
      let n = unsigned_ok s at stop 4 _ a.1 a.3 in
      let l = unsigned_ok s at stop 2 _ (a.1 + 4) n.1 in
      let six : a.1 + 4 + 2 ≡ a.1 + 6 = omega arith in
      let x = run_ok s stop (parse_expr (depth - 1) s) _ (a.1 + 6) (rw six at l.1) in
      let g = give_ok (closure_call at a.0 (number 4 s a.1) (number 2 s (a.1 + 4)) (exprs_of x.0)) (end_of s (a.1 + 6)) x.2 in
      record { closure = a.0; args = x.0; second = a.1; one = a.2; run = rw g.1 at x.1; tree = g.0 }

  -- no node of another kind is read
  pub no_other : {X : Type 0} → Nones 0 16 (get_or s (at + 4) 0) → X
  unfolding expr_body expr_kinds pick unknown_kind
  no_other h =
      let z : get_or s (at + 4) 0 ≡ 0 → ⊥ = λ k. refused_not_ok (reads_as 0 k) in
      let l : 0 + 16 < get_or s (at + 4) 0 = past 0 16 (get_or s (at + 4) 0) h (omega arith) in
      no_kind_past (expr_kinds s (parse_expr (depth - 1) s) at stop) at (get_or s (at + 4) 0) (at + 5) (omega arith) (reads_as (get_or s (at + 4) 0) refl)
