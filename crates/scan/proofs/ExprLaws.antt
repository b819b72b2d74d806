-- For each kind of expression: where its fields are in range and its children are found, it is found. Assumes nothing.
use Prim.Native.Nat.{ℕ, zero, suc, min, ◌+◌, ◌-◌, ◌≤◌, ◌<◌}
use mathlib.Core.Path.{◌≡◌, refl, sym, ap, ◌∙◌}
use mathlib.Core.Bool.{Bool, true, false, ◌&&◌}
use mathlib.Core.List.{List, [], ◌∷◌}
use native.Mathlib.Omega.{arith}
use lib.Dec.{eqb}
use lib.ListN.{length, get_or}
use borrow.Author.Tests.{le-leb, lt-ltb, eq-eqb, eqb-true}
use Rattle.definitions.specs.Answer.{ok}
use Rattle.definitions.specs.Bytes.{number}
use Rattle.definitions.specs.Tag.{intrinsic_of}
use Rattle.definitions.specs.Tree.{Callee, Expr, Exprs, nop, const, null, new_instance, construct, assign, field, index, conditional, dyn_cast, local, intrinsic, free_call, static_call, instance_call, closure_call, exprs_of, length_exprs}
use Rattle.definitions.specs.Read.{Parser, ◌>>=◌, give, span, head, ended, filling, run, pick, callee, arguments, as_nop, as_null, as_new_instance, as_construct, as_assign, as_field, as_index, as_conditional, as_dyn_cast, as_local, as_intrinsic, as_free_call, as_static_call, as_instance_call, as_closure_call, expr_kinds, expr_body, parse_expr}
use Rattle.definitions.specs.Code.{Code}
use Rattle.definitions.specs.Lower.{weak_to_ref, lower_field, emit_invoke, emit_call, require_flags, lower_expr, lower_exprs}
use Rattle.laws.proofs.Trees.{length_exprs_law}
use Rattle.steps.proofs.RunLaws.{marks_long}
use Rattle.steps.specs.Walked.{marks_from, callee_at}
use Rattle.scan.specs.Scanned.{Tame, Each, ConstAt, ExprAt, BodyAt, RunAt, ArgsAt, CallAt, all_marks, Paid}
use Rattle.scan.specs.declared.fields.Left.{Left}
use Rattle.scan.proofs.TameLaws.{tame_more, tame_done, tame_emit, tame_mark, tame_then, tame_label, tame_require}
use Rattle.scan.proofs.FieldLaws.{step, passed, node_in, number_in, byte_in, below_in, marks_in, first}

-- 1. Fields

-- w bytes of fields, of which the one at k is below a bound
abbrev pub FieldsAt : (s : List ℕ) (at stop w k bound r : ℕ) → Type 0
FieldsAt s at stop w k bound r = (r ≡ at + w) × (r ≤ stop) × (get_or s (at + k) 0 < bound)

-- 2. Pieces of code

pub each_tame : (xs : List Expr) {a b : ℕ} → Each (exprs_of xs) a b → Tame (lower_exprs (exprs_of xs)) a b
unfolding Each lower_expr exprs_of
each_tame [] h = tame_done
each_tame (x ∷ xs) h = tame_more (tame_then h.4 (each_tame xs h.5)) (omega (arith, h.6)) (omega (arith, h.7))

weak_tame : (at weak : ℕ) → Tame (weak_to_ref at weak) weak 0
unfolding weak_to_ref
weak_tame at zero = tame_done
weak_tame at (suc w) = tame_more tame_emit (omega arith) (omega arith)

-- a field pays its form, and a label where that is not 0
field_tame : (at form name : ℕ) {p : Code} {a b n : ℕ} → (0 < form → 0 < n) → Tame p a b → Tame (lower_field at form name p) (1 + (form + a)) (n + b)
unfolding lower_field
field_tame at zero name h t = tame_more (tame_then tame_emit t) (omega arith) (omega arith)
field_tame at (suc w) name h t =
    tame_more (tame_label (λ l. tame_then tame_emit (tame_then (weak_tame at w) (tame_then t (tame_then tame_emit tame_mark))))) (omega arith) (omega (arith, h (omega arith)))

invoke_tame : (at flags exit line bits function name : ℕ) → Tame (emit_invoke at flags exit line bits function name) 1 0
unfolding emit_invoke
invoke_tame at zero exit line bits function name = tame_emit
invoke_tame at (suc b) exit line bits function name = tame_emit

call_tame : (at : ℕ) (c : Callee) (args : Exprs) {p : Code} {a b : ℕ} → Tame (require_flags args 0) 0 0 → Tame p a b → Tame (emit_call at c args p) (1 + (1 + a)) (1 + b)
unfolding emit_call
call_tame at c args f t =
    tame_more (tame_label (λ l. tame_then f (tame_then (invoke_tame _ _ _ _ _ _ _) (tame_then t (tame_then tame_emit tame_mark))))) (omega arith) (omega arith)

-- 3. Runs and calls

pub run_in : {A : Type 0} (s : List ℕ) (end : ℕ) (p : ℕ → Parser A) (at : ℕ) {stop n : ℕ} {xs : List A} → span s end at ≡ ok stop (at + 4) → filling p stop (at + 4) ≡ ok xs n → run s end p at ≡ ok xs n
unfolding run ◌>>=◌
run_in s end p at e f = step _ _ e f

callee_in : (s : List ℕ) (site stop p : ℕ) → p + 12 + get_or s (p + 11) 0 ≤ stop → get_or s (p + 10) 0 < 16 → all_marks s (p + 12) (get_or s (p + 11) 0)
    → callee s site stop p ≡ ok (callee_at s p) (p + 12 + get_or s (p + 11) 0)
unfolding callee callee_at give ◌>>=◌
callee_in s site stop p h f m =
    step _ _ (number_in s site stop 4 p (p + 4) (omega arith) (omega arith))
    (step _ _ (number_in s site stop 4 (p + 4) (p + 8) (omega arith) (omega arith))
    (step _ _ (number_in s site stop 2 (p + 8) (p + 10) (omega arith) (omega arith))
    (step _ _ (below_in s site stop 16 (p + 10) (p + 11) (omega arith) (omega arith) f)
    (step _ _ (byte_in s site stop (p + 11) (p + 12) (omega arith) (omega arith))
    (step _ _ (marks_in s site stop (get_or s (p + 11) 0) (p + 12) (p + 12 + get_or s (p + 11) 0) refl h m) refl)))))

arguments_in : (s : List ℕ) (child : ℕ → Parser Expr) (site stop params at : ℕ) (xs : List Expr) → run s stop child at ≡ ok xs stop → length xs ≤ params → arguments s child site stop params at ≡ ok (exprs_of xs) stop
unfolding arguments ended ◌>>=◌
arguments_in s child site stop params at xs e h = step _ _ e (step _ _ (passed _ _ (eq-eqb stop stop refl)) (passed _ _ (le-leb (length xs) params h)))

params_are : (s : List ℕ) (p a n : ℕ) → a ≡ p + 12 → n ≡ get_or s (p + 11) 0 → (callee_at s p).params ≡ marks_from s a n
unfolding callee_at
params_are s p a n e f = rw (e, f)

pub call_found : {d : ℕ} {s : List ℕ} {stop p a b n y z : ℕ} {u u₁ u₂ : Left} → FieldsAt s p stop 12 10 16 a → n ≡ get_or s (p + 11) 0 → (b ≡ a + n) × (b ≤ stop) × all_marks s a n
    → (span s stop b ≡ ok z (b + 4)) × (b + 4 ≤ z) × (z ≤ stop) → (y ≡ z) × (z ≡ stop) → Paid u u₁ 1 1 → ArgsAt d s stop (b + 4) a n u₁ u₂ → CallAt d s stop p stop u u₂
call_found {d} {s} {stop} {p} {a} {b} {n} f e m v o u g =
    let first : b ≡ p + 12 + get_or s (p + 11) 0 = omega (arith, f.0, e, m.0) in
    let params : (callee_at s p).params ≡ marks_from s a n = params_are s p a n f.0 e in
    let long : length (callee_at s p).params ≡ n = ap length params ∙ marks_long s a n in
    let marks : all_marks s (p + 12) (get_or s (p + 11) 0) = rw (f.0, e) at m.2 in
    record {
      function = callee_at s p;
      args = exprs_of g.trees;
      first = b;
      callee = λ site. rw first (callee_in s site stop p (omega (arith, m.1, first)) f.2 marks);
      reads = λ site. arguments_in s (parse_expr d s) site stop (length (callee_at s p).params) b g.trees (run_in s stop (parse_expr d s) b (rw o.1 at v.0) g.reads) (omega (arith, long, g.few));
      records = 1 + g.records;
      labels = 1 + g.labels;
      paid = (omega (arith, u.0, g.paid.0), omega (arith, u.1, g.paid.1));
      tame = λ site. call_tame site (callee_at s p) (exprs_of g.trees) g.flags (rw params (g.tame site));
    }

-- 4. Kinds

-- the kind by its number
kind_is : (d : ℕ) (s : List ℕ) (stop at n : ℕ) {e : Expr} {r : ℕ} → get_or s (at + 4) 0 ≡ n → expr_body s (parse_expr d s) n at stop (at + 5) ≡ ok e r → expr_body s (parse_expr d s) (get_or s (at + 4) 0) at stop (at + 5) ≡ ok e r
kind_is d s stop at n q h = rw q h

pub nop_found : {d : ℕ} {s : List ℕ} {stop at : ℕ} {u : Left} → get_or s (at + 4) 0 ≡ 1 → BodyAt d s stop at (at + 5) u u
unfolding expr_body expr_kinds pick as_nop give lower_expr
nop_found {d} {s} {stop} {at} q = record {
  tree = nop at;
  reads = kind_is d s stop at 1 q refl;
  records = 0;
  labels = 0;
  paid = (omega arith, omega arith);
  tame = tame_more tame_emit (omega arith) (omega arith);
}

pub const_found : {d : ℕ} {s : List ℕ} {stop at r : ℕ} {u : Left} → get_or s (at + 4) 0 ≡ 2 → ConstAt s stop (at + 5) r → BodyAt d s stop at r u u
unfolding expr_body expr_kinds pick lower_expr
const_found {d} {s} {stop} {at} q f = record {
  tree = const at f.byte f.value;
  reads = kind_is d s stop at 2 q (f.reads at);
  records = 0;
  labels = 0;
  paid = (omega arith, omega arith);
  tame = tame_more tame_emit (omega arith) (omega arith);
}

pub null_found : {d : ℕ} {s : List ℕ} {stop at r : ℕ} {u : Left} → get_or s (at + 4) 0 ≡ 3 → FieldsAt s (at + 5) stop 1 0 2 r → BodyAt d s stop at r u u
unfolding expr_body expr_kinds pick as_null give ◌>>=◌ lower_expr
null_found {d} {s} {stop} {at} {r} q f = record {
  tree = null at (get_or s (at + 5) 0);
  reads = kind_is d s stop at 3 q (step _ _ (below_in s at stop 2 (at + 5) r f.0 f.1 (first s (at + 5) f.2)) refl);
  records = 0;
  labels = 0;
  paid = (omega arith, omega arith);
  tame = tame_more tame_emit (omega arith) (omega arith);
}

pub new_found : {d : ℕ} {s : List ℕ} {stop at r : ℕ} {u : Left} → get_or s (at + 4) 0 ≡ 4 → (r ≡ at + 5 + 4) × (r ≤ stop) → BodyAt d s stop at r u u
unfolding expr_body expr_kinds pick as_new_instance give ◌>>=◌ lower_expr
new_found {d} {s} {stop} {at} {r} q f = record {
  tree = new_instance at (number 4 s (at + 5));
  reads = kind_is d s stop at 4 q (step _ _ (number_in s at stop 4 (at + 5) r f.0 f.1) refl);
  records = 0;
  labels = 0;
  paid = (omega arith, omega arith);
  tame = tame_more tame_emit (omega arith) (omega arith);
}

pub construct_found : {d : ℕ} {s : List ℕ} {stop at a r n : ℕ} {u u' : Left} → get_or s (at + 4) 0 ≡ 5 → (a ≡ at + 5 + 4) × (a ≤ stop) → RunAt d s stop a r 255 n u u' → BodyAt d s stop at r u u'
unfolding expr_body expr_kinds pick as_construct give ◌>>=◌ lower_expr
construct_found {d} {s} {stop} {at} {a} q h f = record {
  tree = construct at (number 4 s (at + 5)) (exprs_of f.trees);
  reads = kind_is d s stop at 5 q (step _ _ (number_in s at stop 4 (at + 5) a h.0 h.1) (step _ _ f.reads refl));
  records = f.records;
  labels = f.labels;
  paid = f.paid;
  tame = tame_more (tame_then (tame_require _ _ _ _ (lt-ltb (length_exprs (exprs_of f.trees)) 256 (omega (arith, length_exprs_law f.trees, f.count)))) (tame_then tame_emit (each_tame f.trees f.each))) (omega arith) (omega arith);
}

pub assign_found : {d : ℕ} {s : List ℕ} {stop at a r : ℕ} {u u₁ u' : Left} → get_or s (at + 4) 0 ≡ 6 → ExprAt d s stop (at + 5) a u u₁ → ExprAt d s stop a r u₁ u' → BodyAt d s stop at r u u'
unfolding expr_body expr_kinds pick as_assign give ◌>>=◌ lower_expr
assign_found {d} {s} {stop} {at} q f g = record {
  tree = assign at f.tree g.tree;
  reads = kind_is d s stop at 6 q (step _ _ f.reads (step _ _ g.reads refl));
  records = f.records + g.records;
  labels = f.labels + g.labels;
  paid = (omega (arith, f.paid.0, g.paid.0), omega (arith, f.paid.1, g.paid.1));
  tame = tame_more (tame_then tame_emit (tame_then f.tame g.tame)) (omega arith) (omega arith);
}

-- a field pays its form, and a label where that is not 0
pub field_found : {d : ℕ} {s : List ℕ} {stop at a w n r : ℕ} {u u₁ u' : Left} → get_or s (at + 4) 0 ≡ 7 → FieldsAt s (at + 5) stop 5 0 3 a → w ≡ get_or s (at + 5) 0 → n ≡ min w 1
    → Paid u u₁ w n → ExprAt d s stop a r u₁ u' → BodyAt d s stop at r u u'
unfolding expr_body expr_kinds pick as_field give ◌>>=◌ lower_expr
field_found {d} {s} {stop} {at} {a} {w} {n} q f e m u g = record {
  tree = field at (get_or s (at + 5) 0) (number 4 s (at + 6)) g.tree;
  reads = kind_is d s stop at 7 q (step _ _ (below_in s at stop 3 (at + 5) (at + 6) (omega arith) (omega (arith, f.0, f.1)) (first s (at + 5) f.2))
      (step _ _ (number_in s at stop 4 (at + 6) a (omega (arith, f.0)) f.1) (step _ _ g.reads refl)));
  records = get_or s (at + 5) 0 + g.records;
  labels = n + g.labels;
  paid = (omega (arith, u.0, e, g.paid.0), omega (arith, u.1, g.paid.1));
  tame = field_tame at (get_or s (at + 5) 0) (number 4 s (at + 6)) (λ h. omega (arith, h, e, m)) g.tame;
}

pub index_found : {d : ℕ} {s : List ℕ} {stop at a b r : ℕ} {u u₁ u' : Left} → get_or s (at + 4) 0 ≡ 8 → FieldsAt s (at + 5) stop 5 0 2 a
    → ExprAt d s stop a b u u₁ → ExprAt d s stop b r u₁ u' → BodyAt d s stop at r u u'
unfolding expr_body expr_kinds pick as_index give ◌>>=◌ lower_expr
index_found {d} {s} {stop} {at} {a} q f g h =
    record {
      tree = index at (get_or s (at + 5) 0) (number 4 s (at + 6)) g.tree h.tree;
      reads = kind_is d s stop at 8 q (step _ _ (below_in s at stop 2 (at + 5) (at + 6) (omega arith) (omega (arith, f.0, f.1)) (first s (at + 5) f.2))
          (step _ _ (number_in s at stop 4 (at + 6) a (omega (arith, f.0)) f.1) (step _ _ g.reads (step _ _ h.reads refl))));
      records = g.records + h.records;
      labels = g.labels + h.labels;
      paid = (omega (arith, g.paid.0, h.paid.0), omega (arith, g.paid.1, h.paid.1));
      tame = tame_more (tame_then tame_emit (tame_then g.tame h.tame)) (omega arith) (omega arith);
    }

pub conditional_found : {d : ℕ} {s : List ℕ} {stop at a b r : ℕ} {u u₁ u₂ u₃ u' : Left} → get_or s (at + 4) 0 ≡ 9 → Paid u u₃ 0 2
    → ExprAt d s stop (at + 5) a u₃ u₁ → ExprAt d s stop a b u₁ u₂ → ExprAt d s stop b r u₂ u' → BodyAt d s stop at r u u'
unfolding expr_body expr_kinds pick as_conditional give ◌>>=◌ lower_expr
conditional_found {d} {s} {stop} {at} q u f g h =
    record {
      tree = conditional at f.tree g.tree h.tree;
      reads = kind_is d s stop at 9 q (step _ _ f.reads (step _ _ g.reads (step _ _ h.reads refl)));
      records = f.records + g.records + h.records;
      labels = 2 + (f.labels + g.labels + h.labels);
      paid = (omega (arith, u.0, f.paid.0, g.paid.0, h.paid.0), omega (arith, u.1, f.paid.1, g.paid.1, h.paid.1));
      tame = tame_more (tame_label (λ l. tame_label (λ m. tame_then tame_emit (tame_then f.tame (tame_then g.tame (tame_then tame_mark (tame_then h.tame tame_mark))))))) (omega arith) (omega arith);
    }

pub cast_found : {d : ℕ} {s : List ℕ} {stop at a r : ℕ} {u u' : Left} → get_or s (at + 4) 0 ≡ 10 → FieldsAt s (at + 5) stop 5 4 2 a → ExprAt d s stop a r u u' → BodyAt d s stop at r u u'
unfolding expr_body expr_kinds pick as_dyn_cast give ◌>>=◌ lower_expr
cast_found {d} {s} {stop} {at} {a} q f g =
    let z : at + 5 + 4 ≡ at + 9 = omega arith in
    record {
      tree = dyn_cast at (number 4 s (at + 5)) (get_or s (at + 9) 0) g.tree;
      reads = kind_is d s stop at 10 q (step _ _ (number_in s at stop 4 (at + 5) (at + 9) (omega arith) (omega (arith, f.0, f.1)))
          (step _ _ (below_in s at stop 2 (at + 9) a (omega (arith, f.0)) f.1 (rw z at f.2)) (step _ _ g.reads refl)));
      records = g.records;
      labels = g.labels;
      paid = g.paid;
      tame = tame_more (tame_then tame_emit g.tame) (omega arith) (omega arith);
    }

pub local_found : {d : ℕ} {s : List ℕ} {stop at r : ℕ} {u : Left} → get_or s (at + 4) 0 ≡ 11 → FieldsAt s (at + 5) stop 5 0 4 r → BodyAt d s stop at r u u
unfolding expr_body expr_kinds pick as_local give ◌>>=◌ lower_expr
local_found {d} {s} {stop} {at} {r} q f = record {
  tree = local at (get_or s (at + 5) 0) (number 4 s (at + 6));
  reads = kind_is d s stop at 11 q (step _ _ (below_in s at stop 4 (at + 5) (at + 6) (omega arith) (omega (arith, f.0, f.1)) (first s (at + 5) f.2))
      (step _ _ (number_in s at stop 4 (at + 6) r (omega (arith, f.0)) f.1) refl));
  records = 0;
  labels = 0;
  paid = (omega arith, omega arith);
  tame = tame_more tame_emit (omega arith) (omega arith);
}

both_true : (a b : Bool) → (a && b) ≡ true → a ≡ true
both_true true b e = refl
both_true false b e = e

pub intrinsic_found : {d : ℕ} {s : List ℕ} {stop at a r m n c h y : ℕ} {u u' : Left} {b : Bool} → get_or s (at + 4) 0 ≡ 12 → FieldsAt s (at + 5) stop 7 0 34 a
    → c ≡ get_or s (at + 5) 0 → h ≡ get_or s (at + 6) 0 → y ≡ get_or s (at + 7) 0 → b ≡ (eqb h 0 && eqb y (intrinsic_of c).types) → b ≡ true
    → RunAt d s stop a r m n u u' → BodyAt d s stop at r u u'
unfolding expr_body expr_kinds pick as_intrinsic give ◌>>=◌ lower_expr
intrinsic_found {d} {s} {stop} {at} {a} {b = b} q f e₁ e₂ e₃ j o g =
    let t : (eqb (get_or s (at + 6) 0) 0 && eqb (get_or s (at + 7) 0) (intrinsic_of (get_or s (at + 5) 0)).types) ≡ true = rw (e₁, e₂, e₃) at (sym j ∙ o) in
    let z = eqb-true (get_or s (at + 6) 0) 0 (both_true _ _ t) in
    record {
      tree = intrinsic at (get_or s (at + 5) 0) (get_or s (at + 6) 0) (get_or s (at + 7) 0) (number 4 s (at + 8)) (exprs_of g.trees);
      reads = kind_is d s stop at 12 q (step _ _ (below_in s at stop 34 (at + 5) (at + 6) (omega arith) (omega (arith, f.0, f.1)) (first s (at + 5) f.2))
          (step _ _ (below_in s at stop 2 (at + 6) (at + 7) (omega arith) (omega (arith, f.0, f.1)) (omega (arith, z)))
          (step _ _ (byte_in s at stop (at + 7) (at + 8) (omega arith) (omega (arith, f.0, f.1)))
          (step _ _ (number_in s at stop 4 (at + 8) a (omega (arith, f.0)) f.1) (step _ _ g.reads refl)))));
      records = g.records;
      labels = g.labels;
      paid = g.paid;
      tame = tame_more (tame_then (tame_require _ _ _ _ t) (tame_then tame_emit (each_tame g.trees g.each))) (omega arith) (omega arith);
    }

pub free_found : {d : ℕ} {s : List ℕ} {stop at r : ℕ} {u u' : Left} → get_or s (at + 4) 0 ≡ 13 → CallAt d s stop (at + 5) r u u' → BodyAt d s stop at r u u'
unfolding expr_body expr_kinds pick as_free_call give ◌>>=◌ lower_expr
free_found {d} {s} {stop} {at} q g = record {
  tree = free_call at g.function g.args;
  reads = kind_is d s stop at 13 q (step _ _ (g.callee at) (step _ _ (g.reads at) refl));
  records = g.records;
  labels = g.labels;
  paid = g.paid;
  tame = g.tame at;
}

pub static_found : {d : ℕ} {s : List ℕ} {stop at r : ℕ} {u u₁ u' : Left} → get_or s (at + 4) 0 ≡ 14 → Paid u u₁ 0 1 → CallAt d s stop (at + 5) r u₁ u' → BodyAt d s stop at r u u'
unfolding expr_body expr_kinds pick as_static_call give ◌>>=◌ lower_expr
static_found {d} {s} {stop} {at} q u g = record {
  tree = static_call at g.function g.args;
  reads = kind_is d s stop at 14 q (step _ _ (g.callee at) (step _ _ (g.reads at) refl));
  records = g.records;
  labels = 1 + g.labels;
  paid = (omega (arith, u.0, g.paid.0), omega (arith, u.1, g.paid.1));
  tame = tame_more (tame_label (λ l. tame_then (g.tame at) tame_mark)) (omega arith) (omega arith);
}

pub instance_found : {d : ℕ} {s : List ℕ} {stop at a b r : ℕ} {u u₁ u₂ u' : Left} → get_or s (at + 4) 0 ≡ 15 → FieldsAt s (at + 5) stop 1 0 2 a → Paid u u₁ (1 + get_or s (at + 5) 0) 1
    → ExprAt d s stop a b u₁ u₂ → CallAt d s stop b r u₂ u' → BodyAt d s stop at r u u'
unfolding expr_body expr_kinds pick as_instance_call give ◌>>=◌ lower_expr
instance_found {d} {s} {stop} {at} {a} q f u g h =
    record {
      tree = instance_call at (get_or s (at + 5) 0) g.tree h.function h.args;
      reads = kind_is d s stop at 15 q (step _ _ (below_in s at stop 2 (at + 5) a f.0 f.1 (first s (at + 5) f.2))
          (step _ _ g.reads (step _ _ (h.callee at) (step _ _ (h.reads at) refl))));
      records = 1 + get_or s (at + 5) 0 + g.records + h.records;
      labels = 1 + (g.labels + h.labels);
      paid = (omega (arith, u.0, g.paid.0, h.paid.0), omega (arith, u.1, g.paid.1, h.paid.1));
      tame = tame_more (tame_label (λ l. tame_then tame_emit (tame_then (weak_tame at (get_or s (at + 5) 0)) (tame_then g.tame (tame_then (h.tame at) tame_mark))))) (omega arith) (omega arith);
    }

pub closure_found : {d : ℕ} {s : List ℕ} {stop at a b r m n : ℕ} {u u₁ u₂ u' : Left} → get_or s (at + 4) 0 ≡ 16 → Paid u u₁ 2 2
    → ExprAt d s stop (at + 5) a u₁ u₂ → (b ≡ a + 6) × (b ≤ stop) → RunAt d s stop b r m n u₂ u' → BodyAt d s stop at r u u'
unfolding expr_body expr_kinds pick as_closure_call give ◌>>=◌ lower_expr
closure_found {d} {s} {stop} {at} {a} {b} q u f h g = record {
  tree = closure_call at f.tree (number 4 s a) (number 2 s (a + 4)) (exprs_of g.trees);
  reads = kind_is d s stop at 16 q (step _ _ f.reads (step _ _ (number_in s at stop 4 a (a + 4) (omega arith) (omega (arith, h)))
      (step _ _ (number_in s at stop 2 (a + 4) b (omega (arith, h.0)) h.1) (step _ _ g.reads refl))));
  records = 2 + (f.records + g.records);
  labels = 2 + (f.labels + g.labels);
  paid = (omega (arith, u.0, f.paid.0, g.paid.0), omega (arith, u.1, f.paid.1, g.paid.1));
  tame = tame_more (tame_label (λ c. tame_then tame_emit (tame_then f.tame (tame_then tame_mark (tame_label (λ l. tame_then tame_emit (tame_then (each_tame g.trees g.each) (tame_then tame_emit tame_mark)))))))) (omega arith) (omega arith);
}

-- 5. The expression: its head, a record, its body up to its end

pub expr_found : {s : List ℕ} {end at stop last r : ℕ} {u u₁ u' : Left} (depth : ℕ) → (head s end at ≡ ok (get_or s (at + 4) 0, stop) (at + 5)) × (0 < depth) × (at + 5 ≤ stop) × (stop ≤ end) → Paid u u₁ 1 0
    → BodyAt (depth - 1) s stop at last u₁ u' → (r ≡ last) × (last ≡ stop) → ExprAt depth s end at r u u'
unfolding parse_expr
expr_found zero f u g e = absurd (omega (arith, f.1))
expr_found {s} {end} {at} {stop} {last} {r} {u} {u₁} {u'} (suc d) f p g e =
    let z : suc d - 1 ≡ d = omega arith in
    let y : r ≡ stop = e.0 ∙ e.1 in
    let h : BodyAt d s stop at stop u₁ u' = rw (z, e.1) at g in
    rw y (record {
      tree = h.tree;
      reads = node_in s end (expr_body s (parse_expr d s)) at _ stop f.0 h.reads;
      records = 1 + h.records;
      labels = h.labels;
      paid = (omega (arith, p.0, h.paid.0), omega (arith, p.1, h.paid.1));
      tame = h.tame;
      place = (omega (arith, f.2), f.3);
    })
