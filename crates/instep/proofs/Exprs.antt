-- Expressions in step, kind by kind, whatever the reading. Assumes nothing.
use Prim.Native.Nat.{ℕ, zero, suc, ◌≤◌}
use mathlib.Core.Path.{◌≡◌, refl, ap, sym, ◌∙◌}
use mathlib.Core.Bool.{true, cond}
use mathlib.Core.List.{List, [], ◌∷◌, map}
use native.Mathlib.Omega.{arith}
use lib.Dec.{leb, ltb}
use lib.ListN.{length, drop, length-map}
use Rattle.definitions.specs.Tree.{Callee, Expr, econs, exprs_of}
use Rattle.definitions.specs.Strip.{Part, expr_parts, parts_of, index, mark, call, free, kept, small, constant, params, value, values}
use Rattle.definitions.specs.Strip as part
use Rattle.definitions.specs.Read.{Parser, pick, give, run, as_nop, as_const, as_null, as_new_instance, as_construct, as_assign, as_field, as_index, as_conditional, as_dyn_cast, as_local, as_intrinsic, callee, arguments, as_free_call, as_static_call, as_instance_call, as_closure_call, expr_kinds, expr_body, parse_expr}
use Rattle.ir.proofs.Inversion.{ended_ok, expr_moves, expr_at}
use Rattle.instep.specs.Moves.{Moves, moved_callee, moved_expr, moved_exprs}
use Rattle.instep.proofs.InStep.{InStep, stops, also, widen, gives, tested, next, onto, unknown}
use Rattle.instep.proofs.Reading.{Reading, AfterWithin, run_rest, parts_rest, kind_rest, expr_rest}
use Rattle.instep.proofs.Runs.{Advances, AdvancesWithin, Items, field, blank, constant as constant-step, small as small-step, marks, closes, runs, nodes, Kind as KindInStep, Each, picked}

pub moved_exprs_law : (m : Moves) (xs : List Expr) → moved_exprs m (exprs_of xs) ≡ exprs_of (map (moved_expr m) xs)
unfolding moved_exprs exprs_of
moved_exprs_law m [] = refl
moved_exprs_law m (x ∷ xs) = ap (econs (moved_expr m x)) (moved_exprs_law m xs)

-- 1. The kinds of a node at `at` that ends at `end`, with what is in it in step

module _ {s t : List ℕ} {m : Moves} (P : Reading s t m) (child child' : ℕ → Parser Expr) (v c : ℕ → P.Rest → P.Rest) (at end : ℕ) (near : end ≤ P.most)
    (each : Items P (moved_expr m) v P.most child child') (goes : AdvancesWithin child) (goes' : Advances child') where
  abbrev Kind : (n : ℕ) → Parser Expr → Parser Expr → List Part → Type 0
  Kind n p p' ps = KindInStep P (moved_expr m) v c at end n p p' ps

  -- an expression in it, and a run of them
  one : {C : P.Rest} {n : ℕ} → AfterWithin P end (v end C) n
      → InStep m.place n (moved_expr m) (λ x n. AfterWithin P end C n) (child end) (child' (m.place end))
  one {n = n} h = widen (λ x o e i. (i, (goes end n x o e).1)) (each end near _ _ h.1 h.0)

  many : {n : ℕ} (rest : ℕ → P.Rest) → AfterWithin P end (run_rest P end v rest) n
      → InStep m.place n (map (moved_expr m)) (λ xs n. AfterWithin P end (rest (length xs)) n) (run s end child) (run t (m.place end) child')
  many rest h = runs P rest child child' v end near goes goes' (λ to l. each to (omega arith)) h

  nop : (n : ℕ) → Kind n (as_nop at) (as_nop (m.place at)) []
  unfolding as_nop parts_rest moved_expr
  nop n C h = gives _ _ h refl

  const : (n : ℕ) → Kind n (as_const s at end) (as_const t (m.place at) (m.place end)) (constant ∷ [])
  unfolding parts_rest
  const n C h = constant-step P at end near h

  null : (n : ℕ) → Kind n (as_null s at end) (as_null t (m.place at) (m.place end)) (mark ∷ [])
  unfolding as_null parts_rest moved_expr
  null n C h = onto (small-step P at end 2 near h) (λ w n h r. gives _ _ h refl)

  new_instance : (n : ℕ) → Kind n (as_new_instance s at end) (as_new_instance t (m.place at) (m.place end)) (index ∷ [])
  unfolding as_new_instance parts_rest moved_expr
  new_instance n C h = next (blank P at end 4 near h) (λ x x' e n h r. gives _ _ h (cc e))

  construct : (n : ℕ) → Kind n (as_construct s child at end) (as_construct t child' (m.place at) (m.place end)) (index ∷ values ∷ [])
  unfolding as_construct parts_rest moved_expr
  construct n C h =
      next (blank P at end 4 near h) (λ x x' e n h r. next (many _ h) (λ xs xs' d n h r. gives _ _ h (cc (e, d, moved_exprs_law m xs))))

  assign : (n : ℕ) → Kind n (as_assign child at end) (as_assign child' (m.place at) (m.place end)) (value ∷ value ∷ [])
  unfolding as_assign parts_rest moved_expr
  assign n C h = next (one h) (λ p p' d n h r. next (one h) (λ q q' c n h r. gives _ _ h (cc (d, c))))

  field_of : (n : ℕ) → Kind n (as_field s child at end) (as_field t child' (m.place at) (m.place end)) (small 3 ∷ index ∷ value ∷ [])
  unfolding as_field parts_rest moved_expr
  field_of n C h =
      onto (small-step P at end 3 near h) (λ f n h r. next (blank P at end 4 near h) (λ x x' e n h r. next (one h) (λ p p' d n h r. gives _ _ h (cc (e, d)))))

  element_at : (n : ℕ) → Kind n (as_index s child at end) (as_index t child' (m.place at) (m.place end)) (mark ∷ index ∷ value ∷ value ∷ [])
  unfolding as_index parts_rest moved_expr
  element_at n C h =
      onto (small-step P at end 2 near h) (λ y n h r. next (blank P at end 4 near h) (λ x x' e n h r.
      next (one h) (λ p p' d n h r. next (one h) (λ q q' c n h r. gives _ _ h (cc (e, d, c))))))

  conditional : (n : ℕ) → Kind n (as_conditional child at end) (as_conditional child' (m.place at) (m.place end)) (value ∷ value ∷ value ∷ [])
  unfolding as_conditional parts_rest moved_expr
  conditional n C h = next (one h) (λ p p' d n h r. next (one h) (λ q q' c n h r. next (one h) (λ o o' b n h r. gives _ _ h (cc (d, c, b)))))

  dyn_cast : (n : ℕ) → Kind n (as_dyn_cast s child at end) (as_dyn_cast t child' (m.place at) (m.place end)) (index ∷ mark ∷ value ∷ [])
  unfolding as_dyn_cast parts_rest moved_expr
  dyn_cast n C h =
      next (blank P at end 4 near h) (λ x x' e n h r. onto (small-step P at end 2 near h) (λ w n h r. next (one h) (λ p p' d n h r. gives _ _ h (cc (e, d)))))

  local : (n : ℕ) → Kind n (as_local s at end) (as_local t (m.place at) (m.place end)) (small 4 ∷ index ∷ [])
  unfolding as_local parts_rest moved_expr
  local n C h = onto (small-step P at end 4 near h) (λ f n h r. next (blank P at end 4 near h) (λ i i' e n h r. gives _ _ h (cc e)))

  intrinsic : (n : ℕ)
      → Kind n (as_intrinsic s child at end) (as_intrinsic t child' (m.place at) (m.place end)) (small 34 ∷ mark ∷ kept 1 ∷ index ∷ values ∷ [])
  unfolding as_intrinsic parts_rest moved_expr
  intrinsic n C h =
      onto (small-step P at end 34 near h) (λ k n h r. onto (small-step P at end 2 near h) (λ y n h r.
      onto (field P at end 1 near h) (λ z n h r. next (blank P at end 4 near h) (λ i i' e n h r.
      next (many _ h) (λ xs xs' d n h r. gives _ _ h (cc (e, d, moved_exprs_law m xs)))))))

  -- the fields of a function
  callees : {n : ℕ} (ps : List Part) (i : ℕ) (C : P.Rest)
      → AfterWithin P end (parts_rest P v c end (index ∷ index ∷ free 2 ∷ small 16 ∷ params ∷ ps) i C) n
      → InStep m.place n (moved_callee m) (λ x n. AfterWithin P end (parts_rest P v c end ps (length x.params) C) n) (callee s at end)
      (callee t (m.place at) (m.place end))
  unfolding callee parts_rest
  callees ps i C h =
      next (blank P at end 4 near h) (λ f f' e n h r. next (blank P at end 4 near h) (λ x x' d n h r.
      next (blank P at end 2 near h) (λ y y' b n h r.
      onto (small-step P at end 16 near h) (λ z n h r. onto (field P at end 1 near h) (λ k n h r.
      onto (marks P at end k near h) (λ ms n h r. gives _ _ (rw h.0 h.1) (cc (e, d, b))))))))

  -- arguments, of which there are no more than parameters
  args : {n : ℕ} (ps : List Part) (C : P.Rest) (i i' : ℕ) → i' ≡ i → AfterWithin P end (parts_rest P v c end (part.arguments ∷ ps) i C) n
      → InStep m.place n (moved_exprs m) (λ xs n. AfterWithin P end (parts_rest P v c end ps i C) n) (arguments s child at end i)
      (arguments t child' (m.place at) (m.place end) i')
  unfolding arguments give parts_rest
  args ps C i i' f h =
      next (many _ h) (λ xs xs' d n h r. next (closes P {f = map (moved_expr m)} at end xs xs' near h d) (λ ys ys' b n h r.
      let z : xs ≡ ys = (ended_ok at end xs _ r).1 in
      let y : leb (length ys') i' ≡ leb (length ys) i = rw (f, b, length-map ys (moved_expr m)) in
      also (tested (leb (length ys) i) (leb (length ys') i') 5 at 0 y (λ j.
      let j' : leb (length xs) i ≡ true = rw z j in
      let h' : AfterWithin P end (cond true (parts_rest P v c end ps i C) P.stop) n = rw j' at h in
      gives (exprs_of ys) (exprs_of ys') h' (ap exprs_of b ∙ sym (moved_exprs_law m ys)))) refl refl))

  -- where no part is left, and where a mark stands before an expression and a call
  closing : {n : ℕ} (i : ℕ) (C : P.Rest) → AfterWithin P end (parts_rest P v c end [] i C) n → AfterWithin P end (P.close end C) n
  unfolding parts_rest
  closing i C h = h

  marked : {n : ℕ} (C : P.Rest) → AfterWithin P end (parts_rest P v c end (mark ∷ value ∷ call) 0 C) n
      → AfterWithin P end (P.keep end 1 λ w. cond (ltb w 2) (v end (parts_rest P v c end call w C)) P.stop) n
  unfolding parts_rest
  marked C h = h

  free_call : (n : ℕ) → Kind n (as_free_call s child at end) (as_free_call t child' (m.place at) (m.place end)) call
  unfolding as_free_call moved_expr
  free_call n C h =
      next (callees (part.arguments ∷ []) 0 C h) (λ x x' e n h r.
      next (args [] C (length x.params) (length x'.params) (ap (λ (y : Callee). length y.params) e) h) (λ a a' d n h r. gives _ _ (closing _ C h) (cc (e, d))))

  static_call : (n : ℕ) → Kind n (as_static_call s child at end) (as_static_call t child' (m.place at) (m.place end)) call
  unfolding as_static_call moved_expr
  static_call n C h =
      next (callees (part.arguments ∷ []) 0 C h) (λ x x' e n h r.
      next (args [] C (length x.params) (length x'.params) (ap (λ (y : Callee). length y.params) e) h) (λ a a' d n h r. gives _ _ (closing _ C h) (cc (e, d))))

  instance_call : (n : ℕ) → Kind n (as_instance_call s child at end) (as_instance_call t child' (m.place at) (m.place end)) (mark ∷ value ∷ call)
  unfolding as_instance_call moved_expr
  instance_call n C h =
      onto (small-step P at end 2 near (marked C h)) (λ w n h r. next (one h) (λ p p' b n h r.
      next (callees (part.arguments ∷ []) w C h) (λ x x' e n h r.
      next (args [] C (length x.params) (length x'.params) (ap (λ (y : Callee). length y.params) e) h) (λ a a' d n h r.
      gives _ _ (closing _ C h) (cc (b, e, d))))))

  closure_call : (n : ℕ)
      → Kind n (as_closure_call s child at end) (as_closure_call t child' (m.place at) (m.place end)) (value ∷ index ∷ free 2 ∷ values ∷ [])
  unfolding as_closure_call parts_rest moved_expr
  closure_call n C h =
      next (one h) (λ p p' b n h r. next (blank P at end 4 near h) (λ x x' e n h r.
      next (blank P at end 2 near h) (λ y y' f n h r. next (many _ h) (λ xs xs' d n h r. gives _ _ h (cc (b, e, f, d, moved_exprs_law m xs))))))

  -- all of them: none for 0, and then those of the tables
  each_kind : (n : ℕ)
      → Each P (moved_expr m) v c at end n (drop 1 (expr_kinds s child at end)) (drop 1 (expr_kinds t child' (m.place at) (m.place end))) expr_parts
  unfolding Each expr_kinds expr_parts
  each_kind n = (
    nop n,
    (
      const n,
      (
        null n,
        (
          new_instance n,
          (
            construct n,
            (
              assign n,
              (
                field_of n,
                (
                  element_at n,
                  (
                    conditional n,
                    (
                      dyn_cast n,
                      (
                        local n,
                        (intrinsic n, (free_call n, (static_call n, (instance_call n, (closure_call n, tt))))),
                      ),
                    ),
                  ),
                ),
              ),
            ),
          ),
        ),
      ),
    ),
  )

  body : (kind n : ℕ) (C : P.Rest) → AfterWithin P end (kind_rest P v c end (parts_of expr_parts kind) C) n
      → InStep m.place n (moved_expr m) (λ a n. AfterWithin P end (P.close end C) n) (expr_body s child kind at end)
      (expr_body t child' kind (m.place at) (m.place end))
  unfolding expr_body expr_kinds parts_of pick
  body zero n C h = unknown at
  body (suc k) n C h = picked P (moved_expr m) v c at end n _ _ expr_parts (each_kind n) k C h

-- 2. An expression of a depth, in a holder within the unit

pub expr : {s t : List ℕ} {m : Moves} (P : Reading s t m) (d holder : ℕ) → holder ≤ P.most → (C : P.Rest) (at : ℕ) → at ≤ holder
    → P.After (expr_rest P d holder C) at → InStep m.place at (moved_expr m) (λ x n. P.After C n) (parse_expr d s holder) (parse_expr d t (m.place holder))
unfolding parse_expr expr_rest
expr P zero holder near C at l h = stops 4 at 0 refl refl
expr {s} {t} {m} P (suc d) holder near C at y h =
    nodes P C (expr_body s (parse_expr d s)) (expr_body t (parse_expr d t)) holder expr_parts (expr_rest P d) (λ end D. P.stop) near
    (λ kind end n l i.
    body P (parse_expr d s) (parse_expr d t) (expr_rest P d) (λ end D. P.stop) at end (omega arith) (λ to o D n x j. expr P d to o D n x j)
    (λ to n x o e. (expr_moves d s to n x o e, (expr_at d s to n e).tail)) (λ to n x o e. expr_moves d t to n x o e) kind n C i) (h, y)
