-- What is read with less depth and in a shorter holder is read alike with more. Assumes nothing.
use Prim.Native.Nat.{ℕ, zero, suc, ◌+◌, ◌≤◌, ◌<◌}
use mathlib.Core.Path.{◌≡◌, refl, sym, ap, ◌∙◌}
use mathlib.Core.Bool.{Bool, true, false}
use mathlib.Core.List.{List, [], ◌∷◌, ◌++◌, nil≢cons, cons≢nil, head-eq_of_cons-eq, tail-eq_of_cons-eq}
use native.Mathlib.Omega.{arith}
use lib.Dec.{ltb}
use borrow.Author.Tests.{ltb-true, ltb-false, le-leb}
use Rattle.definitions.specs.Answer.{ok, bind}
use Rattle.definitions.specs.Bytes.{number}
use Rattle.definitions.specs.Tree.{Expr, Stmt}
use Rattle.definitions.specs.Read.{Parser, ◌>>=◌, unsigned, room, span, items, filling, run, unknown_kind, head, node, pick, arguments, arm, block_if, return_if, as_construct, as_assign, as_field, as_index, as_conditional, as_dyn_cast, as_intrinsic, as_free_call, as_static_call, as_instance_call, as_closure_call, expr_kinds, expr_body, parse_expr, as_expr, as_block, as_while, as_branches, as_switch, as_init_array, as_return, stmt_kinds, stmt_body, parse_stmt}
use Rattle.ir.specs.Class.{node_of}
use Rattle.ir.specs.Places.{end_of}
use Rattle.ir.specs.declared.Class.{Class}
use Rattle.ir.specs.declared.Class.TheVariants.{Statement, Expression}
use Rattle.ir.proofs.Inversion.{bind_ok, refused_not_ok, span_is, items_of, items_on, items_end, fill_some, fill_none, fill_cons}

-- 1. Parsers

-- what p reads, q reads alike
abbrev pub Into : {A : Type 0} → Parser A → Parser A → Type 0
Into {A} p q = (at : ℕ) (x : A) (n : ℕ) → p at ≡ ok x n → q at ≡ ok x n

as_it_is : {A : Type 0} (p : Parser A) → Into p p
as_it_is p at x n e = e

-- the same at one place
abbrev At : {A : Type 0} → (at : ℕ) → Parser A → Parser A → Type 0
At {A} at p q = (x : A) (n : ℕ) → p at ≡ ok x n → q at ≡ ok x n

next_at : {A B : Type 0} (p q : Parser A) {f g : A → Parser B} (at : ℕ) → At at p q → ((a : A) → Into (f a) (g a)) → At at (p >>= f) (q >>= g)
unfolding ◌>>=◌ bind
next_at p q {f = f} {g = g} at i j x n e =
    let k = bind_ok (p at) f e in
    ap (λ y. bind y g) (i k.0 k.1 k.2) ∙ j k.0 k.1 x n k.3

next : {A B : Type 0} {p q : Parser A} {f g : A → Parser B} → Into p q → ((a : A) → Into (f a) (g a)) → Into (p >>= f) (q >>= g)
next {p = p} {q = q} i j at = next_at p q at (i at) j

module _ {A : Type 0} {p q : Parser A} (i : Into p q) where
  items_into : (fuel stop : ℕ) → Into (items p fuel stop) (items q fuel stop)
  unfolding items bind ◌>>=◌
  items_into zero stop at x n e = refused_not_ok e
  items_into (suc fuel) stop at x n e = go (items_into fuel stop) (ltb at stop) refl
    where
      go : Into (items p fuel stop) (items q fuel stop) → (b : Bool) → b ≡ ltb at stop → items q (suc fuel) stop at ≡ ok x n
      go j true t =
          let l = ltb-true at stop (sym t) in
          items_on q fuel stop at l ∙ next {p = p} {q = q} {f = items_of p fuel stop} {g = items_of q fuel stop} i (λ a. next {p = items p fuel stop} {q = items q fuel stop} {f = λ xs. ok (a ∷ xs)} {g = λ xs. ok (a ∷ xs)} j (λ xs. as_it_is _)) at x n (sym (items_on p fuel stop at l) ∙ e)
      go j false t =
          let l = ltb-false at stop (sym t) in
          items_end q fuel stop at l ∙ sym (items_end p fuel stop at l) ∙ e

run_into : {A : Type 0} {p q : ℕ → Parser A} (s : List ℕ) (end : ℕ) → ((stop : ℕ) → Into (p stop) (q stop)) → Into (run s end p) (run s end q)
unfolding run filling
run_into s end i = next (as_it_is (span s end)) (λ stop at. items_into (i stop) _ stop at)

-- the entries of two lists, one by one
unfoldable Each : {A : Type 0} → (ps qs : List (Parser A)) → Type 0
Each [] qs = Unit
Each (p ∷ ps) [] = ⊥
Each (p ∷ ps) (q ∷ qs) = Into p q × Each ps qs

pick_into : {A : Type 0} (ps qs : List (Parser A)) (nd kind : ℕ) → Each ps qs → Into (pick ps nd kind) (pick qs nd kind)
unfolding Each pick unknown_kind
pick_into [] qs nd kind h = λ at x n e. refused_not_ok e
pick_into (p ∷ ps) [] nd kind h = absurd h
pick_into (p ∷ ps) (q ∷ qs) nd zero h = h.0
pick_into (p ∷ ps) (q ∷ qs) nd (suc kind) h = pick_into ps qs nd kind h.1

-- 2. Nodes

-- a node that ends within another holder too
module _ (s : List ℕ) (h h' at : ℕ) (l : end_of s at ≤ h → end_of s at ≤ h') where
  span_to : At at (span s h) (span s h')
  unfolding span unsigned room ◌>>=◌ bind
  span_to x n e =
      let i = span_is s h at e in
      let r = l i.1 in
      let u : unsigned s at h' 4 at ≡ ok (number 4 s at) (at + 4) = simp (le-leb (at + 4) h' (omega arith), unsigned) in
      let v : room at h' (number 4 s at) (at + 4) ≡ ok (at + 4 + number 4 s at) (at + 4) = simp (le-leb (at + 4 + number 4 s at) h' r, room) in
      ap (λ y. bind y (room at h')) u ∙ v ∙ cc (i.2, i.3)

  head_to : At at (head s h) (head s h')
  unfolding head
  head_to = next_at (span s h) (span s h') at span_to (λ end. as_it_is _)

  node_to : {A : Type 0} (body body' : (kind at end : ℕ) → Parser A) → ((kind end : ℕ) → Into (body kind at end) (body' kind at end)) → At at (node s h body) (node s h' body')
  unfolding node
  node_to body body' i = next_at (head s h) (head s h') at head_to (λ k. next (i k.0 k.1) (λ a. as_it_is _))

-- 3. Kinds of expressions, by what reads the expressions in them

module _ (s : List ℕ) {p q : ℕ → Parser Expr} (i : (end : ℕ) → Into (p end) (q end)) (at end : ℕ) where
  arguments_into : (n : ℕ) → Into (arguments s p at end n) (arguments s q at end n)
  unfolding arguments
  arguments_into n = next (run_into s end i) (λ xs. as_it_is _)

  exprs_into : Each (expr_kinds s p at end) (expr_kinds s q at end)
  unfolding Each expr_kinds as_construct as_assign as_field as_index as_conditional as_dyn_cast as_intrinsic as_free_call as_static_call as_instance_call as_closure_call
  exprs_into = (
    as_it_is _,
    (
      as_it_is _,
      (
        as_it_is _,
        (
          as_it_is _,
          (
            as_it_is _,
            (
              next (as_it_is _) (λ c. next (run_into s end i) (λ xs. as_it_is _)),
              (
                next (i end) (λ a. next (i end) (λ b. as_it_is _)),
                (
                  next (as_it_is _) (λ f. next (as_it_is _) (λ n. next (i end) (λ e. as_it_is _))),
                  (
                    next (as_it_is _) (λ d. next (as_it_is _) (λ t. next (i end) (λ a. next (i end) (λ b. as_it_is _)))),
                    (
                      next (i end) (λ c. next (i end) (λ a. next (i end) (λ b. as_it_is _))),
                      (
                        next (as_it_is _) (λ c. next (as_it_is _) (λ w. next (i end) (λ e. as_it_is _))),
                        (
                          as_it_is _,
                          (
                            next (as_it_is _) (λ k. next (as_it_is _) (λ m. next (as_it_is _) (λ t. next (as_it_is _) (λ j. next (run_into s end i) (λ xs. as_it_is _))))),
                            (
                              next (as_it_is _) (λ c. next (arguments_into _) (λ xs. as_it_is _)),
                              (
                                next (as_it_is _) (λ c. next (arguments_into _) (λ xs. as_it_is _)),
                                (
                                  next (as_it_is _) (λ w. next (i end) (λ e. next (as_it_is _) (λ c. next (arguments_into _) (λ xs. as_it_is _)))),
                                  (
                                    next (i end) (λ e. next (as_it_is _) (λ n. next (as_it_is _) (λ l. next (run_into s end i) (λ xs. as_it_is _)))),
                                    tt,
                                  ),
                                ),
                              ),
                            ),
                          ),
                        ),
                      ),
                    ),
                  ),
                ),
              ),
            ),
          ),
        ),
      ),
    ),
  )

-- an expression that ends within the other holder too
pub expr_wider : (d d' : ℕ) (s : List ℕ) (h h' at : ℕ) → d ≤ d' → (end_of s at ≤ h → end_of s at ≤ h') → At at (parse_expr d s h) (parse_expr d' s h')
unfolding parse_expr expr_body
expr_wider zero d' s h h' at l m = λ x n e. refused_not_ok e
expr_wider (suc d) zero s h h' at l m = absurd (omega arith)
expr_wider (suc d) (suc d') s h h' at l m = node_to s h h' at m _ _ (λ kind end. pick_into _ _ at kind (exprs_into s (λ stop i. expr_wider d d' s stop stop i (omega arith) (λ k. k)) at end))

-- 4. Kinds of statements

module _ (s : List ℕ) {p q : ℕ → Parser Expr} (i : (end : ℕ) → Into (p end) (q end)) {u v : ℕ → Parser Stmt} (j : (end : ℕ) → Into (u end) (v end)) (at end : ℕ) where
  arm_into : (stop : ℕ) → Into (arm s p u stop) (arm s q v stop)
  unfolding arm
  arm_into stop = next (i stop) (λ c. next (run_into s stop j) (λ b. as_it_is _))

  block_if_into : (m : ℕ) → Into (block_if m (run s end u)) (block_if m (run s end v))
  unfolding block_if
  block_if_into zero = as_it_is _
  block_if_into (suc m) = next (run_into s end j) (λ b. as_it_is _)

  return_if_into : (m : ℕ) → Into (return_if m at (p end)) (return_if m at (q end))
  unfolding return_if
  return_if_into zero = as_it_is _
  return_if_into (suc m) = next (i end) (λ e. as_it_is _)

  stmts_into : Each (stmt_kinds s p u at end) (stmt_kinds s q v at end)
  unfolding Each stmt_kinds as_expr as_block as_while as_branches as_switch as_init_array as_return
  stmts_into = (
    as_it_is _,
    (
      next (i end) (λ e. as_it_is _),
      (
        next (run_into s end j) (λ b. as_it_is _),
        (
          next (i end) (λ c. next (run_into s end j) (λ b. as_it_is _)),
          (
            next (run_into s end arm_into) (λ bs. next (as_it_is _) (λ m. next (block_if_into m) (λ d. as_it_is _))),
            (
              next (as_it_is _) (λ t. next (i end) (λ e. next (as_it_is _) (λ k. next (as_it_is _) (λ m. next (run_into s end arm_into) (λ cs. next (block_if_into m) (λ d. as_it_is _)))))),
              (
                next (as_it_is _) (λ l. next (as_it_is _) (λ t. next (run_into s end i) (λ xs. as_it_is _))),
                (
                  as_it_is _,
                  (
                    as_it_is _,
                    (
                      as_it_is _,
                      (
                        next (as_it_is _) (λ m. return_if_into m),
                        tt,
                      ),
                    ),
                  ),
                ),
              ),
            ),
          ),
        ),
      ),
    ),
  )

pub stmt_wider : (d d' : ℕ) (s : List ℕ) (h h' at : ℕ) → d ≤ d' → (end_of s at ≤ h → end_of s at ≤ h') → At at (parse_stmt d s h) (parse_stmt d' s h')
unfolding parse_stmt stmt_body
stmt_wider zero d' s h h' at l m = λ x n e. refused_not_ok e
stmt_wider (suc d) zero s h h' at l m = absurd (omega arith)
stmt_wider (suc d) (suc d') s h h' at l m =
    node_to s h h' at m _ _ (λ kind end. pick_into _ _ at kind (stmts_into s (λ stop i. expr_wider d d' s stop stop i (omega arith) (λ k. k)) (λ stop i. stmt_wider d d' s stop stop i (omega arith) (λ k. k)) at end))

pub node_wider : (class : Class) (d d' : ℕ) (s : List ℕ) (h h' : ℕ) → d ≤ d' → h ≤ h' → Into (node_of class d s h) (node_of class d' s h')
node_wider Statement d d' s h h' l m at = stmt_wider d d' s h h' at l (λ k. omega (arith, k))
node_wider Expression d d' s h h' l m at = expr_wider d d' s h h' at l (λ k. omega (arith, k))

-- 5. Two runs, one behind the other

-- the items up to `stop`, then those from there up to `end`
pub fill_on : {A : Type 0} (p q : ℕ → Parser A) (stop end : ℕ) → stop ≤ end → Into (p stop) (q end) → ((at : ℕ) (x : A) (n : ℕ) → p stop at ≡ ok x n → (at < n) × (n ≤ stop)) → ((at : ℕ) (x : A) (n : ℕ) → q end at ≡ ok x n → at < n) →
    (xs ys : List A) (at n last : ℕ) → at ≤ stop → filling p stop at ≡ ok xs n → filling q end stop ≡ ok ys last → filling q end at ≡ ok (xs ++ ys) last
fill_on p q stop end l i within moves [] ys at n last h e f = go (ltb at stop) refl
  where
    go : (b : Bool) → b ≡ ltb at stop → filling q end at ≡ ok ys last
    go true t = let k = fill_some p stop (λ a x m r. (within a x m r).0) at (ltb-true at stop (sym t)) e in absurd (nil≢cons k.4)
    go false t = let z : at ≡ stop = omega (arith, ltb-false at stop (sym t)) in rw z f
fill_on p q stop end l i within moves (x ∷ xs) ys at n last h e f = go (ltb at stop) refl (fill_on p q stop end l i within moves xs ys)
  where
    go : (b : Bool) → b ≡ ltb at stop → ((at n last : ℕ) → at ≤ stop → filling p stop at ≡ ok xs n → filling q end stop ≡ ok ys last → filling q end at ≡ ok (xs ++ ys) last) → filling q end at ≡ ok (x ∷ xs ++ ys) last
    go true t rest =
        let a : at < stop = ltb-true at stop (sym t) in
        let k = fill_some p stop (λ a x m r. (within a x m r).0) at a e in
        let same : x ∷ xs ≡ k.0 ∷ k.2 = k.4 in
        let r : p stop at ≡ ok x k.1 = rw (← (head-eq_of_cons-eq same)) at k.3 in
        let more : filling p stop k.1 ≡ ok xs n = rw (← (tail-eq_of_cons-eq same)) at k.5 in
        fill_cons q end moves at (omega arith) (i at x k.1 r) (rest k.1 n last (within at x k.1 r).1 more f)
    go false t rest = let k = fill_none p stop (λ a x m r. (within a x m r).0) at (ltb-false at stop (sym t)) e in absurd (cons≢nil k.0)
