-- Statements whose parts are read are read. Assumes nothing.
use Prim.Native.Nat.{ℕ, zero, suc, ◌+◌, ◌-◌, ◌≤◌, ◌<◌}
use mathlib.Core.List.{List}
use mathlib.Core.Path.{◌≡◌, refl, ap, ◌∙◌}
use native.Mathlib.Omega.{arith}
use lib.ListN.{get_or}
use Rattle.definitions.specs.Answer.{Answer, ok, bind}
use Rattle.definitions.specs.Bytes.{number}
use Rattle.definitions.specs.Tree.{Expr, Stmt, Block, Default, expr, block, while, branches, switch, init_array, init_default, break, continue, return, return_nothing, absent, present, exprs_of, block_of, branches_of, cases_of}
use Rattle.definitions.specs.Read.{Parser, ◌>>=◌, give, run, head, arm, block_if, return_if, pick, stmt_kinds, stmt_body, as_expr, as_block, as_while, as_branches, as_switch, as_init_array, as_init_default, as_break, as_continue, as_return, parse_expr, parse_stmt}
use Rattle.scan.proofs.FieldLaws.{step, node_in, number_in, below_in, first}
use Rattle.scan.proofs.ExprLaws.{FieldsAt}

-- 1. Nodes and arms

pub stmt_in : (d : ℕ) (s : List ℕ) (holder at kind stop : ℕ) {t : Stmt} → 0 < d → head s holder at ≡ ok (kind, stop) (at + 5)
    → stmt_body s (parse_expr (d - 1) s) (parse_stmt (d - 1) s) kind at stop (at + 5) ≡ ok t stop → parse_stmt d s holder at ≡ ok t stop
unfolding parse_stmt
stmt_in zero s holder at kind stop p e h = absurd (omega arith)
stmt_in (suc d) s holder at kind stop p e h =
    let z : suc d - 1 ≡ d = omega arith in node_in s holder (stmt_body s (parse_expr d s) (parse_stmt d s)) at kind stop e (rw z at h)

-- an arm
pub arm_in : (s : List ℕ) (value : ℕ → Parser Expr) (child : ℕ → Parser Stmt) (end p n r : ℕ) {c : Expr} {b : List Stmt} → value end p ≡ ok c n → run s end child n ≡ ok b r → arm s value child end p ≡ ok (c, block_of b) r
unfolding arm ◌>>=◌ give
arm_in s value child end p n r h i = step _ _ h (step _ _ i refl)

-- a mark that is not 0
marked : (s : List ℕ) (at : ℕ) → get_or s (at + 0) 0 < 2 → (get_or s at 0 ≡ 0 → ⊥) → get_or s at 0 ≡ 1
marked s at h z = omega (arith, first s at h, z)

-- 2. Kinds, each from where its fields begin
module _ (s : List ℕ) (value : ℕ → Parser Expr) (child : ℕ → Parser Stmt) (at end p : ℕ) where
  kind_is : {k j : ℕ} (x : Answer Stmt) → k ≡ j → stmt_body s value child j at end p ≡ x → stmt_body s value child k at end p ≡ x
  kind_is x e h = ap (λ k. stmt_body s value child k at end p) e ∙ h

  pub expr_in : {k r : ℕ} {e : Expr} → k ≡ 1 → value end p ≡ ok e r → stmt_body s value child k at end p ≡ ok (expr at e) r
  unfolding stmt_body stmt_kinds pick as_expr give ◌>>=◌
  expr_in q h = kind_is _ q (step _ _ h refl)

  pub block_in : {k r : ℕ} {b : List Stmt} → k ≡ 2 → run s end child p ≡ ok b r → stmt_body s value child k at end p ≡ ok (block at (block_of b)) r
  unfolding stmt_body stmt_kinds pick as_block give ◌>>=◌
  block_in q h = kind_is _ q (step _ _ h refl)

  pub while_in : {k n r : ℕ} {c : Expr} {b : List Stmt} → k ≡ 3 → value end p ≡ ok c n → run s end child n ≡ ok b r → stmt_body s value child k at end p ≡ ok (while at c (block_of b)) r
  unfolding stmt_body stmt_kinds pick as_while give ◌>>=◌
  while_in {n = n} q h i = kind_is _ q (step _ _ h (step _ _ i refl))

  -- without a default, and with one
  pub branches_in : {k n r : ℕ} {bs : List (Expr × Block)} → k ≡ 4 → run s end (arm s value child) p ≡ ok bs n → FieldsAt s n end 1 0 2 r → get_or s n 0 ≡ 0
      → stmt_body s value child k at end p ≡ ok (branches at (branches_of bs) absent) r
  unfolding stmt_body stmt_kinds pick as_branches block_if give ◌>>=◌ bind
  branches_in {n = n} {r} q h f z =
      kind_is _ q (step _ _ h (step _ _ (below_in s at end 2 n r f.0 f.1 (first s n f.2) ∙ ap (λ m. ok m r) z) refl))

  pub branches_with : {k n a r : ℕ} {bs : List (Expr × Block)} {b : List Stmt} → k ≡ 4 → run s end (arm s value child) p ≡ ok bs n → FieldsAt s n end 1 0 2 a → (get_or s n 0 ≡ 0 → ⊥)
      → run s end child a ≡ ok b r → stmt_body s value child k at end p ≡ ok (branches at (branches_of bs) (present (block_of b))) r
  unfolding stmt_body stmt_kinds pick as_branches block_if give ◌>>=◌
  branches_with {n = n} {a} q h f z i =
      kind_is _ q (step _ _ h (step _ _ (below_in s at end 2 n a f.0 f.1 (first s n f.2) ∙ ap (λ m. ok m a) (marked s n f.2 z)) (step _ _ (step _ _ i refl) refl)))

  -- a type, what is switched on, an index, a mark, the cases
  pub switch_in : {k n r : ℕ} {e : Expr} {cs : List (Expr × Block)} {d : Default} {c : ℕ} → k ≡ 5 → p + 4 ≤ end → value end (p + 4) ≡ ok e n → n + 5 ≤ end → get_or s (n + 4) 0 < 2
      → run s end (arm s value child) (n + 5) ≡ ok cs c → block_if (get_or s (n + 4) 0) (run s end child) c ≡ ok d r
      → stmt_body s value child k at end p ≡ ok (switch at (number 4 s p) e (number 4 s n) (cases_of cs) d) r
  unfolding stmt_body stmt_kinds pick as_switch give ◌>>=◌
  switch_in {n = n} q l h m b i j =
      kind_is _ q (step _ _ (number_in s at end 4 p (p + 4) refl l) (step _ _ h (step _ _ (number_in s at end 4 n (n + 4) refl (omega (arith, m)))
      (step _ _ (below_in s at end 2 (n + 4) (n + 5) (omega arith) m b) (step _ _ i (step _ _ j refl))))))

  pub array_in : {k a r : ℕ} {es : List Expr} → k ≡ 6 → (a ≡ p + 8) × (a ≤ end) → run s end value a ≡ ok es r → stmt_body s value child k at end p ≡ ok (init_array at (number 4 s p) (number 4 s (p + 4)) (exprs_of es)) r
  unfolding stmt_body stmt_kinds pick as_init_array give ◌>>=◌
  array_in {a = a} q f h = kind_is _ q (step _ _ (number_in s at end 4 p (p + 4) refl (omega (arith, f.0, f.1))) (step _ _ (number_in s at end 4 (p + 4) a (omega (arith, f.0)) f.1) (step _ _ h refl)))

  pub default_in : {k r : ℕ} → k ≡ 7 → FieldsAt s p end 9 4 23 r → stmt_body s value child k at end p ≡ ok (init_default at (number 4 s p) (get_or s (p + 4) 0) (number 4 s (p + 5))) r
  unfolding stmt_body stmt_kinds pick as_init_default give ◌>>=◌
  default_in {r = r} q f =
      kind_is _ q (step _ _ (number_in s at end 4 p (p + 4) refl (omega (arith, f.0, f.1))) (step _ _ (below_in s at end 23 (p + 4) (p + 5) (omega arith) (omega (arith, f.0, f.1)) f.2)
      (step _ _ (number_in s at end 4 (p + 5) r (omega (arith, f.0)) f.1) refl)))

  pub break_in : {k : ℕ} → k ≡ 8 → stmt_body s value child k at end p ≡ ok (break at) p
  unfolding stmt_body stmt_kinds pick as_break give
  break_in q = kind_is _ q refl

  pub continue_in : {k : ℕ} → k ≡ 9 → stmt_body s value child k at end p ≡ ok (continue at) p
  unfolding stmt_body stmt_kinds pick as_continue give
  continue_in q = kind_is _ q refl

  pub nothing_in : {k r : ℕ} → k ≡ 10 → FieldsAt s p end 1 0 2 r → get_or s p 0 ≡ 0 → stmt_body s value child k at end p ≡ ok (return_nothing at) r
  unfolding stmt_body stmt_kinds pick as_return return_if give ◌>>=◌
  nothing_in {r = r} q f z = kind_is _ q (step _ _ (below_in s at end 2 p r f.0 f.1 (first s p f.2) ∙ ap (λ m. ok m r) z) refl)

  pub return_in : {k a r : ℕ} {e : Expr} → k ≡ 10 → FieldsAt s p end 1 0 2 a → (get_or s p 0 ≡ 0 → ⊥) → value end a ≡ ok e r → stmt_body s value child k at end p ≡ ok (return at e) r
  unfolding stmt_body stmt_kinds pick as_return return_if give ◌>>=◌
  return_in {a = a} q f z h = kind_is _ q (step _ _ (below_in s at end 2 p a f.0 f.1 (first s p f.2) ∙ ap (λ m. ok m a) (marked s p f.2 z)) (step _ _ h refl))
