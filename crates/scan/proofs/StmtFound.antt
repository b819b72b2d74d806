-- From what the parts of a statement give to what the statement gives. Assumes nothing.
use Prim.Native.Nat.{ℕ, zero, suc, ◌+◌, ◌-◌, ◌*◌, ◌≤◌, ◌<◌}
use mathlib.Core.Bool.{cond, ◌&&◌}
use mathlib.Core.List.{List}
use mathlib.Core.Logic.{◌⊎◌, inl, inr}
use mathlib.Core.Path.{◌≡◌, refl, ap, sym, ◌∙◌}
use native.Mathlib.Omega.{arith}
use lib.Dec.{eqb, ltb}
use lib.ListN.{length, get_or}
use Rattle.definitions.specs.Answer.{ok}
use Rattle.definitions.specs.Bytes.{number}
use Rattle.definitions.specs.Tree.{Default, expr, block, while, branches, switch, init_array, init_default, break, continue, return, return_nothing, absent, present, exprs_of, block_of, branches_of, cases_of, length_exprs, length_cases, is_present}
use Rattle.definitions.specs.Read.{◌>>=◌, give, run, head, block_if, parse_expr, parse_stmt}
use Rattle.definitions.specs.Lower.{lower_stmt, mid_default}
use Rattle.laws.proofs.Trees.{length_exprs_law, length_cases_law}
use Rattle.scan.specs.Scanned.{default_count, groups_of, is_mid, within, ExprAt, RunAt, BlockAt, StatementAt, StmtAt, ArmsAt, CasesAt, Paid}
use Rattle.scan.specs.declared.fields.Left.{Left}
use Rattle.scan.proofs.TameLaws.{tame_more}
use Rattle.scan.proofs.FieldLaws.{step}
use Rattle.scan.proofs.ExprLaws.{FieldsAt}
use Rattle.scan.proofs.StmtLaws.{array_tame, DefaultTame, defaults, switch_tame, while_tame, branches_tame, break_tame, continue_tame, nothing_tame, returned, return_tame, default_tame}
use Rattle.scan.proofs.StmtReads.{stmt_in, expr_in, block_in, while_in, branches_in, branches_with, switch_in, array_in, default_in, break_in, continue_in, nothing_in, return_in}

-- a statement: its head and its body up to its end
pub stmt_found : {s : List ℕ} {end at stop last r returns inside : ℕ} {u u' : Left} (depth : ℕ) → (head s end at ≡ ok (get_or s (at + 4) 0, stop) (at + 5)) × (0 < depth) × (at + 5 ≤ stop) × (stop ≤ end)
    → StmtAt (depth - 1) s stop at last returns inside u u' → (r ≡ last) × (last ≡ stop) → StatementAt depth s end at r returns inside u u'
stmt_found {s} {end} {at} {stop} {last} {r} {returns} {inside} {u} {u'} depth f g e =
    let y : r ≡ stop = e.0 ∙ e.1 in
    let h : StmtAt (depth - 1) s stop at stop returns inside u u' = rw e.1 at g in
    rw y (record {
      tree = h.tree;
      reads = stmt_in depth s end at _ stop f.1 f.0 h.reads;
      records = h.records;
      labels = h.labels;
      paid = h.paid;
      tame = h.tame;
      place = (omega (arith, f.2), f.3);
    })

module _ (d : ℕ) (s : List ℕ) (stop at : ℕ) where
  pub expr_stmt_found : {r returns inside : ℕ} {u u' : Left} → get_or s (at + 4) 0 ≡ 1 → ExprAt d s stop (at + 5) r u u' → StmtAt d s stop at r returns inside u u'
  unfolding lower_stmt
  expr_stmt_found q x = record {
    tree = expr at x.tree;
    reads = expr_in s (parse_expr d s) (parse_stmt d s) at stop (at + 5) q x.reads;
    records = x.records;
    labels = x.labels;
    paid = x.paid;
    tame = λ span g. x.tame;
  }

  -- `e` are the records that are not its elements'
  pub array_found : {a r n' : ℕ} {u u₁ u₂ : Left} (e : ℕ) → get_or s (at + 4) 0 ≡ 6 → (a ≡ at + 5 + 8) × (a ≤ stop) → RunAt d s stop a r 1048576 n' u u₁ → Paid u₁ u₂ e 0
      → (n' < 1048576 → 3 + 4 * (1048576 - n') ≤ e) → (returns inside : ℕ) → StmtAt d s stop at r returns inside u u₂
  unfolding lower_stmt
  array_found e q f x u i returns inside =
      let n : length_exprs (exprs_of x.trees) ≡ length x.trees = length_exprs_law x.trees in
      record {
        tree = init_array at (number 4 s (at + 5)) (number 4 s (at + 5 + 4)) (exprs_of x.trees);
        reads = array_in s (parse_expr d s) (parse_stmt d s) at stop (at + 5) q f x.reads;
        records = e + x.records;
        labels = x.labels;
        paid = (omega (arith, x.paid.0, u.0), omega (arith, x.paid.1, u.1));
        tame = λ span g. array_tame (exprs_of x.trees) x.records x.labels e x.each (λ l. let c = x.count in omega (arith, i (omega (arith, n, c, l)), n, c)) _ _ _;
      }

  pub default_found : {r : ℕ} {u u' : Left} → get_or s (at + 4) 0 ≡ 7 → (r ≡ at + 5 + 9) × (r ≤ stop) × (get_or s (at + 5 + 4) 0 < 23) → Paid u u' (default_count (get_or s (at + 5 + 4) 0)) 0
      → (returns inside : ℕ) → StmtAt d s stop at r returns inside u u'
  default_found q f u returns inside = record {
    tree = init_default at (number 4 s (at + 5)) (get_or s (at + 5 + 4) 0) (number 4 s (at + 5 + 5));
    reads = default_in s (parse_expr d s) (parse_stmt d s) at stop (at + 5) q f;
    records = default_count (get_or s (at + 5 + 4) 0);
    labels = 0;
    paid = (u.0, omega (arith, u.1));
    tame = λ span g. default_tame at _ _ _ span;
  }

  pub break_found : {returns inside : ℕ} {u u' : Left} → get_or s (at + 4) 0 ≡ 8 → 0 < inside → Paid u u' 1 0 → StmtAt d s stop at (at + 5) returns inside u u'
  break_found q i u = record {
    tree = break at;
    reads = break_in s (parse_expr d s) (parse_stmt d s) at stop (at + 5) q;
    records = 1;
    labels = 0;
    paid = (u.0, omega (arith, u.1));
    tame = λ span g. break_tame at span _ _ g i;
  }

  pub continue_found : {returns inside : ℕ} {u u' : Left} → get_or s (at + 4) 0 ≡ 9 → 1 < inside → Paid u u' 1 0 → StmtAt d s stop at (at + 5) returns inside u u'
  continue_found q i u = record {
    tree = continue at;
    reads = continue_in s (parse_expr d s) (parse_stmt d s) at stop (at + 5) q;
    records = 1;
    labels = 0;
    paid = (u.0, omega (arith, u.1));
    tame = λ span g. continue_tame at span _ _ g i;
  }

  pub nothing_found : {r returns : ℕ} {u u' : Left} → get_or s (at + 4) 0 ≡ 10 → FieldsAt s (at + 5) stop 1 0 2 r → get_or s (at + 5) 0 ≡ 0 → Paid u u' 2 0 → StmtAt d s stop at r returns 0 u u'
  nothing_found q f z u = record {
    tree = return_nothing at;
    reads = nothing_in s (parse_expr d s) (parse_stmt d s) at stop (at + 5) q f z;
    records = 2;
    labels = 0;
    paid = (u.0, omega (arith, u.1));
    tame = λ span g. nothing_tame at span;
  }

  pub return_found : {a r returns : ℕ} {u u₁ u₂ : Left} (e : ℕ) → get_or s (at + 4) 0 ≡ 10 → FieldsAt s (at + 5) stop 1 0 2 a → (get_or s (at + 5) 0 ≡ 0 → ⊥) → Paid u u₁ e 0 → returned returns ≤ e → ExprAt d s stop a r u₁ u₂
      → StmtAt d s stop at r returns 0 u u₂
  return_found e q f z u i x = record {
    tree = return at x.tree;
    reads = return_in s (parse_expr d s) (parse_stmt d s) at stop (at + 5) q f z x.reads;
    records = e + x.records;
    labels = x.labels;
    paid = (omega (arith, x.paid.0, u.0), omega (arith, x.paid.1, u.1));
    tame = λ span g. tame_more (return_tame at x.tree span _ _ _ x.tame g.same) (omega (arith, i)) (omega arith);
  }

  pub block_found : {r returns inside : ℕ} {u u' : Left} → get_or s (at + 4) 0 ≡ 2 → BlockAt d s stop (at + 5) r returns inside u u' → StmtAt d s stop at r returns inside u u'
  unfolding lower_stmt
  block_found q x = record {
    tree = block at (block_of x.trees);
    reads = block_in s (parse_expr d s) (parse_stmt d s) at stop (at + 5) q x.reads;
    records = x.records;
    labels = x.labels;
    paid = x.paid;
    tame = x.tame;
  }

  pub while_found : {m r returns : ℕ} {u u₁ u₂ u₃ : Left} → get_or s (at + 4) 0 ≡ 3 → Paid u u₁ 2 2 → ExprAt d s stop (at + 5) m u₁ u₂ → BlockAt d s stop m r returns 2 u₂ u₃
      → StmtAt d s stop at r returns 0 u u₃
  while_found q u x y = record {
    tree = while at x.tree (block_of y.trees);
    reads = while_in s (parse_expr d s) (parse_stmt d s) at stop (at + 5) q x.reads y.reads;
    records = 2 + x.records + y.records;
    labels = 2 + x.labels + y.labels;
    paid = (omega (arith, u.0, x.paid.0, y.paid.0), omega (arith, u.1, x.paid.1, y.paid.1));
    tame = λ span g. while_tame at x.tree (block_of y.trees) _ _ _ _ _ x.tame y.tame span g.same;
  }

  pub branches_found : {n r returns inside : ℕ} {u u₁ u₂ : Left} → get_or s (at + 4) 0 ≡ 4 → Paid u u₁ 0 2 → ArmsAt d s stop (at + 5) n returns inside u₁ u₂ → FieldsAt s n stop 1 0 2 r → get_or s n 0 ≡ 0
      → StmtAt d s stop at r returns inside u u₂
  unfolding DefaultTame
  branches_found q u x f z = record {
    tree = branches at (branches_of x.arms) absent;
    reads = branches_in s (parse_expr d s) (parse_stmt d s) at stop (at + 5) q x.reads f z;
    records = x.records + 0;
    labels = 2 + x.labels + 0;
    paid = (omega (arith, u.0, x.paid.0), omega (arith, u.1, x.paid.1));
    tame = λ span g. branches_tame at (branches_of x.arms) absent span _ _ x.records x.labels 0 0 (λ next exit. x.tame at next exit span g) tt g;
  }

  pub branches_found_with : {n a r returns inside : ℕ} {u u₁ u₂ u₃ : Left} → get_or s (at + 4) 0 ≡ 4 → Paid u u₁ 0 2 → ArmsAt d s stop (at + 5) n returns inside u₁ u₂ → FieldsAt s n stop 1 0 2 a
      → (get_or s n 0 ≡ 0 → ⊥) → BlockAt d s stop a r returns inside u₂ u₃ → StmtAt d s stop at r returns inside u u₃
  unfolding DefaultTame
  branches_found_with q u x f z y = record {
    tree = branches at (branches_of x.arms) (present (block_of y.trees));
    reads = branches_with s (parse_expr d s) (parse_stmt d s) at stop (at + 5) q x.reads f z y.reads;
    records = x.records + y.records;
    labels = 2 + x.labels + y.labels;
    paid = (omega (arith, u.0, x.paid.0, y.paid.0), omega (arith, u.1, x.paid.1, y.paid.1));
    tame = λ span g. branches_tame at (branches_of x.arms) (present (block_of y.trees)) span _ _ x.records x.labels y.records y.labels (λ next exit. x.tame at next exit span g) y.tame g;
  }

  -- a switch with any default
  module _ (inside : ℕ) {n c returns : ℕ} {u u₁ u₂ u₃ : Left} (q : get_or s (at + 4) 0 ≡ 5) (p : Paid u u₁ 1 2) (w : at + 5 + 4 ≤ stop) (x : ExprAt d s stop (at + 5 + 4) n u₁ u₂)
      (h : n + 5 ≤ stop) (b : get_or s (n + 4) 0 < 2) (y : CasesAt d s stop (n + 5) c returns (within inside) (number 4 s n) (get_or s (n + 4) 0) u₂ u₃) where
    same_mid : (D : Default) → is_present D ≡ eqb (get_or s (n + 4) 0) 1 → mid_default D (number 4 s n) (cases_of y.arms) ≡ is_mid (number 4 s n) (get_or s (n + 4) 0) y.arms
    unfolding mid_default
    same_mid D e = ap (λ t. t && ltb (number 4 s n) (length_cases (cases_of y.arms))) e ∙ ap (λ m. eqb (get_or s (n + 4) 0) 1 && ltb (number 4 s n) m) (length_cases_law y.arms)

    pub switch_found : (D : Default) (r e f : ℕ) (u₄ : Left) → block_if (get_or s (n + 4) 0) (run s stop (parse_stmt d s)) c ≡ ok D r → is_present D ≡ eqb (get_or s (n + 4) 0) 1
        → DefaultTame D returns (within inside) e f → Paid u₃ u₄ (defaults D + e) f → StmtAt d s stop at r returns inside u u₄
    switch_found D r e f u₄ reads there dflt v =
        let cs = cases_of y.arms in
        let mid = mid_default D (number 4 s n) cs in
        let m : mid ≡ is_mid (number 4 s n) (get_or s (n + 4) 0) y.arms = same_mid D there in
        let long : length_cases cs ≡ length y.arms = length_cases_law y.arms in
        let a : u₃.records + (y.records + y.records' + (length_cases cs + cond mid 1 0)) ≡ u₂.records = rw (m, long) y.paid.0 in
        let z : u₃.labels + (y.labels + y.labels' + (length_cases cs + cond mid (length_cases cs + 1) (groups_of cs))) ≡ u₂.labels = rw (m, long) y.paid.1 in
        record {
          tree = switch at (number 4 s (at + 5)) x.tree (number 4 s n) cs D;
          reads = switch_in s (parse_expr d s) (parse_stmt d s) at stop (at + 5) q w x.reads h b y.reads reads;
          records = 1 + x.records + (y.records + y.records' + (length_cases cs + cond mid 1 0)) + (defaults D + e);
          labels = 2 + x.labels + (y.labels + y.labels' + (length_cases cs + cond mid (length_cases cs + 1) (groups_of cs))) + f;
          paid = (omega (arith, p.0, x.paid.0, a, v.0), omega (arith, p.1, x.paid.1, z, v.1));
          tame = λ span g. switch_tame at (number 4 s (at + 5)) (number 4 s n) x.tree cs D span returns inside x.records x.labels y.records y.labels y.records' y.labels' e f x.tame y.each dflt g;
        }

-- a Return's own records, as the code chooses them
pub own_pays : (r own : ℕ) → ((r ≡ 0) × (own ≡ 2)) ⊎ ((r ≡ 0 → ⊥) × (own ≡ 1)) → returned r ≤ own
unfolding returned
own_pays zero own (inl x) = omega (arith, x.1)
own_pays zero own (inr y) = absurd (y.0 refl)
own_pays (suc r) own (inl x) = omega (arith, x.1)
own_pays (suc r) own (inr y) = omega (arith, y.1)

-- a switch without a default, and with one, as the code finds its parts
module _ (d : ℕ) (s : List ℕ) (stop at : ℕ) (inside : ℕ) {o n b c iw ix m returns : ℕ} {u u₁ u₂ u₃ : Left} (q : get_or s (at + 4) 0 ≡ 5) (p : Paid u u₁ 1 2) (w : (o ≡ at + 5 + 4) × (o ≤ stop))
    (x : ExprAt d s stop o n u₁ u₂) (h : FieldsAt s n stop 5 4 2 b) (e₁ : iw ≡ within inside) (e₂ : ix ≡ number 4 s n) (e₃ : m ≡ get_or s (n + 4) 0)
    (y : CasesAt d s stop b c returns iw ix m u₂ u₃) where
  cases_there : CasesAt d s stop (n + 5) c returns (within inside) (number 4 s n) (get_or s (n + 4) 0) u₂ u₃
  cases_there = rw (h.0, e₁, e₂, e₃) at y

  pub switch_none : m ≡ 0 → StmtAt d s stop at c returns inside u u₃
  unfolding block_if give is_present DefaultTame defaults
  switch_none z =
      let zero-mark : get_or s (n + 4) 0 ≡ 0 = sym e₃ ∙ z in
      switch_found d s stop at inside q p (omega (arith, w)) (rw w.0 at x) (omega (arith, h.0, h.1)) h.2 cases_there absent c 0 0 u₃ (ap (λ j. block_if j (run s stop (parse_stmt d s)) c) zero-mark) (ap (λ j. eqb j 1) (sym zero-mark)) tt (omega arith, omega arith)

  pub switch_some : {r : ℕ} {u₄ u₅ : Left} → (m ≡ 0 → ⊥) → Paid u₃ u₄ 1 0 → BlockAt d s stop c r returns iw u₄ u₅ → StmtAt d s stop at r returns inside u u₅
  unfolding block_if give is_present DefaultTame defaults ◌>>=◌
  switch_some {r} {u₄} {u₅} z v y' =
      let one-mark : get_or s (n + 4) 0 ≡ 1 = omega (arith, h.2, e₃, z) in
      let t : BlockAt d s stop c r returns (within inside) u₄ u₅ = rw e₁ at y' in
      switch_found d s stop at inside q p (omega (arith, w)) (rw w.0 at x) (omega (arith, h.0, h.1)) h.2 cases_there (present (block_of t.trees)) r t.records t.labels u₅
      (ap (λ j. block_if j (run s stop (parse_stmt d s)) c) one-mark ∙ step _ _ t.reads refl) (ap (λ j. eqb j 1) (sym one-mark)) t.tame (omega (arith, v.0, t.paid.0), omega (arith, v.1, t.paid.1))
