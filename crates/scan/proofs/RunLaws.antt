-- Runs and arguments as a loop reads them: what has been read so far goes before whatever is read of the rest. Assumes nothing.
use Prim.Native.Nat.{ℕ, zero, suc, ◌+◌, ◌-◌, ◌≤◌, ◌<◌}
use mathlib.Core.Path.{◌≡◌, refl, sym, ◌∙◌}
use mathlib.Core.Bool.{Bool, true, false, not, ◌||◌, true≢false}
use mathlib.Core.List.{List, [], ◌∷◌}
use native.Mathlib.Omega.{arith}
use native.Mathlib.Decide.{dec_lt}
use native.Mathlib.Nat.{zero-add}
use lib.Dec.{ltb}
use lib.ListN.{length, get_or}
use borrow.Author.Tests.{lt-ltb}
use Rattle.definitions.specs.Answer.{ok}
use Rattle.definitions.specs.Tree.{Expr, exprs_of}
use Rattle.definitions.specs.Read.{span, filling, parse_expr}
use Rattle.definitions.specs.Lower.{is_flagged, require_flags, lower_arg, nops, lower_expr, lower_args}
use Rattle.definitions.specs.Code.{Code}
use Rattle.ir.proofs.ArgLaws.{flagged_read}
use Rattle.ir.proofs.Inversion.{expr_moves, fill_nil, fill_cons}
use Rattle.steps.specs.Walked.{marks_from}
use Rattle.scan.specs.Scanned.{Tame, Each, ExprAt, RunAt, BeforeArg, ArgsAt, Paid}
use Rattle.scan.specs.declared.fields.Left.{Left}
use Rattle.scan.proofs.TameLaws.{tame_more, tame_done, tame_emit, tame_mark, tame_then, tame_label, tame_require}
use Rattle.scan.proofs.ExprLaws.{run_in}

-- 1. Runs

-- from `first` on, up to `next`: the items so far, before those of the rest
pub record RunSoFar (d : ℕ) (s : List ℕ) (stop first n next n' : ℕ) (u u' : Left) : Type 0 where
  pub grow : List Expr → List Expr
  pub reads : (xs : List Expr) (m : ℕ) → filling (parse_expr d s) stop next ≡ ok xs m → filling (parse_expr d s) stop first ≡ ok (grow xs) m
  pub count : (xs : List Expr) → n' + length (grow xs) ≡ n + length xs
  pub records : ℕ
  pub labels : ℕ
  pub paid : Paid u u' records labels
  pub each : (xs : List Expr) (a b : ℕ) → Each (exprs_of xs) a b → Each (exprs_of (grow xs)) (records + a) (labels + b)
  pub place : (first ≤ next) × (next ≤ stop)

pub run_start : (d : ℕ) (s : List ℕ) (stop first n : ℕ) (u : Left) → first ≤ stop → RunSoFar d s stop first n first n u u
run_start d s stop first n u h = record {
  grow = λ xs. xs;
  reads = λ xs m e. e;
  count = λ xs. refl;
  records = 0;
  labels = 0;
  paid = (omega arith, omega arith);
  each = λ xs a b e. rw (zero-add a, zero-add b) e;
  place = (omega arith, h);
}

each_cons : (x : Expr) (xs : List Expr) {a b : ℕ} (c d : ℕ) → Tame (lower_expr x) a b → Each (exprs_of xs) c d → Each (exprs_of (x ∷ xs)) (a + c) (b + d)
unfolding Each exprs_of
each_cons x xs {a} {b} c d h e = (a, b, c, d, h, e, refl, refl)

pub run_more : {d : ℕ} {s : List ℕ} {stop first n next n₁ n₂ p : ℕ} {u u₁ u₂ : Left} → RunSoFar d s stop first n next n₁ u u₁ → next < stop → n₂ + 1 ≡ n₁
    → ExprAt d s stop next p u₁ u₂ → RunSoFar d s stop first n p n₂ u u₂
run_more {d} {s} {stop} {next = next} r h e f =
    record {
      grow = λ xs. r.grow (f.tree ∷ xs);
      reads = λ xs m i. r.reads (f.tree ∷ xs) m (fill_cons (parse_expr d s) stop (expr_moves d s stop) next h f.reads i);
      count = λ xs. omega (arith, e, r.count (f.tree ∷ xs));
      records = r.records + f.records;
      labels = r.labels + f.labels;
      paid = (omega (arith, r.paid.0, f.paid.0), omega (arith, r.paid.1, f.paid.1));
      each = λ xs a b i.
          let y : r.records + (f.records + a) ≡ r.records + f.records + a = omega arith in
          let z : r.labels + (f.labels + b) ≡ r.labels + f.labels + b = omega arith in
          rw (y, z) at (r.each (f.tree ∷ xs) (f.records + a) (f.labels + b) (each_cons f.tree xs a b f.tame i));
      place = (omega (arith, r.place.0, f.place), omega (arith, f.place));
    }

each_nil : Each (exprs_of []) 0 0
unfolding Each exprs_of
each_nil = tt

pub run_end : {d : ℕ} {s : List ℕ} {end at stop n next n₁ : ℕ} {u u₁ : Left} → (span s end at ≡ ok stop (at + 4)) × (at + 4 ≤ stop) × (stop ≤ end)
    → RunSoFar d s stop (at + 4) n next n₁ u u₁ → stop ≤ next → RunAt d s end at stop n n₁ u u₁
run_end {d} {s} {end} {at} {stop} {next = next} f r h =
    record {
      trees = r.grow [];
      reads = run_in s end (parse_expr d s) at f.0 (r.reads [] stop (fill_nil (parse_expr d s) stop (expr_moves d s stop) next h));
      count = omega (arith, r.count []);
      records = r.records + 0;
      labels = r.labels + 0;
      paid = (omega (arith, r.paid.0), omega (arith, r.paid.1));
      each = r.each [] 0 0 each_nil;
      place = (omega (arith, f.1), f.2);
    }

-- 2. Arguments

-- the same of arguments, of which the next has number i and its parameter's mark is at p + i
pub record ArgsSoFar (d : ℕ) (s : List ℕ) (stop first p n next i : ℕ) (u u' : Left) : Type 0 where
  pub grow : List Expr → List Expr
  pub reads : (xs : List Expr) (m : ℕ) → filling (parse_expr d s) stop next ≡ ok xs m → filling (parse_expr d s) stop first ≡ ok (grow xs) m
  pub count : (xs : List Expr) → length (grow xs) ≡ i + length xs
  pub flags : (xs : List Expr) → Tame (require_flags (exprs_of xs) i) 0 0 → Tame (require_flags (exprs_of (grow xs)) 0) 0 0
  pub records : ℕ
  pub labels : ℕ
  pub paid : Paid u u' records labels
  pub tame : (site : ℕ) (xs : List Expr) (a b : ℕ) → Tame (lower_args (exprs_of xs) site (marks_from s (p + i) (n - i))) a b → Tame (lower_args (exprs_of (grow xs)) site (marks_from s p n)) (records + a) (labels + b)
  pub place : (next ≤ stop) × (i ≤ n)

pub args_start : (d : ℕ) (s : List ℕ) (stop first p n : ℕ) (u : Left) → first ≤ stop → ArgsSoFar d s stop first p n first 0 u u
args_start d s stop first p n u h = record {
  grow = λ xs. xs;
  reads = λ xs m e. e;
  count = λ xs. omega arith;
  flags = λ xs f. f;
  records = 0;
  labels = 0;
  paid = (omega arith, omega arith);
  tame = λ site xs a b f. let y : p + 0 ≡ p = omega arith in let z : n - 0 ≡ n = omega arith in tame_more (rw (y, z) at f) (omega arith) (omega arith);
  place = (h, omega arith);
}

flags_cons : (x : Expr) (xs : List Expr) (i : ℕ) → (15 < i → is_flagged x ≡ false) → Tame (require_flags (exprs_of xs) (i + 1)) 0 0 → Tame (require_flags (exprs_of (x ∷ xs)) i) 0 0
unfolding require_flags exprs_of
flags_cons x xs i h t = tame_then (tame_require _ _ _ _ (go (is_flagged x) refl)) t
  where
    go : (b : Bool) → is_flagged x ≡ b → (not b || ltb i 16) ≡ true
    go false e = refl
    go true e = elim (dec_lt i 16) [ yes l ↦ lt-ltb i 16 l | no l ↦ absurd (true≢false (sym e ∙ h (omega arith))) ]

arg_tame : (site mark : ℕ) {p : Code} {a b : ℕ} → Tame p a b → Tame (lower_arg site mark p) (mark + a) (mark + b)
unfolding lower_arg
arg_tame site zero t = tame_more t (omega arith) (omega arith)
arg_tame site (suc m) t = tame_more (tame_label (λ l. tame_then tame_emit (tame_then t tame_mark))) (omega arith) (omega arith)

args_cons : (s : List ℕ) (site p n : ℕ) (x : Expr) (xs : List Expr) {a b c d : ℕ} → Tame (lower_expr x) a b → Tame (lower_args (exprs_of xs) site (marks_from s (p + 1) n)) c d
    → Tame (lower_args (exprs_of (x ∷ xs)) site (marks_from s p (suc n))) (get_or s p 0 + a + c) (get_or s p 0 + b + d)
unfolding lower_expr exprs_of marks_from
args_cons s site p n x xs h t = tame_then (arg_tame site (get_or s p 0) h) t

pub args_more : {d : ℕ} {s : List ℕ} {stop first p n next i e : ℕ} {u u₁ u₂ u₃ : Left} → ArgsSoFar d s stop first p n next i u u₁ → next < stop → BeforeArg s next i p n u₁ u₂
    → ExprAt d s stop next e u₂ u₃ → ArgsSoFar d s stop first p n e (i + 1) u u₃
args_more {d} {s} {stop} {first} {p} {n} {next = next} {i = i} {e = e} r h c f =
    record {
      grow = λ xs. r.grow (f.tree ∷ xs);
      reads = λ xs m i. r.reads (f.tree ∷ xs) m (fill_cons (parse_expr d s) stop (expr_moves d s stop) next h f.reads i);
      count = λ xs. omega (arith, r.count (f.tree ∷ xs));
      flags = λ xs t. r.flags (f.tree ∷ xs) (flags_cons f.tree xs i (λ j. sym (flagged_read s next d stop e f.tree f.reads) ∙ c.plain j) t);
      records = r.records + (get_or s (p + i) 0 + f.records);
      labels = r.labels + (get_or s (p + i) 0 + f.labels);
      paid = (omega (arith, r.paid.0, c.paid.0, f.paid.0), omega (arith, r.paid.1, c.paid.1, f.paid.1));
      tame = λ site xs a b t.
          let u : n - i ≡ suc (n - (i + 1)) = omega (arith, c.there) in
          let v : p + (i + 1) ≡ p + i + 1 = omega arith in
          tame_more (r.tame site (f.tree ∷ xs) (get_or s (p + i) 0 + f.records + a) (get_or s (p + i) 0 + f.labels + b) (rw u (args_cons s site (p + i) (n - (i + 1)) f.tree xs f.tame (rw v at t)))) (omega arith) (omega arith);
      place = (omega (arith, f.place), omega (arith, c.there));
    }

nops_tame : (s : List ℕ) (site p n : ℕ) → Tame (nops site (marks_from s p n)) n 0
unfolding nops marks_from
nops_tame s site p zero = tame_done
nops_tame s site p (suc n) = tame_more (tame_then tame_emit (nops_tame s site (p + 1) n)) (omega arith) (omega arith)

args_nil : (s : List ℕ) (site p n : ℕ) → Tame (lower_args (exprs_of []) site (marks_from s p n)) n 0
unfolding lower_expr exprs_of
args_nil s site p n = nops_tame s site p n

flags_nil : (i : ℕ) → Tame (require_flags (exprs_of []) i) 0 0
unfolding require_flags exprs_of
flags_nil i = tame_done

pub args_end : {d : ℕ} {s : List ℕ} {stop first p n next i : ℕ} {u u₁ u₂ : Left} → ArgsSoFar d s stop first p n next i u u₁ → stop ≤ next → Paid u₁ u₂ (n - i) 0 → ArgsAt d s stop first p n u u₂
args_end {d} {s} {stop} {first} {p} {n} {next = next} {i = i} r h u = record {
  trees = r.grow [];
  reads = r.reads [] stop (fill_nil (parse_expr d s) stop (expr_moves d s stop) next h);
  few = omega (arith, r.count [], r.place.1);
  flags = r.flags [] (flags_nil i);
  records = r.records + (n - i);
  labels = r.labels + 0;
  paid = (omega (arith, u.0, r.paid.0), omega (arith, u.1, r.paid.1));
  tame = λ site. r.tame site [] (n - i) 0 (args_nil s site (p + i) (n - i));
}
