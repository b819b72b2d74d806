-- What the loops over statements, branches and cases know: what was read and paid so far, whatever follows. Assumes nothing.
use Prim.Native.Nat.{ℕ, ◌+◌, ◌≤◌, ◌<◌}
use mathlib.Core.Bool.{Bool, true, cond, ◌&&◌}
use mathlib.Core.List.{List, [], ◌∷◌, ◌++◌, append-nil, append_assoc}
use mathlib.Core.Path.{◌≡◌, refl, ap, sym, ◌∙◌}
use native.Mathlib.Omega.{arith}
use native.Mathlib.Nat.{add_assoc}
use lib.Dec.{eqb, ltb}
use lib.ListN.{length}
use Rattle.definitions.specs.Answer.{ok}
use Rattle.definitions.specs.Tree.{Expr, Stmt, Block, Cases, bnil, bcons, cnil, block_of, branches_of, cases_of}
use Rattle.definitions.specs.Read.{Parser, span, filling, arm, parse_expr, parse_stmt}
use Rattle.definitions.specs.Lower.{BlockSpan, lower_block, lower_branches, ends_group}
use Rattle.ir.proofs.Inversion.{stmt_moves, fill_some, fill_none}
use Rattle.ir.proofs.StmtPlaces.{arm_moves}
use Rattle.scan.specs.Scanned.{Tame, Allows, BlockTame, EachCase, groups_of, ExprAt, BlockAt, StatementAt, ArmsAt, CasesAt, Paid}
use Rattle.scan.specs.declared.fields.Left.{Left}
use Rattle.scan.proofs.TameLaws.{tame_more, tame_done, tame_then, length_more}
use Rattle.scan.proofs.Prefix.{Before, before_none, before_one, before_all}
use Rattle.scan.proofs.ExprLaws.{run_in}
use Rattle.scan.proofs.StmtLaws.{branch_tame}
use Rattle.scan.proofs.StmtReads.{arm_in}

-- 1. Statements

pub record Stmts (d : ℕ) (s : List ℕ) (stop first next returns inside : ℕ) (u u' : Left) : Type 0 where
  pub trees : List Stmt
  pub before : Before (parse_stmt d s) stop first next trees
  pub records : ℕ
  pub labels : ℕ
  pub paid : Paid u u' records labels
  pub grow : (ys : List Stmt) (a b : ℕ) → BlockTame (block_of ys) returns inside a b → BlockTame (block_of (trees ++ ys)) returns inside (records + a) (labels + b)
  pub place : next ≤ stop

pub stmts_none : (d : ℕ) (s : List ℕ) (stop first returns inside : ℕ) (u : Left) → first ≤ stop → Stmts d s stop first first returns inside u u
stmts_none d s stop first returns inside u h = record {
  trees = [];
  before = before_none (parse_stmt d s) stop first;
  records = 0;
  labels = 0;
  paid = (omega arith, omega arith);
  grow = λ ys a b z span g. tame_more (z span g) (omega arith) (omega arith);
  place = h;
}

pub stmts_one : {d : ℕ} {s : List ℕ} {stop first next n returns inside : ℕ} {u u₁ u₂ : Left} → Stmts d s stop first next returns inside u u₁ → next < stop → StatementAt d s stop next n returns inside u₁ u₂
    → Stmts d s stop first n returns inside u u₂
unfolding block_of lower_block
stmts_one {d} {s} {stop} {next = next} h i x = record {
  trees = h.trees ++ (x.tree ∷ []);
  before = before_one (parse_stmt d s) stop (stmt_moves d s stop) h.before i x.reads;
  records = h.records + x.records;
  labels = h.labels + x.labels;
  paid = (omega (arith, h.paid.0, x.paid.0), omega (arith, h.paid.1, x.paid.1));
  grow = λ ys a b w span g. rw (append_assoc h.trees (x.tree ∷ []) ys)
      (tame_more (h.grow (x.tree ∷ ys) (x.records + a) (x.labels + b) (λ span' g'. tame_then (x.tame span' g') (w span' g')) span g) (omega arith) (omega arith));
  place = x.place.1;
}

pub stmts_all : {d : ℕ} {s : List ℕ} {stop next returns inside : ℕ} {u u' : Left} (end at : ℕ) → Stmts d s stop (at + 4) next returns inside u u' → stop ≤ next → (span s end at ≡ ok stop (at + 4)) × (at + 4 ≤ stop) × (stop ≤ end)
    → BlockAt d s end at stop returns inside u u'
unfolding block_of lower_block
stmts_all {d} {s} {stop} end at h i f = record {
  trees = h.trees;
  reads = run_in s end (parse_stmt d s) at f.0 (before_all (parse_stmt d s) stop (stmt_moves d s stop) h.before i);
  items = before_all (parse_stmt d s) stop (stmt_moves d s stop) h.before i;
  records = h.records;
  labels = h.labels;
  paid = h.paid;
  tame = λ span g. let z = h.grow [] 0 0 (λ span' g'. tame_done) span g in tame_more (rw (append-nil h.trees) at z) (omega arith) (omega arith);
  place = (omega (arith, f.1), f.2);
}

-- 2. Branches

abbrev arm_of : (d : ℕ) (s : List ℕ) → ℕ → Parser (Expr × Block)
arm_of d s = arm s (parse_expr d s) (parse_stmt d s)

abbrev pub BranchesTame : List (Expr × Block) → (returns inside records labels : ℕ) → Type 0
BranchesTame bs returns inside a b = (site next exit : ℕ) (span : BlockSpan) → Allows span returns inside → Tame (lower_branches (branches_of bs) site next exit span) a b

pub record Arms (d : ℕ) (s : List ℕ) (stop first next returns inside : ℕ) (u u' : Left) : Type 0 where
  pub arms : List (Expr × Block)
  pub before : Before (arm_of d s) stop first next arms
  pub records : ℕ
  pub labels : ℕ
  pub paid : Paid u u' records labels
  pub grow : (ys : List (Expr × Block)) (a b : ℕ) → BranchesTame ys returns inside a b → BranchesTame (arms ++ ys) returns inside (records + a) (labels + b)
  pub place : next ≤ stop

pub arms_none : (d : ℕ) (s : List ℕ) (stop first returns inside : ℕ) (u : Left) → first ≤ stop → Arms d s stop first first returns inside u u
arms_none d s stop first returns inside u h = record {
  arms = [];
  before = before_none (arm_of d s) stop first;
  records = 0;
  labels = 0;
  paid = (omega arith, omega arith);
  grow = λ ys a b z site next exit span g. tame_more (z site next exit span g) (omega arith) (omega arith);
  place = h;
}

-- an arm: its test at `next` and its block behind it. Two records and a label are its own
pub arms_one : {d : ℕ} {s : List ℕ} {stop first next returns inside : ℕ} {u u' : Left} → Arms d s stop first next returns inside u u' → next < stop
    → (m n : ℕ) (u₁ u₂ u₃ : Left) → Paid u' u₁ 2 1 → ExprAt d s stop next m u₁ u₂ → BlockAt d s stop m n returns inside u₂ u₃
    → Arms d s stop first n returns inside u u₃
unfolding branches_of
arms_one {d} {s} {stop} {next = next} h i m n u₁ u₂ u₃ u x y = record {
  arms = h.arms ++ ((x.tree, block_of y.trees) ∷ []);
  before = before_one (arm_of d s) stop (arm_moves d s stop) h.before i (arm_in s (parse_expr d s) (parse_stmt d s) stop next m n x.reads y.reads);
  records = h.records + (2 + x.records + y.records);
  labels = h.labels + (1 + x.labels + y.labels);
  paid = (omega (arith, h.paid.0, u.0, x.paid.0, y.paid.0), omega (arith, h.paid.1, u.1, x.paid.1, y.paid.1));
  grow = λ ys a b w site next' exit span g. rw (append_assoc h.arms ((x.tree, block_of y.trees) ∷ []) ys)
      (tame_more (h.grow ((x.tree, block_of y.trees) ∷ ys) (2 + x.records + y.records + a) (1 + x.labels + y.labels + b)
      (λ site' next'' exit' span' g'. branch_tame x.tree (block_of y.trees) (branches_of ys) site' next'' exit' span' x.records x.labels y.records y.labels a b x.tame (y.tame span' g')
      (λ next'''. w site' next''' exit' span' g')) site next' exit span g) (omega arith) (omega arith));
  place = y.place.1;
}

pub arms_all : {d : ℕ} {s : List ℕ} {stop next returns inside : ℕ} {u u' : Left} (end at : ℕ) → Arms d s stop (at + 4) next returns inside u u' → stop ≤ next → (span s end at ≡ ok stop (at + 4)) × (at + 4 ≤ stop) × (stop ≤ end)
    → ArmsAt d s end at stop returns inside u u'
unfolding branches_of lower_branches
arms_all {d} {s} {stop} end at h i f = record {
  arms = h.arms;
  reads = run_in s end (arm_of d s) at f.0 (before_all (arm_of d s) stop (arm_moves d s stop) h.before i);
  records = h.records;
  labels = h.labels;
  paid = h.paid;
  tame = λ site next exit span g. let z = h.grow [] 0 0 (λ site' next' exit' span' g'. tame_done) site next exit span g in tame_more (rw (append-nil h.arms) at z) (omega arith) (omega arith);
  place = (omega (arith, f.1), f.2);
}

-- 3. Cases

-- how many of n cases so far end their groups: one without a block does not, unless nothing follows
pub record Cased (d : ℕ) (s : List ℕ) (stop first next returns inside count groups : ℕ) (u u' : Left) : Type 0 where
  pub arms : List (Expr × Block)
  pub before : Before (arm_of d s) stop first next arms
  pub long : length arms ≡ count
  pub few : (groups ≤ count) × (count ≤ next)
  pub ends : (ys : List (Expr × Block)) → (next < stop → 0 < length ys) → (stop ≤ next → ys ≡ []) → groups_of (cases_of (arms ++ ys)) ≡ groups + groups_of (cases_of ys)
  pub records : ℕ
  pub labels : ℕ
  pub records' : ℕ
  pub labels' : ℕ
  pub paid : Paid u u' (records + records') (labels + labels')
  pub grow : (ys : List (Expr × Block)) (a b c e : ℕ) → EachCase (cases_of ys) returns inside a b c e → EachCase (cases_of (arms ++ ys)) returns inside (records + a) (labels + b) (records' + c) (labels' + e)
  pub place : next ≤ stop

pub cased_none : (d : ℕ) (s : List ℕ) (stop first returns inside : ℕ) (u : Left) → first ≤ stop → Cased d s stop first first returns inside 0 0 u u
cased_none d s stop first returns inside u h = record {
  arms = [];
  before = before_none (arm_of d s) stop first;
  long = refl;
  few = (omega arith, omega arith);
  ends = λ ys i j. omega arith;
  records = 0;
  labels = 0;
  records' = 0;
  labels' = 0;
  paid = (omega arith, omega arith);
  grow = λ ys a b c e z. rw (zeros a, zeros b, zeros c, zeros e) z;
  place = h;
}
  where
    zeros : (a : ℕ) → 0 + a ≡ a
    zeros a = omega arith

-- a block that is longer than its length has a statement
has_statement : (d : ℕ) (s : List ℕ) (at r : ℕ) (xs : List Stmt) → filling (parse_stmt d s) r (at + 4) ≡ ok xs r → at + 4 < r → (cs : Cases) → ends_group (block_of xs) cs ≡ true
unfolding block_of ends_group
has_statement d s at r xs e l cs = let z = fill_some (parse_stmt d s) r (stmt_moves d s r) (at + 4) l e in rw z.4 refl

-- any other has none
no_statement : (d : ℕ) (s : List ℕ) (at r : ℕ) (xs : List Stmt) → filling (parse_stmt d s) r (at + 4) ≡ ok xs r → r ≤ at + 4 → xs ≡ []
no_statement d s at r xs e l = (fill_none (parse_stmt d s) r (stmt_moves d s r) (at + 4) l e).0

last_ends : (k : Block) → ends_group k cnil ≡ true
unfolding ends_group
last_ends bnil = refl
last_ends (bcons s b) = refl

-- does a case end its group, seen from what follows it: 1 if it does
abbrev Ending : (xs : List Stmt) (stop n g : ℕ) → Type 0
Ending xs stop n g = (ys : List (Expr × Block)) → (n < stop → 0 < length ys) → (stop ≤ n → ys ≡ []) → cond (ends_group (block_of xs) (cases_of ys)) 1 0 ≡ g

pub ends_by_block : {d : ℕ} {s : List ℕ} {stop m n returns inside : ℕ} {u u' : Left} (y : BlockAt d s stop m n returns inside u u') → m + 4 < n → Ending y.trees stop n 1
ends_by_block {d} {s} {m = m} {n} y h ys i j = ap (λ b. cond b 1 0) (has_statement d s m n y.trees y.items h (cases_of ys))

pub ends_at_last : {d : ℕ} {s : List ℕ} {stop m n returns inside : ℕ} {u u' : Left} (y : BlockAt d s stop m n returns inside u u') → n ≡ stop → Ending y.trees stop n 1
unfolding cases_of
ends_at_last y h ys i j = let z : ys ≡ [] = j (omega (arith, h)) in rw z (ap (λ b. cond b 1 0) (last_ends (block_of y.trees)))

pub goes_on : {d : ℕ} {s : List ℕ} {stop m n returns inside : ℕ} {u u' : Left} (y : BlockAt d s stop m n returns inside u u') → n ≤ m + 4 → n < stop → Ending y.trees stop n 0
unfolding cases_of block_of ends_group
goes_on {d} {s} {m = m} {n} y h l [] i j = absurd (omega (arith, i l))
goes_on {d} {s} {m = m} {n} y h l (x ∷ ys) i j = rw (no_statement d s m n y.trees y.items h) refl

pub cased_one : {d : ℕ} {s : List ℕ} {stop first next returns inside count groups : ℕ} {u u₁ : Left} → Cased d s stop first next returns inside count groups u u₁ → next < stop
    → (m n g groups' : ℕ) (u₂ u₃ : Left) → ExprAt d s stop next m u₁ u₂ → (y : BlockAt d s stop m n returns inside u₂ u₃) → Ending y.trees stop n g → g ≤ 1 → groups' ≡ groups + g
    → Cased d s stop first n returns inside (count + 1) groups' u u₃
unfolding cases_of EachCase groups_of
cased_one {d} {s} {stop} {next = next} {groups = groups} h i m n u₂ u₃ g groups' x y end j eq =
    let z : Expr × Block = (x.tree, block_of y.trees) in
    record {
      arms = h.arms ++ (z ∷ []);
      before = before_one (arm_of d s) stop (arm_moves d s stop) h.before i (arm_in s (parse_expr d s) (parse_stmt d s) stop next m n x.reads y.reads);
      long = omega (arith, length_more h.arms z, h.long);
      few = (omega (arith, h.few.0, j, eq), omega (arith, h.few.1, x.place.0, y.place.0));
      ends = λ ys p q. rw (append_assoc h.arms (z ∷ []) ys) (h.ends (z ∷ ys) (λ _. omega arith) (λ w. absurd (omega (arith, w, i))) ∙ omega (arith, end ys p q, eq));
      records = h.records + x.records;
      labels = h.labels + x.labels;
      records' = h.records' + y.records;
      labels' = h.labels' + y.labels;
      paid = (omega (arith, h.paid.0, x.paid.0, y.paid.0), omega (arith, h.paid.1, x.paid.1, y.paid.1));
      grow = λ ys a b c e w. rw (append_assoc h.arms (z ∷ []) ys, add_assoc h.records x.records a, add_assoc h.labels x.labels b, add_assoc h.records' y.records c, add_assoc h.labels' y.labels e)
          (h.grow (z ∷ ys) (x.records + a) (x.labels + b) (y.records + c) (y.labels + e)
          (x.records, x.labels, y.records, y.labels, a, b, c, e, x.tame, y.tame, w, refl, refl, refl, refl));
      place = y.place.1;
    }

pub cased_all : {d : ℕ} {s : List ℕ} {stop next returns inside count groups : ℕ} {u u₁ : Left} (end at index mark : ℕ) (u' : Left) → Cased d s stop (at + 4) next returns inside count groups u u₁ → stop ≤ next
    → (span s end at ≡ ok stop (at + 4)) × (at + 4 ≤ stop) × (stop ≤ end) → (mid : Bool) → mid ≡ (eqb mark 1 && ltb index count)
    → Paid u₁ u' (count + cond mid 1 0) (count + cond mid (count + 1) groups) → CasesAt d s end at stop returns inside index mark u u'
unfolding cases_of EachCase groups_of
cased_all {d} {s} {stop} {groups = groups} end at index mark u' h i f mid r u =
    let z = h.grow [] 0 0 0 0 tt in
    let same : (eqb mark 1 && ltb index (length h.arms)) ≡ mid = rw h.long (sym r) in
    let gs : groups_of (cases_of h.arms) ≡ groups = rw (append-nil h.arms) at (h.ends [] (λ w. absurd (omega (arith, w, i))) (λ _. refl)) ∙ omega arith in
    record {
      arms = h.arms;
      reads = run_in s end (arm_of d s) at f.0 (before_all (arm_of d s) stop (arm_moves d s stop) h.before i);
      records = h.records + 0;
      labels = h.labels + 0;
      records' = h.records' + 0;
      labels' = h.labels' + 0;
      each = rw (append-nil h.arms) at z;
      paid = rw (same, h.long, gs) (omega (arith, h.paid.0, u.0), omega (arith, h.paid.1, u.1));
      place = (omega (arith, f.1), f.2);
    }
