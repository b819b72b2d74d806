-- What the scan says of the bytes. Where it gives None it says nothing: the plain reader and the walk into empty buffers decide.
use Rattle.std.specs.Prelude.{ℕ, zero, suc, ◌+◌, ◌≤◌, ◌<◌, Bool, false, cond, ◌&&◌, List, ◌≡◌, eqb, ltb, length, get_or}
use Rattle.std.proofs.Math.Option.{some}
use Rattle.definitions.specs.Answer.{ok, made}
use Rattle.definitions.specs.Tree.{Callee, Expr, Exprs, Stmt, Block, Cases, Script, const, enil, econs, cnil, ccons, exprs_of, block_of, cases_of, branches_of}
use Rattle.definitions.specs.Read.{parse_expr, parse_stmt, parse_unit, filling, arm}
use Rattle.definitions.specs.Read as read
use Rattle.definitions.specs.Code.{Code, State, label_limit, execute}
use Rattle.definitions.specs.Lower.{BlockSpan, lower_expr, lower_args, lower_stmt, lower_block, emit_call, lower_branches, default_instrs, require_flags, ends_group, code_of}
use Rattle.ir.specs.Args.{flagged_at}
use Rattle.steps.specs.Walked.{marks_from}
use Rattle.scan.specs.declared.fields.Left.{Left}
use Rattle.scan.specs.declared.stmts.Inside.{Inside}
use Rattle.scan.specs.declared.stmts.Inside.TheVariants.{Nothing, Switch, Loop}

-- 1. Code that is not refused

-- from any state with room for so many labels, the code is run to its end, with at most so many records and labels more
pub record Tame (p : Code) (records labels : ℕ) : Type 0 where
  pub runs : (t : State) → length t.marks + labels ≤ label_limit →
      (u : State) × (execute p t ≡ made u) × (length u.instrs ≤ length t.instrs + records) × (length u.marks ≤ length t.marks + labels)

-- each expression of a list, and what they take together
unfoldable pub Each : Exprs → (records labels : ℕ) → Type 0
Each enil a b = Unit {0}
Each (econs e es) a b = (a₁ : ℕ) × (b₁ : ℕ) × (a₂ : ℕ) × (b₂ : ℕ) × Tame (lower_expr e) a₁ b₁ × Each es a₂ b₂ × (a₁ + a₂ ≡ a) × (b₁ + b₂ ≡ b)

-- what a statement stands in, as a number: each takes what those below it take
abbrev pub number_of : Inside → ℕ
number_of Nothing = 0
number_of Switch = 1
number_of Loop = 2

-- a span that takes a break where `inside` is 1 or 2, and a continue where it is 2
pub record Allows (span : BlockSpan) (returns inside : ℕ) : Type 0 where
  pub same : span.returns ≡ returns
  pub breaks : 0 < inside → (l : ℕ) × (span.break_target ≡ some l)
  pub continues : 1 < inside → (l : ℕ) × (span.continue_target ≡ some l)

-- in a switch, break has somewhere to go
unfoldable pub within : (inside : ℕ) → ℕ
within zero = 1
within (suc n) = suc n

abbrev pub BlockTame : Block → (returns inside records labels : ℕ) → Type 0
BlockTame b returns inside a l = (span : BlockSpan) → Allows span returns inside → Tame (lower_block b span) a l

-- the matchers of cases and the blocks of cases, and what each take together
unfoldable pub EachCase : Cases → (returns inside records labels records' labels' : ℕ) → Type 0
EachCase cnil returns inside a b c d = Unit {0}
EachCase (ccons m k cs) returns inside a b c d =
    (a₁ : ℕ) × (b₁ : ℕ) × (c₁ : ℕ) × (d₁ : ℕ) × (a₂ : ℕ) × (b₂ : ℕ) × (c₂ : ℕ) × (d₂ : ℕ) ×
    Tame (lower_expr m) a₁ b₁ × BlockTame k returns inside c₁ d₁ × EachCase cs returns inside a₂ b₂ c₂ d₂ ×
    (a₁ + a₂ ≡ a) × (b₁ + b₂ ≡ b) × (c₁ + c₂ ≡ c) × (d₁ + d₂ ≡ d)

-- how many groups cases have: one for each case that ends one
unfoldable pub groups_of : Cases → ℕ
groups_of cnil = 0
groups_of (ccons m k cs) = cond (ends_group k cs) 1 0 + groups_of cs

-- 2. What is found, where `u` is what was left before, and `u'` what is left after

-- so many records and labels were paid
abbrev pub Paid : (u u' : Left) (records labels : ℕ) → Type 0
Paid u u' records labels = (u'.records + records ≡ u.records) × (u'.labels + labels ≡ u.labels)

-- a constant at `at`, up to r, whichever node it is in
pub record ConstAt (s : List ℕ) (stop at r : ℕ) : Type 0 where
  pub byte : ℕ
  pub value : ℕ
  pub reads : (site : ℕ) → read.as_const s site stop at ≡ ok (const site byte value) r
  pub place : r ≤ stop

-- n bytes are marks
abbrev pub all_marks : (s : List ℕ) (at n : ℕ) → Type 0
all_marks s at n = (k : ℕ) → k < n → get_or s (at + k) 0 < 2

-- an expression at `at`, up to r
pub record ExprAt (d : ℕ) (s : List ℕ) (end at r : ℕ) (u u' : Left) : Type 0 where
  pub tree : Expr
  pub reads : parse_expr d s end at ≡ ok tree r
  pub records : ℕ
  pub labels : ℕ
  pub paid : Paid u u' records labels
  pub tame : Tame (lower_expr tree) records labels
  pub place : (at < r) × (r ≤ end)

-- what the kind of the expression at `at` asks, which ends at `stop`; a record was paid before
pub record BodyAt (d : ℕ) (s : List ℕ) (stop at r : ℕ) (u u' : Left) : Type 0 where
  pub tree : Expr
  pub reads : read.expr_body s (parse_expr d s) (get_or s (at + 4) 0) at stop (at + 5) ≡ ok tree r
  pub records : ℕ
  pub labels : ℕ
  pub paid : Paid u u' records labels
  pub tame : Tame (lower_expr tree) (1 + records) labels

-- a run of expressions at `at`, up to r; `n` of them might have been there, `n'` more might be
pub record RunAt (d : ℕ) (s : List ℕ) (end at r n n' : ℕ) (u u' : Left) : Type 0 where
  pub trees : List Expr
  pub reads : read.run s end (parse_expr d s) at ≡ ok trees r
  pub count : n' + length trees ≡ n
  pub records : ℕ
  pub labels : ℕ
  pub paid : Paid u u' records labels
  pub each : Each (exprs_of trees) records labels
  pub place : (at < r) × (r ≤ end)

-- argument k, which stands at `at`, has a parameter, of which `mark` is paid, and is not flagged from index 16 on
pub record BeforeArg (s : List ℕ) (at k p n : ℕ) (u u' : Left) : Type 0 where
  pub there : k < n
  pub plain : (15 < k) → flagged_at s at ≡ false
  pub paid : Paid u u' (get_or s (p + k) 0) (get_or s (p + k) 0)

-- arguments from `at` to `stop`, for n parameters, whose marks begin at p
pub record ArgsAt (d : ℕ) (s : List ℕ) (stop at p n : ℕ) (u u' : Left) : Type 0 where
  pub trees : List Expr
  pub reads : filling (parse_expr d s) stop at ≡ ok trees stop
  pub few : length trees ≤ n
  pub flags : Tame (require_flags (exprs_of trees) 0) 0 0
  pub records : ℕ
  pub labels : ℕ
  pub paid : Paid u u' records labels
  pub tame : (site : ℕ) → Tame (lower_args (exprs_of trees) site (marks_from s p n)) records labels

-- the fields of a function at p and its arguments, which end at r, whichever node they are in; a record was paid before
pub record CallAt (d : ℕ) (s : List ℕ) (stop p r : ℕ) (u u' : Left) : Type 0 where
  pub function : Callee
  pub args : Exprs
  pub first : ℕ
  pub callee : (site : ℕ) → read.callee s site stop p ≡ ok function first
  pub reads : (site : ℕ) → read.arguments s (parse_expr d s) site stop (length function.params) first ≡ ok args r
  pub records : ℕ
  pub labels : ℕ
  pub paid : Paid u u' records labels
  pub tame : (site : ℕ) → Tame (emit_call site function args (lower_args args site function.params)) (1 + records) labels

-- a block at `at`, up to r
pub record BlockAt (d : ℕ) (s : List ℕ) (end at r returns inside : ℕ) (u u' : Left) : Type 0 where
  pub trees : List Stmt
  pub reads : read.run s end (parse_stmt d s) at ≡ ok trees r
  pub items : filling (parse_stmt d s) r (at + 4) ≡ ok trees r
  pub records : ℕ
  pub labels : ℕ
  pub paid : Paid u u' records labels
  pub tame : BlockTame (block_of trees) returns inside records labels
  pub place : (at < r) × (r ≤ end)

-- a statement at `at`, up to r
pub record StatementAt (d : ℕ) (s : List ℕ) (end at r returns inside : ℕ) (u u' : Left) : Type 0 where
  pub tree : Stmt
  pub reads : parse_stmt d s end at ≡ ok tree r
  pub records : ℕ
  pub labels : ℕ
  pub paid : Paid u u' records labels
  pub tame : (span : BlockSpan) → Allows span returns inside → Tame (lower_stmt tree span) records labels
  pub place : (at < r) × (r ≤ end)

-- what the kind of the statement at `at` asks, which ends at `stop`
pub record StmtAt (d : ℕ) (s : List ℕ) (stop at r returns inside : ℕ) (u u' : Left) : Type 0 where
  pub tree : Stmt
  pub reads : read.stmt_body s (parse_expr d s) (parse_stmt d s) (get_or s (at + 4) 0) at stop (at + 5) ≡ ok tree r
  pub records : ℕ
  pub labels : ℕ
  pub paid : Paid u u' records labels
  pub tame : (span : BlockSpan) → Allows span returns inside → Tame (lower_stmt tree span) records labels

-- how many records an InitDefault emits, by its byte
abbrev pub default_count : (byte : ℕ) → ℕ
default_count b = length (default_instrs 0 0 b 0)

-- a switch with a mid default
abbrev pub is_mid : (index mark : ℕ) → List (Expr × Block) → Bool
is_mid index mark arms = eqb mark 1 && ltb index (length arms)

-- the run of branches at `at`, up to r: the rule of each
pub record ArmsAt (d : ℕ) (s : List ℕ) (end at r returns inside : ℕ) (u u' : Left) : Type 0 where
  pub arms : List (Expr × Block)
  pub reads : read.run s end (arm s (parse_expr d s) (parse_stmt d s)) at ≡ ok arms r
  pub records : ℕ
  pub labels : ℕ
  pub paid : Paid u u' records labels
  pub tame : (site next exit : ℕ) (span : BlockSpan) → Allows span returns inside → Tame (lower_branches (branches_of arms) site next exit span) records labels
  pub place : (at < r) × (r ≤ end)

-- the run of cases at `at`, up to r, of a switch whose default has this mark and this index: a record each, the labels of the layout, and
-- the Jump of a mid default
pub record CasesAt (d : ℕ) (s : List ℕ) (end at r returns inside index mark : ℕ) (u u' : Left) : Type 0 where
  pub arms : List (Expr × Block)
  pub reads : read.run s end (arm s (parse_expr d s) (parse_stmt d s)) at ≡ ok arms r
  -- of the matchers, and of the blocks
  pub records : ℕ
  pub labels : ℕ
  pub records' : ℕ
  pub labels' : ℕ
  pub each : EachCase (cases_of arms) returns inside records labels records' labels'
  pub paid : Paid u u' (records + records' + (length arms + cond (is_mid index mark arms) 1 0)) (labels + labels' + (length arms + cond (is_mid index mark arms) (length arms + 1) (groups_of (cases_of arms))))
  pub place : (at < r) × (r ≤ end)

-- 3. The unit

-- it reads, its walk is not refused, and it takes no more than so many records and labels
pub record Fits (s : List ℕ) (records labels : ℕ) : Type 0 where
  pub tree : Script
  pub next : ℕ
  pub reads : parse_unit s ≡ ok tree next
  pub tame : Tame (code_of tree) records labels
