-- The number of each kind in a unit, and what a byte stands for.
use Rattle.std.specs.Prelude.{◌≡◌, ℕ, ◌<◌, ◌⊎◌, Result, MatchResult}
use Rattle.ir.specs.declared.UnknownKind.{UnknownKind}
use Rattle.ir.specs.declared.expr.ExprKind.{ExprKind}
use Rattle.ir.specs.declared.expr.ExprKind.TheVariants as expr
use Rattle.ir.specs.declared.stmt.StmtKind.{StmtKind}
use Rattle.ir.specs.declared.stmt.StmtKind.TheVariants as stmt

abbrev pub expr_code : ExprKind → ℕ
expr_code expr.Nop = 1
expr_code expr.Const = 2
expr_code expr.Null = 3
expr_code expr.NewInstance = 4
expr_code expr.Construct = 5
expr_code expr.Assign = 6
expr_code expr.Field = 7
expr_code expr.Index = 8
expr_code expr.Conditional = 9
expr_code expr.DynCast = 10
expr_code expr.Local = 11
expr_code expr.IntrinsicCall = 12
expr_code expr.FreeCall = 13
expr_code expr.StaticCall = 14
expr_code expr.InstanceCall = 15
expr_code expr.ClosureCall = 16

abbrev pub stmt_code : StmtKind → ℕ
stmt_code stmt.Expr = 1
stmt_code stmt.Block = 2
stmt_code stmt.While = 3
stmt_code stmt.Branches = 4
stmt_code stmt.Switch = 5
stmt_code stmt.InitArray = 6
stmt_code stmt.InitDefault = 7
stmt_code stmt.Break = 8
stmt_code stmt.Continue = 9
stmt_code stmt.Return = 10

-- the kinds are numbered from 1 to `last`
abbrev pub IsUnlisted : (last code : ℕ) → Type 0
IsUnlisted last code = (code ≡ 0) ⊎ (last < code)

-- the kind with this code, or the code, if no kind has it
abbrev pub ExprDecodes : ℕ → Result ExprKind UnknownKind → Type 0
ExprDecodes code r = MatchResult r (λ kind. expr_code kind ≡ code) (λ e. (e.0 ≡ code) × IsUnlisted 16 code)

abbrev pub StmtDecodes : ℕ → Result StmtKind UnknownKind → Type 0
StmtDecodes code r = MatchResult r (λ kind. stmt_code kind ≡ code) (λ e. (e.0 ≡ code) × IsUnlisted 10 code)
