-- A byte that is known to stand for one kind is the number of that kind. Assumes nothing.
use Rattle.std.proofs.Common.{◌≡◌, ℕ, sym, ap, ◌∙◌}
use Rattle.ir.specs.Kinds.{expr_code, stmt_code}
use Rattle.ir.specs.declared.expr.ExprKind.{ExprKind}
use Rattle.ir.specs.declared.stmt.StmtKind.{StmtKind}

pub expr_is : {kind k : ExprKind} {n : ℕ} → expr_code kind ≡ n → kind ≡ k → n ≡ expr_code k
expr_is e h = sym e ∙ ap expr_code h

pub stmt_is : {kind k : StmtKind} {n : ℕ} → stmt_code kind ≡ n → kind ≡ k → n ≡ stmt_code k
stmt_is e h = sym e ∙ ap stmt_code h
