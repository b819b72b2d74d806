use mathlib.Core.Logic.{inl, inr}
use Rattle.std.proofs.lemmas.Option.{IfSome_then}
use Rattle.scan.proofs.StmtFound.{nothing_found, return_found, own_pays}
use Rattle.scan.proofs.fields.Holder.returned.Goals as goal
use Rattle.scan.proofs.fields.Holder.returned.Goals.{then-returns-eq0, else-returns-eq0}

pub returns-then-self-at-eq0 : goal.returns-then-self-at-eq0
returns-then-self-at-eq0 c = nothing_found _ _ _ _ c.requires.1 c.in_ok-value.ensures c.if-self-at-eq0.true c.in_ok-pay_records.ensures

pub returns : goal.returns
returns c =
    IfSome_then _ c.expr.ensures (λ _. return_found _ _ _ _ _ c.requires.1 c.in_ok-value.ensures c.if-self-at-eq0.false c.in_ok-pay_records-2.ensures (elim c.if-returns-eq0.branch [
      | then-returns-eq0 w ↦ own_pays _ _ (inl (w.if-returns-eq0.true, w.own-is))
      | else-returns-eq0 w ↦ own_pays _ _ (inr (w.if-returns-eq0.false, w.own-is))
    ]))
