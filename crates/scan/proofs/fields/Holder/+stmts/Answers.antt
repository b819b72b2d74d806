-- Assumes nothing.
use native.Mathlib.Omega.{arith}
use mathlib.Core.Logic.{inl, inr}
use Rattle.scan.proofs.StmtLoops.{cased_one, cased_all, ends_by_block, ends_at_last, goes_on}
use Rattle.scan.proofs.fields.Holder.+stmts.Goals as goal
use Rattle.scan.proofs.fields.Holder.+stmts.Goals.{cases-then-mark-eq1, cases-else-mark-eq1}

pub cases-loop-next-preserved-in-loop-next : goal.cases-loop-next-preserved-in-loop-next
cases-loop-next-preserved-in-loop-next t c =
    let y = c.in_ok-next.ensures in
    cased_one c.loop-next.invariant c.loop-next-test.true _ _ 1 _ _ _ c.in_ok-block.ensures y (elim c.then-block-next.either [ inl h ↦ ends_by_block y h | inr h ↦ ends_at_last y h.1 ]) (omega arith) (omega arith)

pub cases-loop-next-preserved : goal.cases-loop-next-preserved
cases-loop-next-preserved t c =
    let y = c.in_ok-next.ensures in
    cased_one c.loop-next.invariant c.loop-next-test.true _ _ 0 _ _ _ c.in_ok-block.ensures y (goes_on y c.if-block-next.false (omega (arith, c.if-next-run.false, y.place.1))) (omega arith) (omega arith)

pub cases-returns : goal.cases-returns
cases-returns t c = cased_all _ _ _ _ _ c.loop-next.invariant c.loop-next-test.false c.in_ok-span.ensures _ (elim c.if-mark-eq1.branch [
  | cases-then-mark-eq1 w ↦ grind arith
  | cases-else-mark-eq1 w ↦ grind arith
]) c.in_ok-pay_cases.ensures
