use native.Mathlib.Omega.{arith}
use Rattle.scan.proofs.StmtFound.{array_found}
use Rattle.scan.proofs.fields.Holder.init_array.Goals as goal

pub returns-in_ok-pay_records : goal.returns-in_ok-pay_records
returns-in_ok-pay_records c = array_found _ _ _ _ _ c.requires.1 c.in_ok-elements.ensures c.in_ok-next.ensures c.in_ok-pay_records.ensures (λ l. omega arith)

pub returns-else-items-lt-ITEMS : goal.returns-else-items-lt-ITEMS
returns-else-items-lt-ITEMS c =
    array_found _ _ _ _ 0 c.requires.1 c.in_ok-elements.ensures c.in_ok-next.ensures (omega arith, omega arith) (λ l. absurd (omega (arith, l, c.if-items-lt-ITEMS.false)))
