-- Assumes nothing.
use Rattle.std.proofs.lemmas.Option.{IfSome_then}
use Rattle.scan.proofs.ExprLaws.{call_found}
use Rattle.scan.proofs.RunLaws.{args_end}
use Rattle.scan.proofs.fields.Holder.+exprs.Goals as goal

pub call-returns : goal.call-returns
call-returns t c = call_found c.in_ok-marks.ensures c.from-count.ensures c.in_ok-args.ensures c.in_ok-span.ensures c.in_ok-close.ensures c.in_ok-pay.ensures c.in_ok-arguments.ensures

pub arguments-returns : goal.arguments-returns
arguments-returns t c = IfSome_then _ c.pay_records.ensures (λ _. args_end c.loop-next.invariant c.loop-next-test.false)
