use Rattle.std.proofs.Common.{◌≡◌, ◌+◌, ◌-◌, arith}
use Rattle.steps.proofs.StepLaws.{label_exit}
use Rattle.steps.proofs.LeafLaws.{new_next, new_end, new_stop}
use Rattle.steps.proofs.counters.Counters.new_labels.Goals as goal

pub loop-i-preserved : goal.loop-i-preserved
loop-i-preserved c =
    let e : c.args.n - c.loop-i._i - 1 ≡ c.args.n - (c.loop-i._i + 1) = omega arith in
    rw (← e) (new_next c.loop-i.invariant (omega arith) c.in_ok-new_label.ensures.did)

pub returns-in_err-new_label : goal.returns-in_err-new_label
returns-in_err-new_label c = label_exit _ _ c.from_residual.ensures.1 _ (new_stop (new_next c.loop-i.invariant (omega arith) c.in_err-new_label.ensures.did))

pub returns : goal.returns
returns c = new_end c.loop-i.invariant (omega arith)
