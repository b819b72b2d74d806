use Rattle.std.proofs.Common.{◌≡◌, ◌+◌, ◌-◌, arith}
use Rattle.steps.proofs.StepLaws.{nops_next, nops_end}
use Rattle.steps.proofs.counters.Counters.nops.Goals as goal

pub loop-i-preserved : goal.loop-i-preserved
loop-i-preserved g c =
    let e : c.args.n - c.loop-i._i - 1 ≡ c.args.n - (c.loop-i._i + 1) = omega arith in
    rw (← e) (nops_next c.loop-i.invariant (omega arith) c.plain.ensures)

pub returns : goal.returns
returns g c = nops_end c.loop-i.invariant (omega arith)
