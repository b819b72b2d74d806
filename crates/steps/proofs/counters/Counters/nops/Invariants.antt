use Rattle.std.proofs.Common.{◌-◌}
use Rattle.std.specs.Prelude as std
use Rattle.steps.proofs.StepLaws.{NopsRest}
use Rattle.steps.proofs.counters.Counters.nops.Given as goal

abbrev pub invariant-loop-i : goal.invariant-loop-i
invariant-loop-i g l = NopsRest g.S.Sink.emitted l.site l.n (std.Ok l.initial.self) l.initial.sink (l.n - l._i) (std.Ok l.self) l.sink
