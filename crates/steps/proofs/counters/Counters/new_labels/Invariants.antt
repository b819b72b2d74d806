use Rattle.std.proofs.Common.{◌-◌}
use Rattle.std.specs.Prelude as std
use Rattle.steps.proofs.LeafLaws.{NewRest}
use Rattle.steps.proofs.counters.Counters.new_labels.Given as goal

abbrev pub invariant-loop-i : goal.invariant-loop-i
invariant-loop-i l = NewRest l.at l.n (std.Ok l.initial.self) l.initial.marks (l.n - l._i) (std.Ok l.self) l.marks
