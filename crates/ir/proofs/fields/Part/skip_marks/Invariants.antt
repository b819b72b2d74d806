use Rattle.std.proofs.Common.{◌≡◌, ◌-◌}
use Rattle.definitions.specs.Read.{mark_bytes}
use Rattle.ir.specs.Verdict.{no_value}
use Rattle.ir.proofs.fields.Part.skip_marks.Given as goal

abbrev pub invariant-loop-mark : goal.invariant-loop-mark
invariant-loop-mark l =
    no_value (mark_bytes l.self.unit.now l.self.place l.self.end l.n l.at) ≡ no_value (mark_bytes l.self.unit.now l.self.place l.self.end (l.n - l._mark) l.next)
