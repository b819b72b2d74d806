-- What is left of the marks passes as all of them do.
use Prim.Native.Nat.{◌-◌}
use Rattle.strip.proofs.FieldLaws.{Marking}
use Rattle.strip.proofs.fields.Holder.marks.Given as goal

abbrev pub invariant-loop-mark : goal.invariant-loop-mark
invariant-loop-mark l = Marking l.self.unit.now l.self.end l.from.at l.from.last l.at (l.from.last - l._mark)
