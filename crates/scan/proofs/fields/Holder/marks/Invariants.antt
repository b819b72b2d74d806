use Prim.Native.Nat.{◌≤◌}
use Rattle.scan.specs.Scanned.{all_marks}
use Rattle.scan.proofs.fields.Holder.marks.Given as goal

abbrev pub invariant-loop-k : goal.invariant-loop-k
invariant-loop-k l = all_marks l.self.unit.now l.at l.k × (l.k ≤ l.n)
