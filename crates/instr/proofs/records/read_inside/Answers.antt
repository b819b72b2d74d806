-- Eight fields, each a number at its place.
use Prim.Native.Nat.{◌+◌}
use mathlib.Core.Path.{refl}
use native.Mathlib.Nat.{add-zero}
use Rattle.definitions.specs.Instr.{record_at}
use Rattle.instr.proofs.NumberLaws.{one_byte}
use Rattle.instr.proofs.records.read_inside.Goals as goal

pub returns : goal.returns
unfolding record_at
returns c =
    let a = c.args in
    cc (add-zero a.at, one_byte a.s.now a.at refl, one_byte a.s.now (a.at + 1) refl)
