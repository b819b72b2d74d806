-- Eight fields, each a number at its place.
use native.Mathlib.Nat.{add-zero}
use Rattle.definitions.specs.Instr.{record_at}
use Rattle.instr.proofs.records.read_plain.Goals as goal

pub returns : goal.returns
unfolding record_at
returns c = cc (add-zero c.args.at)
