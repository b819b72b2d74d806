-- Seven tests, joined in the definition's order, by the size and the row of the tag.
use native.Mathlib.Omega.{arith}
use Rattle.instr.specs.Values.{instr_of}
use Rattle.instr.proofs.RecordLaws.{good_with, good_is}
use Rattle.instr.proofs.records.good_record.Goals as goal

pub returns : goal.returns
unfolding good_with
returns c = good_is (instr_of c.args.r) c.size_of.ensures.0 c.row_of-row.ensures (omega arith) (omega arith) (omega arith) (omega arith) (omega arith) (omega arith)
