-- The bytes stand in the place of the part.
use mathlib.Core.Path.{◌∙◌}
use Rattle.instr.proofs.NumberLaws.{put_whole}
use Rattle.instr.proofs.numbers.put_u64.Goals as goal

pub returns : goal.returns
returns c = let a = c.args in put_whole a.part.now a.at 8 a.v (c.copy_from_slice.ensures.after ∙ c.to_be_bytes.ensures)
