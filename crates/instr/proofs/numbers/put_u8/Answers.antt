-- One byte is its own number.
use Rattle.instr.proofs.NumberLaws.{put_one}
use Rattle.instr.proofs.numbers.put_u8.Goals as goal

pub returns : goal.returns
returns c = let a = c.args in put_one a.part.now a.at a.v c.requires c.ranges.v.fits
