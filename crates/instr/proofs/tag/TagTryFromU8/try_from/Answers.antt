-- The last arm is for the bytes of no tag.
use Rattle.std.proofs.Common.{rules}
use Rattle.definitions.specs.Tag.{emitted, sizes, tag_size}
use Rattle.laws.proofs.Arms.{those, others}
use Rattle.instr.proofs.tag.TagTryFromU8.try_from.Goals as goal

pub returns-in_default : goal.returns-in_default
unfolding sizes tag_size emitted those
returns-in_default c = others emitted 256 c.args.byte c.ranges.byte.fits (search rules)
