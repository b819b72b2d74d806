-- The whole table is that of the definitions, by computing.
use Rattle.definitions.specs.Tag.{sizes, tag_size}
use Rattle.instr.proofs.TableLaws.{size_at}
use Rattle.instr.proofs.tables.size_of.Goals as goal

pub returns : goal.returns
unfolding sizes tag_size
returns c = size_at c.from.ensures
