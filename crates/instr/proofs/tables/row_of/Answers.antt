-- The whole table is that of the definitions, by computing.
use Rattle.definitions.specs.Tag.{rows}
use Rattle.instr.proofs.TableLaws.{the_rows, row_at}
use Rattle.instr.proofs.tables.row_of.Goals as goal

pub returns : goal.returns
unfolding rows the_rows
returns c = row_at c.from.ensures
