-- The fast form where the record is in the slice, else the plain one.
use mathlib.Core.Path.{sym, ◌∙◌}
use borrow.Author.Tests.{leb-true}
use Rattle.instr.proofs.records.read_record.Goals as goal

pub read_inside-requires : goal.read_inside-requires
read_inside-requires c = leb-true _ _ (sym c.inside.ensures ∙ c.if-inside.true)
