-- What is left decides as all records do.
use mathlib.Core.List.{List}
use Rattle.definitions.specs.Instr.{Instr}
use Rattle.resolve.proofs.Passes.{Gone, mapping}
use Rattle.resolve.proofs.mapping.check_fields.Given as goal

abbrev pub invariant-loop-number : goal.invariant-loop-number
invariant-loop-number g l = (done : List Instr) × Gone (mapping (g.M.Mapping.maps l.mapping)) l.listing l.count l.number l.start done
