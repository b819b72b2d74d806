-- The records that are done stand behind the front, and those that are left stand behind them.
use Rattle.resolve.proofs.Passes.{Coding, mapping}
use Rattle.resolve.proofs.mapping.write_fields.Given as goal

abbrev pub invariant-loop-number : goal.invariant-loop-number
invariant-loop-number g l = Coding (mapping (g.M.Mapping.maps l.mapping)) l.listing l.count l.number l.offset l.fn.out l.out
