-- Each tag adds at most one record.
use Rattle.std.proofs.Common.{◌≤◌}
use Rattle.instr_run.proofs.fill.Given as goal

abbrev pub invariant-loop-tag : goal.invariant-loop-tag
invariant-loop-tag l = l.count ≤ l.tag
