-- Each tag adds at most one.
use Rattle.std.proofs.Common.{◌≤◌}
use Rattle.instr_run.proofs.seen.Given as goal

abbrev pub invariant-loop-tag : goal.invariant-loop-tag
invariant-loop-tag l = l.n ≤ l.tag
