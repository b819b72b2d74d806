-- No size is above 17, so the sum fits.
use Rattle.std.proofs.Common.{◌*◌, ◌≤◌}
use Rattle.instr_run.proofs.forms.total_size.Given as goal

abbrev pub invariant-loop-byte : goal.invariant-loop-byte
invariant-loop-byte l = l.sum ≤ 17 * l.byte
