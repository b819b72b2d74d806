-- The lines of the records so far are written, and the next starts after their total.
use Prim.Native.Nat.{◌+◌, ◌*◌, ◌≤◌}
use Rattle.print.specs.Values.{sign_of}
use Rattle.print.specs.Writing.{longest}
use Rattle.print.proofs.LineLaws.{Totals, Lines}
use Rattle.print.proofs.lines.Listing.lines.Given as goal

abbrev pub invariant-loop-n : goal.invariant-loop-n
invariant-loop-n l = record {
  written : Lines (sign_of l.form) l.n l.self.bytes.now l.initial.page l.page;
  start : Totals l.start l.n l.self.bytes.now;
  few : l.start ≤ 17 * l.n;
  room : l.page.at ≤ l.initial.page.at + longest * l.n;
}
