-- The lines of the records so far are written, and the next starts after their total.
use native.Mathlib.Omega.{arith}
use mathlib.Core.Path.{◌∙◌}
use Rattle.print.specs.Values.{sign_of}
use Rattle.print.proofs.LineLaws.{no_total, total_step, no_lines, lines_step}
use Rattle.print.proofs.lines.Listing.lines.Goals as goal

pub loop-n-init : goal.loop-n-init
loop-n-init c = record { written = no_lines (sign_of c.args.form) c.args.self.now.bytes.now c.args.page.now; start = no_total c.args.self.now.bytes.now; few = omega arith; room = omega arith }

pub loop-n-preserved : goal.loop-n-preserved
loop-n-preserved c =
    let a = c.args in
    let turn = c.loop-n in record {
      written = lines_step (sign_of a.form) turn.n turn.start a.self.now.bytes.now turn.invariant.start turn.invariant.written c.record-r.ensures c.line.ensures.text;
      start = total_step turn.start turn.n a.self.now.bytes.now turn.invariant.start c.record-r.ensures (c.from-start.ensures ∙ c.size_of.ensures.0);
      few = omega arith;
      room = omega arith;
    }
