-- One field after another.
use Rattle.definitions.specs.Text.{letters, fields, line_text}
use Rattle.print.proofs.WriteLaws.{field}
use Rattle.print.proofs.lines.line.Goals as goal

pub returns-clause-text : goal.returns-clause-text
unfolding line_text fields letters
returns-clause-text c =
    let tag = rw c.from.ensures at c.hexadecimal.ensures in
    let small = rw c.from-2.ensures at c.decimal-2.ensures in
    let line = rw c.from-3.ensures at c.decimal-3.ensures in
    let flags = rw c.from-4.ensures at c.decimal-4.ensures in
    field c.decimal.ensures (field tag (field small (field c.carried.ensures (field c.carried-2.ensures (field line (field flags c.hexadecimal-2.ensures.wrote))))))
