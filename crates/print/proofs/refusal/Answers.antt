-- The word, then one field after another.
use mathlib.Core.Path.{sym, ◌∙◌}
use Rattle.std.proofs.Common.{rules}
use Rattle.definitions.specs.Text.{letters, fields, text}
use Rattle.print.proofs.WriteLaws.{both, field, filled}
use Rattle.print.proofs.refusal.Goals as goal

pub returns : goal.returns
unfolding text fields letters
returns c =
    let w = both c.word.ensures (field c.decimal.ensures (field c.decimal-2.ensures c.decimal-3.ensures.wrote)) in
    let same = sym (w.buffer ∙ c.new-page.ensures.buffer) in
    rw c.at.ensures (filled c.new-page.ensures.start.0 c.new-page.ensures.start.1 w (search (rules, same)))
