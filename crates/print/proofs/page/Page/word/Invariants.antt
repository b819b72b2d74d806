-- The bytes up to this one are written.
use lib.ListN.{take}
use Rattle.print.specs.Writing.{Wrote}
use Rattle.print.proofs.page.Page.word.Given as goal

abbrev pub invariant-loop-b : goal.invariant-loop-b
invariant-loop-b l = Wrote (take l.b-index l.text) l.initial.self l.self
