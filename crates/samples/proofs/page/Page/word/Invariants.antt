-- As many of the bytes up to this one as fit are written.
use lib.ListN.{take}
use Rattle.samples.specs.Written.{Written}
use Rattle.samples.proofs.page.Page.word.Given as goal

abbrev pub invariant-loop-b : goal.invariant-loop-b
invariant-loop-b l = Written (take l.b-index l.text) l.initial.self l.self
