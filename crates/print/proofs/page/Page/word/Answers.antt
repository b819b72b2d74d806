-- The bytes up to this one are written.
use Rattle.print.proofs.WriteLaws.{word_step}
use Rattle.print.proofs.page.Page.word.Goals as goal

pub loop-b-preserved : goal.loop-b-preserved
loop-b-preserved c = word_step c.args.text.now c.loop-b.b-index c.loop-b-test.true c.loop-b.invariant c.put.ensures
