-- One byte more is written, if it fits.
use Rattle.samples.proofs.WriteLaws.{word_step}
use Rattle.samples.proofs.page.Page.word.Goals as goal

pub loop-b-preserved : goal.loop-b-preserved
loop-b-preserved c = search word_step
