use Rattle.foresee.proofs.FarLaws.{foreseen_refused, foreseen_all}
use Rattle.foresee.proofs.far.foresee.Goals as goal

pub returns-in_err-look_over : goal.returns-in_err-look_over
returns-in_err-look_over c = foreseen_refused _ _ _ c.from_residual.ensures.1 c.in_err-look_over.ensures.answers

pub returns : goal.returns
returns c = foreseen_all _ _ _ c.in_ok-look_over.ensures.answers c.in_ok-look_over.ensures.looks
