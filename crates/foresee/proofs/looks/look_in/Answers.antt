use Rattle.std.proofs.Common.{arith, refl}
use Rattle.std.proofs.lemmas.List.{length-replicate}
use Rattle.assemble.proofs.MeasureLaws.{measures}
use Rattle.foresee.proofs.LookLaws.{handed, stopped, unshown, shown_within}
use Rattle.foresee.proofs.looks.look_in.Goals as goal

pub whole_as_slice-walk : goal.whole_as_slice-walk
whole_as_slice-walk g c = omega (arith, c.requires.small)

pub returns-in_err-totals-clause-answers : goal.returns-in_err-totals-clause-answers
returns-in_err-totals-clause-answers g c = handed _ _ c.from_residual.ensures.1 (measures _ _ _ _ _ _ _ c.in_err-totals.ensures)

pub returns-in_err-totals-clause-looks : goal.returns-in_err-totals-clause-looks
returns-in_err-totals-clause-looks g c = stopped g.L.Look.seen _ _ _ _ (measures _ _ _ _ _ _ _ c.in_err-totals.ensures)

pub shared_whole_as_front-look_by : goal.shared_whole_as_front-look_by
shared_whole_as_front-look_by g c = (omega (arith, c.if-labels.true), omega (arith, c.requires.small))

pub returns-then-labels-clause-looks : goal.returns-then-labels-clause-looks
returns-then-labels-clause-looks g c = shown_within g.L.Look.seen _ _ _ _ _ _ g.row.WORDS _ _ _ _ c.in_ok-totals.ensures (length-replicate g.row.WORDS 0) c.if-labels.true refl c.look_by.ensures.looks

pub returns-clause-answers : goal.returns-clause-answers
returns-clause-answers g c = measures _ _ _ _ _ _ _ c.in_ok-totals.ensures

pub returns-clause-looks : goal.returns-clause-looks
returns-clause-looks g c = unshown g.L.Look.seen _ _ _ _ (measures _ _ _ _ _ _ _ c.in_ok-totals.ensures) (omega (arith, c.if-labels.false))
