use Rattle.std.proofs.Common.{arith, ◌∙◌}
use Rattle.assemble.proofs.MeasureLaws.{read_refused}
use Rattle.foresee.proofs.LookLaws.{handed, unread, refused_all, few_all, most_all, again}
use Rattle.foresee.proofs.looks.look_over.Goals as goal

pub returns-in_err-read_unit-clause-answers : goal.returns-in_err-read_unit-clause-answers
returns-in_err-read_unit-clause-answers g c = handed _ _ c.from_residual.ensures.1 (read_refused _ _ c.in_err-read_unit.ensures)

pub returns-in_err-read_unit-clause-looks : goal.returns-in_err-read_unit-clause-looks
returns-in_err-read_unit-clause-looks g c = unread g.L.Look.seen _ _ _ (read_refused _ _ c.in_err-read_unit.ensures)

pub returns-in_err-totals-clause-looks : goal.returns-in_err-totals-clause-looks
returns-in_err-totals-clause-looks g c = c.in_err-totals.ensures.looks ∙ refused_all g.L.Look.seen _ _ _ _ c.in_err-totals.ensures.answers

pub returns-then-labels-le-FEW-clause-looks : goal.returns-then-labels-le-FEW-clause-looks
returns-then-labels-le-FEW-clause-looks g c = c.in_ok-totals.ensures.looks ∙ few_all g.L.Look.seen _ _ _ _ c.in_ok-totals.ensures.answers c.if-labels-le-FEW.true

pub returns-then-labels-le-MANY-clause-looks : goal.returns-then-labels-le-MANY-clause-looks
returns-then-labels-le-MANY-clause-looks g c =
    again g.L.Look.seen _ _ _ _ _ _ _ c.in_ok-totals.ensures.answers c.if-labels-le-FEW.false c.in_ok-totals.ensures.looks c.look_in-then-labels-le-MANY.ensures.looks
    ∙ few_all g.L.Look.seen _ _ _ _ c.in_ok-totals.ensures.answers c.if-labels-le-MANY.true

pub returns-clause-looks : goal.returns-clause-looks
returns-clause-looks g c =
    again g.L.Look.seen _ _ _ _ _ _ _ c.in_ok-totals.ensures.answers c.if-labels-le-FEW.false c.in_ok-totals.ensures.looks c.look_in-2.ensures.looks
    ∙ most_all g.L.Look.seen _ _ _ (omega arith)
