use Rattle.std.proofs.Common.{rules}
use Rattle.foresee.proofs.LookLaws.{look_answers, looked_by}
use Rattle.foresee.proofs.looks.look_by.Goals as goal

pub returns-clause-answers : goal.returns-clause-answers
returns-clause-answers g c = look_answers g.L.Look.seen _ _ _ _ _ _ _ c.walk.ensures

pub returns-clause-looks : goal.returns-clause-looks
returns-clause-looks g c = looked_by g.L.Look.seen _ _ _ _ _ _ _ _ c.walk.ensures (search rules)
