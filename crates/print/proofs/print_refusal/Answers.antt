-- The length first, and then the text.
use Rattle.definitions.specs.Stage.{refused_with}
use Rattle.print.proofs.AnswerLaws.{short_text, whole_text}
use Rattle.print.proofs.print_refusal.Goals as goal

pub returns-then-out-needed : goal.returns-then-out-needed
returns-then-out-needed c = let a = c.args in short_text (refused_with a.number a.place a.extra) c.refusal-needed.ensures a.out.now c.if-out-needed.true c.of.ensures

pub returns : goal.returns
returns c = let a = c.args in whole_text (refused_with a.number a.place a.extra) c.refusal-needed.ensures a.out.now c.if-out-needed.false c.refusal.ensures
