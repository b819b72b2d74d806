use Rattle.std.proofs.Common.{arith}
use Rattle.std.proofs.lemmas.Grind.{common_steps}
use Rattle.definitions.specs.Answer.{bind}
use Rattle.definitions.specs.Read.{callee, give, ◌>>=◌}
use Rattle.ir.proofs.Laws.{marks_length}
use Rattle.ir.proofs.fields.Part.callee.Goals as goal

pub returns : goal.returns
unfolding callee give ◌>>=◌ bind
returns c = grind (arith, common_steps, marks_length c.args.self.now.unit.now c.args.self.now.place c.args.self.now.end c.in_ok-params.params c.in_ok-params.marks)
