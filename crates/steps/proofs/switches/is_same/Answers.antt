use Rattle.std.proofs.Common.{◌∙◌}
use Rattle.steps.proofs.LeafLaws.{same_number}
use Rattle.steps.proofs.switches.is_same.Goals as goal

pub returns : goal.returns
returns c = c.from.ensures ∙ same_number c.args.k c.args.index
