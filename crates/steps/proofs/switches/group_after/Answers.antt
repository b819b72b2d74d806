use Rattle.steps.proofs.LeafLaws.{group_closed}
use Rattle.steps.proofs.switches.group_after.Goals as goal

pub returns : goal.returns
returns c = group_closed c.args.ends c.args.body _ c.then_some.ensures
