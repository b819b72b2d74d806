use Rattle.steps.proofs.LeafLaws.{intrinsic_some, intrinsic_none}
use Rattle.steps.proofs.tags.intrinsic_tag.Goals as goal

pub returns-in-Some : goal.returns-in-Some
returns-in-Some c = intrinsic_some c.args.code c.get.result c.in-Some.i c.in-Some.is c.get.ensures.lookup

pub returns-in-None : goal.returns-in-None
returns-in-None c = intrinsic_none c.args.code c.get.result c.in-None.is c.get.ensures.lookup
