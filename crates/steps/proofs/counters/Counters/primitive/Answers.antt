use Rattle.steps.proofs.LeafLaws.{primitive_none, primitive_is}
use Rattle.steps.proofs.counters.Counters.primitive.Goals as goal

pub returns-in-Some : goal.returns-in-Some
returns-in-Some g c = primitive_is _ _ _ _ _ _ c.in-Some.is c.default_tag.ensures c.default_index.ensures c.plain.ensures

pub returns-in_default : goal.returns-in_default
returns-in_default g c = primitive_none _ _ _ _ c.in_default.is c.default_tag.ensures
