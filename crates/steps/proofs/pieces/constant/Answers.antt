use Rattle.steps.proofs.LeafLaws.{const_did}
use Rattle.steps.proofs.pieces.constant.Goals as goal

pub returns : goal.returns
returns g c = const_did _ _ _ _ _ c.from-byte.ensures c.value_at-value.ensures c.const_tag.ensures c.plain.ensures
