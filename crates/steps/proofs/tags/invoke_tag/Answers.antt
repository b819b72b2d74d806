use Rattle.std.proofs.Common.{refl, arith}
use Rattle.definitions.specs.Tag.{emitted, tag_size, sizes}
use Rattle.steps.proofs.LessLaws.{fits, invoke_is}
use Rattle.steps.proofs.tags.invoke_tag.Goals as goal

pub less-requires : goal.less-requires
unfolding emitted tag_size sizes
less-requires c = fits _ _ (omega arith) refl refl (omega (arith, c.min.ensures))

pub returns : goal.returns
returns c = invoke_is _ _ _ c.min.ensures c.less.ensures
