use Rattle.std.proofs.Common.{ap}
use Rattle.steps.proofs.LeafLaws.{intrinsic_at, small_at}
use Rattle.steps.proofs.tags.intrinsic_small.Goals as goal

pub returns : goal.returns
returns c = (ap (λ i. i.small) (intrinsic_at c.args.code), small_at c.args.code)
