use Rattle.std.proofs.Common.{ap}
use Rattle.steps.proofs.LeafLaws.{typed_is, intrinsic_at}
use Rattle.steps.proofs.tags.typed.Goals as goal

pub returns-then-short-eq0 : goal.returns-then-short-eq0
returns-then-short-eq0 c = typed_is c.args.short c.args.types c.args.code _ c.if-short-eq0.true (ap (λ i. i.types) (intrinsic_at c.args.code))
