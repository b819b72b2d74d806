use Rattle.scan.proofs.FieldLaws.{span_found}
use Rattle.scan.proofs.fields.Holder.span.Goals as goal

pub returns : goal.returns
returns c = span_found _ _ _ _ _ _ c.in_ok-first.ensures c.u32_inside.ensures.0 c.skip-2.ensures
