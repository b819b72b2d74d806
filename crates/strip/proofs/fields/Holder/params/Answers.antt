-- The count, then the marks.
use Rattle.strip.proofs.FieldLaws.{params_none, params_some}
use Rattle.strip.proofs.fields.Holder.params.Goals as goal

pub returns-in_err-byte : goal.returns-in_err-byte
returns-in_err-byte c = rw c.from_residual.ensures (params_none _ _ _ c.in_err-byte.ensures)

pub returns : goal.returns
returns c = params_some _ _ _ _ _ _ c.in_ok-byte.ensures c.marks.ensures
