-- The const byte, then its payload.
use Rattle.strip.proofs.FieldLaws.{const_in, const_not, a_const}
use Rattle.strip.proofs.fields.Holder.constant.Goals as goal

pub returns-in_err-byte : goal.returns-in_err-byte
returns-in_err-byte c = rw c.from_residual.ensures (const_not _ _ _ _ _ c.requires c.in_err-byte.ensures)

pub payload-requires : goal.payload-requires
payload-requires c = const_in _ _ _ _ _ _ c.requires c.in_ok-byte.ensures

pub returns : goal.returns
returns c = a_const _ _ _ _ _ _ _ _ _ c.requires c.in_ok-byte.ensures c.payload.ensures
