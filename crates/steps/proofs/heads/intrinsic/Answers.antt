use Rattle.steps.proofs.StepLaws.{emit_exit, required}
use Rattle.steps.proofs.HeadLaws.{intrinsic_did, intrinsic_refused}
use Rattle.steps.proofs.heads.intrinsic.Goals as goal

pub returns-in_err-require : goal.returns-in_err-require
returns-in_err-require g c = emit_exit _ _ c.from_residual.ensures.1 _ (intrinsic_refused _ _ _ _ _ _ c.from-code.ensures c.from.ensures c.from-2.ensures c.typed-fits.ensures (required _ _ _ _ _ _ c.at.ensures c.in_err-require.ensures c.args.c.now))

pub returns : goal.returns
returns g c = intrinsic_did _ _ _ _ _ _ _ _ _ c.from-code.ensures c.from.ensures c.from-2.ensures c.typed-fits.ensures c.intrinsic_tag.ensures c.intrinsic_small.ensures.0 c.u32_inside-i.ensures.0 (required _ _ _ _ _ _ c.at.ensures c.in_ok-require.ensures c.args.c.now) c.plain.ensures
