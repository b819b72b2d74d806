use Rattle.std.proofs.Common.{refl}
use Rattle.steps.proofs.StepLaws.{emit_exit, required}
use Rattle.steps.proofs.HeadLaws.{constructed, construct_refused}
use Rattle.steps.proofs.places.Nodes.construct.Goals as goal

pub returns-in_err-require : goal.returns-in_err-require
returns-in_err-require g c = emit_exit _ _ c.from_residual.ensures.1 _ (construct_refused _ _ _ _ _ c.count-n.ensures (required _ _ _ _ _ _ refl c.in_err-require.ensures c.args.c.now))

pub returns : goal.returns
returns g c = constructed _ _ _ _ _ _ c.count-n.ensures c.u32_inside.ensures.0 (required _ _ _ _ _ _ refl c.in_ok-require.ensures c.args.c.now) c.plain.ensures
