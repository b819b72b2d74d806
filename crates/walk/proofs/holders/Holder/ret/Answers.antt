use Rattle.steps.proofs.StepLaws.{recode, both, emitted, exit, halt}
use Rattle.walk.proofs.StmtCode.{stmt_fits, return_fits, return_nothing_law, return_value, return_after, return_before}
use Rattle.steps.specs.Walked.{span_of}
use mathlib.Core.Path.{◌∙◌}
use native.Mathlib.Omega.{arith}
use Rattle.walk.proofs.holders.Holder.ret.Goals as goal

pub inner-below-requires : goal.inner-below-requires
inner-below-requires g c = stmt_fits _ _ _ _ c.requires.accepted c.args.self.now.nodes.inside

pub bounds-self-at : goal.bounds-self-at
bounds-self-at g c = omega (arith, return_fits _ _ _ _ (span_of c.args.self.now.span) c.requires.accepted c.requires.at_value, stmt_fits _ _ _ _ c.requires.accepted c.args.self.now.nodes.inside)

pub returns-then-self-at-eq0 : goal.returns-then-self-at-eq0
returns-then-self-at-eq0 g c = recode (return_nothing_law _ _ _ _ (span_of c.args.self.now.span) c.requires.accepted c.requires.at_value c.if-self-at-eq0.true) (emitted c.returned.ensures)

pub node-requires : goal.node-requires
node-requires g c = let k = return_value _ _ _ _ (span_of c.args.self.now.span) c.requires.accepted _ _ _ c.inner-below.ensures.node c.requires.at_value c.if-self-at-eq0.false in record { accepted = k.0.reads }

pub returns-in_err-node : goal.returns-in_err-node
unfolding span_of
returns-in_err-node g c = let k = return_value _ _ _ _ (span_of c.args.self.now.span) c.requires.accepted _ _ _ c.inner-below.ensures.node c.requires.at_value c.if-self-at-eq0.false in exit _ _ c.from_residual.ensures.1 _ (recode (k.1 ∙ return_after _ _ _ c.if-self-eq0.true) (halt c.in_err-node.ensures _))

pub returns-then-self-eq0 : goal.returns-then-self-eq0
unfolding span_of
returns-then-self-eq0 g c = let k = return_value _ _ _ _ (span_of c.args.self.now.span) c.requires.accepted _ _ _ c.inner-below.ensures.node c.requires.at_value c.if-self-at-eq0.false in recode (k.1 ∙ return_after _ _ _ c.if-self-eq0.true) (both c.in_ok-node.ensures (emitted c.returned-then-self-eq0.ensures))

pub node-requires-2 : goal.node-requires-2
node-requires-2 g c = let k = return_value _ _ _ _ (span_of c.args.self.now.span) c.requires.accepted _ _ _ c.inner-below.ensures.node c.requires.at_value c.if-self-at-eq0.false in record { accepted = k.0.reads }

pub returns : goal.returns
unfolding span_of
returns g c = let k = return_value _ _ _ _ (span_of c.args.self.now.span) c.requires.accepted _ _ _ c.inner-below.ensures.node c.requires.at_value c.if-self-at-eq0.false in recode (k.1 ∙ return_before _ _ _ c.if-self-eq0.false) (both (emitted c.plain.ensures) c.node-2.ensures)
