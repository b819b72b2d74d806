use Rattle.std.proofs.Common.{arith}
use Rattle.steps.proofs.StepLaws.{recode, both, emitted, nothing}
use Rattle.walk.proofs.StmtCode.{stmt_fits, array_run, array_here, no_array, an_array}
use Rattle.steps.proofs.RunLaws.{run_some, run_none}
use Rattle.steps.specs.Walked.{span_of}
use mathlib.Core.Path.{refl, ◌∙◌}
use Rattle.walk.proofs.holders.Holder.array.Goals as goal

pub inner-below-requires : goal.inner-below-requires
inner-below-requires g c = stmt_fits _ _ _ _ c.requires.accepted c.args.self.now.nodes.inside

pub u32_inside-local-requires : goal.u32_inside-local-requires
u32_inside-local-requires g c = omega (arith, (array_run _ _ _ _ (span_of c.args.self.now.span) c.requires.accepted _ _ _ c.inner-below.ensures.node c.requires.at_value).0, c.inner-below.ensures.node, stmt_fits _ _ _ _ c.requires.accepted c.args.self.now.nodes.inside)

pub u32_inside-typ-requires : goal.u32_inside-typ-requires
u32_inside-typ-requires g c = omega (arith, (array_run _ _ _ _ (span_of c.args.self.now.span) c.requires.accepted _ _ _ c.inner-below.ensures.node c.requires.at_value).0, c.inner-below.ensures.node, stmt_fits _ _ _ _ c.requires.accepted c.args.self.now.nodes.inside)

pub count-n-requires-clause-accepted : goal.count-n-requires-clause-accepted
count-n-requires-clause-accepted g c = (array_run _ _ _ _ (span_of c.args.self.now.span) c.requires.accepted _ _ _ c.inner-below.ensures.node c.requires.at_value).1

pub elements-requires-clause-accepted : goal.elements-requires-clause-accepted
elements-requires-clause-accepted g c = (array_run _ _ _ _ (span_of c.args.self.now.span) c.requires.accepted _ _ _ c.inner-below.ensures.node c.requires.at_value).1

pub returns-then-first-below : goal.returns-then-first-below
returns-then-first-below g c =
    recode (array_here _ _ _ _ (span_of c.args.self.now.span) c.requires.accepted _ _ _ c.inner-below.ensures.node _ _ _ c.count-n.ensures c.u32_inside-local.ensures.0 c.u32_inside-typ.ensures.0 c.requires.at_value ∙ an_array _ _ _ _ _ (run_some _ _ _ _ _ (array_run _ _ _ _ (span_of c.args.self.now.span) c.requires.accepted _ _ _ c.inner-below.ensures.node c.requires.at_value).1 c.if-first-below.true c.count-n.ensures))
    (both (both (emitted c.plain.ensures) (both (emitted c.plain-then-first-below.ensures) (both (emitted c.plain-then-first-below-2.ensures) nothing))) c.elements.ensures)

pub returns : goal.returns
returns g c = recode (array_here _ _ _ _ (span_of c.args.self.now.span) c.requires.accepted _ _ _ c.inner-below.ensures.node _ _ _ refl c.u32_inside-local.ensures.0 c.u32_inside-typ.ensures.0 c.requires.at_value ∙ no_array _ _ _ _ _ (run_none _ _ _ _ (array_run _ _ _ _ (span_of c.args.self.now.span) c.requires.accepted _ _ _ c.inner-below.ensures.node c.requires.at_value).1 c.if-first-below.false)) nothing
