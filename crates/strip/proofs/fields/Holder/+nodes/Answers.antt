-- The proof of the cycle of calls that strips a node. A function's measure is twenty times the depth that is left, and its place among those of one depth.
-- Assumes nothing.
use Rattle.strip.proofs.NodeLaws.{fill_none, fill_next, fill_stopped, fill_end, deep, lengthless, kindless, unlisted, node_in, blocks_low, depth_low, no_run, a_run_of, arm_stopped, arm_block, span_copied, body_copied, spans_in}
use mathlib.Core.Path.{refl, sym, ap, ◌∙◌}
use Rattle.strip.specs.Passing.{guarded, handed, closed_args}
use Rattle.strip.proofs.FieldLaws.{fits_in}
use Rattle.strip.proofs.PartLaws.{through_end, a_free, a_kept, a_small, a_constant, a_params, a_value, a_run, an_arguments, no_value, some_value, no_block, some_block}
use borrow.Author.Rules.{rules}
use native.Mathlib.Omega.{arith}
use Rattle.strip.proofs.fields.Holder.+nodes.Goals as goal

pub node-invariant_of-node : goal.node-invariant_of-node
node-invariant_of-node t c = record {
  inside = omega (arith, (spans_in _ _ _ _ _ _ c.in_ok-first.was c.span.ensures).high, c.args.self.now.inside);
  fewer_blocks = rw c.blocks_in.ensures (blocks_low c.args.class _);
}

pub node-bounds-self-first : goal.node-bounds-self-first
node-bounds-self-first t c = omega (arith, (fits_in _ _ _ _ _ _ _ c.in_ok-body.was c.keep.ensures).room, (spans_in _ _ _ _ _ _ c.in_ok-first.was c.span.ensures).high, c.args.self.now.inside)

pub node-returns-in_err-depth : goal.node-returns-in_err-depth
node-returns-in_err-depth t c = rw c.from_residual.ensures (deep _ _ _ c.args.self.now.end c.args.from.last _ c.args.class c.requires (omega (arith, c.depth_of.ensures, c.in_err-depth.ensures)))

pub node-returns-in_err-first : goal.node-returns-in_err-first
node-returns-in_err-first t c = rw c.from_residual-in_err-first.ensures (lengthless _ _ _ c.args.self.now.end c.args.from.last _ c.in_ok-depth.depth c.args.class _ (omega (arith, c.depth_of.ensures, c.in_ok-depth.ensures)) c.requires c.in_err-first.was c.span.ensures)

pub node-returns-in_err-body : goal.node-returns-in_err-body
node-returns-in_err-body t c = rw c.from_residual-in_err-body.ensures (kindless _ _ _ c.args.self.now.end c.args.from.last _ c.in_ok-depth.depth c.args.class _ _ _ _ (omega (arith, c.depth_of.ensures, c.in_ok-depth.ensures)) c.requires c.in_ok-first.was c.span.ensures c.in_err-body.was c.keep.ensures)

pub node-returns-in_err-parts : goal.node-returns-in_err-parts
node-returns-in_err-parts t c = rw c.from_residual-in_err-parts.ensures (unlisted _ _ _ c.args.self.now.end c.args.from.last _ c.in_ok-depth.depth c.args.class _ _ _ _ _ _ _ (omega (arith, c.depth_of.ensures, c.in_ok-depth.ensures)) c.requires c.in_ok-first.was c.span.ensures c.in_ok-body.was c.keep.ensures refl c.in_err-parts.ensures)

pub node-parts-requires : goal.node-parts-requires
node-parts-requires t c =
    let d = depth_low c.args.class c.args.self.now.values c.args.self.now.blocks c.args.self.now.fewer_blocks in
    (omega (arith, c.decreases, d, c.depth_of.ensures, c.in_ok-depth.ensures), body_copied _ _ _ _ _ _ _ _ _ _ _ c.requires c.in_ok-first.was c.span.ensures c.in_ok-body.was c.keep.ensures)

pub node-returns : goal.node-returns
node-returns t c = node_in _ _ _ c.args.self.now.end c.args.from.last _ _ c.args.class _ _ _ _ _ _ _ _ _ _ (omega (arith, c.depth_of.ensures, c.in_ok-depth.ensures)) c.requires c.in_ok-first.was c.span.ensures c.in_ok-body.was c.keep.ensures refl c.in_ok-parts.ensures (rw c.blocks_in.ensures at c.parts.ensures)

pub parts-returns : goal.parts-returns
parts-returns t c = through_end _ _ _ _ _ _ _ _ _ _ _ _ _ c.loop-part-test.false c.loop-part.invariant c.close.ensures

pub part-returns-in-Free : goal.part-returns-in-Free
part-returns-in-Free t c = a_free _ _ _ _ _ _ _ _ _ _ _ c.in-Free.is (search rules) c.requires c.blank.ensures.0 c.blank.ensures.1

pub part-returns-in-Kept : goal.part-returns-in-Kept
part-returns-in-Kept t c = a_kept _ _ _ _ _ _ _ _ _ _ _ c.in-Kept.is refl c.requires c.keep.ensures

pub part-returns-in-Constant : goal.part-returns-in-Constant
part-returns-in-Constant t c = a_constant _ _ _ _ _ _ _ _ _ _ c.in-Constant.is c.constant.ensures

pub part-returns-in-Params : goal.part-returns-in-Params
part-returns-in-Params t c = a_params _ _ _ _ _ _ _ _ _ _ c.in-Params.is refl c.requires c.params.ensures

pub part-returns-in-Value : goal.part-returns-in-Value
part-returns-in-Value t c = a_value _ _ _ _ _ _ _ _ _ _ c.in-Value.is c.node.ensures.0

pub part-returns-in-Small : goal.part-returns-in-Small
part-returns-in-Small t c = a_small _ _ _ _ _ _ _ _ _ _ _ c.in-Small.is refl c.requires c.below.ensures

pub part-returns-in_err-at-in-Run : goal.part-returns-in_err-at-in-Run
unfolding guarded
part-returns-in_err-at-in-Run t c = a_run _ _ _ _ _ _ _ _ _ _ _ _ c.in-Run.is c.run.ensures.0 (c.from_residual.ensures ∙ ap (handed c.args.from.last) (sym c.in_err-at-in-Run.was))

pub part-returns-in_ok-at-in-Run : goal.part-returns-in_ok-at-in-Run
unfolding guarded
part-returns-in_ok-at-in-Run t c = a_run _ _ _ _ _ _ _ _ _ _ _ _ c.in-Run.is c.run.ensures.0 (ap (handed c.args.from.last) (sym c.in_ok-at-in-Run.was))

pub part-returns-in_err-args-in-Arguments : goal.part-returns-in_err-args-in-Arguments
unfolding guarded
part-returns-in_err-args-in-Arguments t c = an_arguments _ _ _ _ _ _ _ _ _ _ _ c.in-Arguments.is c.run-in-Arguments.ensures.0 (c.from_residual-in_err-args-in-Arguments.ensures ∙ ap (closed_args c.args.self.now.end c.args.from.last) (sym c.in_err-args-in-Arguments.was))

pub part-returns-in_ok-args-in-Arguments : goal.part-returns-in_ok-args-in-Arguments
part-returns-in_ok-args-in-Arguments t c = an_arguments _ _ _ _ _ _ _ _ _ _ _ c.in-Arguments.is c.run-in-Arguments.ensures.0 (c.close_call.ensures ∙ ap (closed_args c.args.self.now.end c.args.from.last) (sym c.in_ok-args-in-Arguments.was))

pub part-returns-then-from-eq0 : goal.part-returns-then-from-eq0
part-returns-then-from-eq0 t c = no_value _ _ _ _ _ _ _ _ _ _ c.in-ValueIf.is c.if-from-eq0.true refl refl c.requires

pub part-returns-else-from-eq0 : goal.part-returns-else-from-eq0
part-returns-else-from-eq0 t c = some_value _ _ _ _ _ _ _ _ _ _ c.in-ValueIf.is c.if-from-eq0.false c.node-in-ValueIf.ensures.0

pub part-returns-then-from-eq0-2 : goal.part-returns-then-from-eq0-2
part-returns-then-from-eq0-2 t c = no_block _ _ _ _ _ _ _ _ _ _ c.in-BlockIf.is c.if-from-eq0-2.true refl refl c.requires

pub part-returns-in_err-at-in-BlockIf : goal.part-returns-in_err-at-in-BlockIf
unfolding guarded
part-returns-in_err-at-in-BlockIf t c = some_block _ _ _ _ _ _ _ _ _ _ _ c.in-BlockIf.is c.if-from-eq0-2.false c.run-in-BlockIf.ensures.0 (c.from_residual-in_err-at-in-BlockIf.ensures ∙ ap (handed c.args.from.last) (sym c.in_err-at-in-BlockIf.was))

pub part-returns-in_ok-at-in-BlockIf : goal.part-returns-in_ok-at-in-BlockIf
unfolding guarded
part-returns-in_ok-at-in-BlockIf t c = some_block _ _ _ _ _ _ _ _ _ _ _ c.in-BlockIf.is c.if-from-eq0-2.false c.run-in-BlockIf.ensures.0 (ap (handed c.args.from.last) (sym c.in_ok-at-in-BlockIf.was))

pub run-returns-in_err-first : goal.run-returns-in_err-first
run-returns-in_err-first t c = rw c.from_residual.ensures (no_run _ _ _ _ _ _ c.requires c.in_err-first.was c.span.ensures)

pub run-returns : goal.run-returns
run-returns t c = a_run_of _ _ _ _ _ _ _ _ _ _ c.requires c.in_ok-first.was c.span.ensures c.items.ensures

pub run-invariant_of-run : goal.run-invariant_of-run
run-invariant_of-run t c = record { inside = omega (arith, (spans_in _ _ _ _ _ _ c.in_ok-first.was c.span.ensures).high, c.args.self.now.inside); fewer_blocks = c.args.self.now.fewer_blocks }

pub run-items-requires : goal.run-items-requires
run-items-requires t c = ((search rules), (span_copied _ _ _ _ _ _ _ c.requires c.in_ok-first.was c.span.ensures, (spans_in _ _ _ _ _ _ c.in_ok-first.was c.span.ensures).low))

pub items-loop-next-init : goal.items-loop-next-init
items-loop-next-init t c = fill_none _ _ _ _ _ c.requires.low c.requires.copied

pub items-returns-in_err-next : goal.items-returns-in_err-next
items-returns-in_err-next t c = rw c.from_residual.ensures (fill_stopped _ _ _ _ _ _ _ _ _ _ c.loop-next.invariant c.loop-next-test.true c.item.ensures c.in_err-next.was)

pub items-loop-next-preserved : goal.items-loop-next-preserved
items-loop-next-preserved t c = fill_next _ _ _ _ _ _ _ _ _ _ _ _ c.loop-next.invariant c.loop-next-test.true c.item.ensures c.in_ok-next.was

pub items-returns : goal.items-returns
items-returns t c = fill_end _ _ _ _ _ _ _ _ c.loop-next.invariant c.loop-next-test.false

pub item-returns-in_err-body-in-Arm : goal.item-returns-in_err-body-in-Arm
item-returns-in_err-body-in-Arm t c = arm_stopped _ _ _ _ c.args.from.last c.args.self.now.values c.args.self.now.blocks c.args.item _ _ _ c.in-Arm.is c.node-in-Arm.ensures c.in_err-body-in-Arm.was c.from_residual.ensures

pub item-returns-in_err-at-in-Arm : goal.item-returns-in_err-at-in-Arm
unfolding guarded
item-returns-in_err-at-in-Arm t c = arm_block _ _ _ _ _ _ c.args.from.last c.args.self.now.values c.args.self.now.blocks c.args.item _ _ _ _ _ c.in-Arm.is c.node-in-Arm.ensures c.in_ok-body-in-Arm.was c.run.ensures (c.from_residual-in_err-at-in-Arm.ensures ∙ ap (handed c.args.from.last) (sym c.in_err-at-in-Arm.was))

pub item-returns-in_ok-at-in-Arm : goal.item-returns-in_ok-at-in-Arm
unfolding guarded
item-returns-in_ok-at-in-Arm t c = arm_block _ _ _ _ _ _ c.args.from.last c.args.self.now.values c.args.self.now.blocks c.args.item _ _ _ _ _ c.in-Arm.is c.node-in-Arm.ensures c.in_ok-body-in-Arm.was c.run.ensures (ap (handed c.args.from.last) (sym c.in_ok-at-in-Arm.was))
