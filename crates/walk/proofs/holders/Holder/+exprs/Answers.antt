use Rattle.walk.proofs.ExprCode.{inner_fits, no_kind, other_kind, call_fits, call_parts, closure_here, conditional_here, field_here, free_call_here, instance_here, object_field_law, plain_arg, short_arg, static_call_here, struct_field_law}
use Rattle.ir.proofs.Inversion.{expr_moves}
use Rattle.ir.specs.declared.Class.TheVariants.{Expression}
use Rattle.steps.proofs.HeadLaws.{flat_kind, head_here, parts_after}
use Rattle.steps.proofs.RunLaws.{all_cons, all_nil, args_end, args_next, args_some, args_start, args_turn, expr_placed, goes_end, goes_on, goes_stops, node_code_law, one_step, renamed, rest_end, rest_flat, rest_next, rest_start, single_code, single_run, turn}
use Rattle.steps.proofs.StepLaws.{both, emitted, exit, halt, left, made, marked, recode, rerun, unmade}
use Rattle.steps.specs.Walked.{span_of}
use Rattle.ir.specs.Kinds.{expr_code}
use mathlib.Core.Path.{ap, ◌∙◌, refl, sym}
use native.Mathlib.Omega.{arith}
use Rattle.steps.specs.Walked.{lower_all}
use Rattle.walk.proofs.holders.Holder.+exprs.Goals as goal

pub arg-returns-then-short-eq0 : goal.arg-returns-then-short-eq0
arg-returns-then-short-eq0 g t c = recode (plain_arg _ _ _ c.if-short-eq0.true) c.node.ensures

pub arg-returns-in_err-skip : goal.arg-returns-in_err-skip
arg-returns-in_err-skip g t c = exit _ _ c.from_residual.ensures.1 _ (recode (short_arg _ _ _ c.if-short-eq0.false) (unmade _ _ c.in_err-skip.ensures))

pub arg-returns-in_err-node : goal.arg-returns-in_err-node
arg-returns-in_err-node g t c = exit _ _ c.from_residual-in_err-node.ensures.1 _ (recode (short_arg _ _ _ c.if-short-eq0.false) (made _ _ c.in_ok-skip.ensures (both (emitted c.jump.ensures) (halt c.in_err-node.ensures _))))

pub arg-returns : goal.arg-returns
arg-returns g t c = recode (short_arg _ _ _ c.if-short-eq0.false) (made _ _ c.in_ok-skip.ensures (both (emitted c.jump.ensures) (both c.in_ok-node.ensures (marked c.mark_label.ensures c.mark_label.auto.marks))))

pub args-loop-i-init : goal.args-loop-i-init
args-loop-i-init g t c = args_start _ _ _ _ _ _ _ _ _ _ c.requires.at_le_end.0 c.requires.at_le_end.1 c.requires.at_le_end.2 c.requires.accepted

pub args-arg-requires : goal.args-arg-requires
args-arg-requires g t c = let k = args_turn c.loop-i.invariant c.loop-i-test.true in λ _ outlives. (omega arith, (outlives, (k.item, k.next, k.reads)))

pub args-returns-in_err-arg : goal.args-returns-in_err-arg
args-returns-in_err-arg g t c = exit _ _ c.from_residual.ensures.1 _ (goes_stops (args_next c.loop-i.invariant c.loop-i-test.true _ _ _ _ _ c.from-short.ensures refl c.in_err-arg.ensures).rest.goes)

pub args-end_of-i-requires : goal.args-end_of-i-requires
args-end_of-i-requires g t c = let k = args_turn c.loop-i.invariant c.loop-i-test.true in omega (arith, (expr_placed _ _ _ _ k.reads).0, c.args.self.now.nodes.inside)

pub args-overflow_sub-left : goal.args-overflow_sub-left
args-overflow_sub-left g t c = omega (arith, args_some c.loop-i.invariant c.loop-i-test.true)

pub args-loop-i-preserved : goal.args-loop-i-preserved
args-loop-i-preserved g t c = args_next c.loop-i.invariant c.loop-i-test.true _ _ _ _ _ c.from-short.ensures c.end_of-i.ensures c.in_ok-arg.ensures

pub args-returns : goal.args-returns
args-returns g t c = args_end c.loop-i.invariant c.loop-i-test.false c.nops.ensures

pub call-returns-in_err-exit : goal.call-returns-in_err-exit
call-returns-in_err-exit g t c = exit _ _ c.from_residual.ensures.1 _ (recode (call_parts _ _ _ _ _ _ _ c.from-n.ensures refl c.requires.called) (unmade _ _ c.in_err-exit.ensures))

pub call-returns-in_err-check_flags : goal.call-returns-in_err-check_flags
call-returns-in_err-check_flags g t c = exit _ _ c.from_residual-in_err-check_flags.ensures.1 _ (recode (call_parts _ _ _ _ _ _ _ c.from-n.ensures refl c.requires.called) (made _ _ c.in_ok-exit.ensures (halt (left (c.in_err-check_flags.ensures _)) _)))

pub call-args-requires : goal.call-args-requires
call-args-requires g t c = λ _ outlives. (omega arith, (outlives, call_fits _ _ _ _ _ c.from-n.ensures c.requires.called))

pub call-returns-in_err-args : goal.call-returns-in_err-args
call-returns-in_err-args g t c = exit _ _ c.from_residual-in_err-args.ensures.1 _ (recode (call_parts _ _ _ _ _ _ _ c.from-n.ensures refl c.requires.called) (made _ _ c.in_ok-exit.ensures (both (left (c.in_ok-check_flags.ensures _)) (both (emitted c.emit_invoke.ensures) (halt c.in_err-args.ensures _)))))

pub call-returns : goal.call-returns
call-returns g t c = recode (call_parts _ _ _ _ _ _ _ c.from-n.ensures refl c.requires.called) (made _ _ c.in_ok-exit.ensures (both (left (c.in_ok-check_flags.ensures _)) (both (emitted c.emit_invoke.ensures) (both c.in_ok-args.ensures (both (emitted c.plain.ensures) (marked c.mark_label.ensures c.mark_label.auto.marks))))))

pub closure-inner-below-requires : goal.closure-inner-below-requires
closure-inner-below-requires g t c = inner_fits _ _ _ _ c.requires.accepted c.args.self.now.nodes.inside

pub closure-end_of-second-requires : goal.closure-end_of-second-requires
closure-end_of-second-requires g t c = let k = closure_here _ _ _ _ c.requires.accepted _ _ _ c.inner-below.ensures.node (span_of c.args.self.now.span) _ _ _ refl refl refl c.requires.at_value in omega (arith, k.one, (expr_placed _ _ _ _ c.requires.accepted.2).0, c.args.self.now.nodes.inside)

pub closure-u32_inside-name-requires : goal.closure-u32_inside-name-requires
closure-u32_inside-name-requires g t c = let k = closure_here _ _ _ _ c.requires.accepted _ _ _ c.inner-below.ensures.node (span_of c.args.self.now.span) _ _ _ c.end_of-second.ensures refl refl c.requires.at_value in omega (arith, k.fits, c.inner-below.ensures.node, (expr_placed _ _ _ _ c.requires.accepted.2).0, c.args.self.now.nodes.inside)

pub closure-u16_inside-line-requires : goal.closure-u16_inside-line-requires
closure-u16_inside-line-requires g t c = let k = closure_here _ _ _ _ c.requires.accepted _ _ _ c.inner-below.ensures.node (span_of c.args.self.now.span) _ _ _ c.end_of-second.ensures refl refl c.requires.at_value in omega (arith, k.fits, c.inner-below.ensures.node, (expr_placed _ _ _ _ c.requires.accepted.2).0, c.args.self.now.nodes.inside)

pub closure-overflow_add-second : goal.closure-overflow_add-second
closure-overflow_add-second g t c = let k = closure_here _ _ _ _ c.requires.accepted _ _ _ c.inner-below.ensures.node (span_of c.args.self.now.span) _ _ _ c.end_of-second.ensures refl refl c.requires.at_value in omega (arith, k.fits, c.inner-below.ensures.node, (expr_placed _ _ _ _ c.requires.accepted.2).0, c.args.self.now.nodes.inside, c.ranges)

pub closure-returns-in_err-context : goal.closure-returns-in_err-context
closure-returns-in_err-context g t c = let k = closure_here _ _ _ _ c.requires.accepted _ _ _ c.inner-below.ensures.node (span_of c.args.self.now.span) _ _ _ c.end_of-second.ensures c.u32_inside-name.ensures.0 c.u16_inside-line.ensures.0 c.requires.at_value in exit _ _ c.from_residual.ensures.1 _ (recode k.code (unmade _ _ c.in_err-context.ensures))

pub closure-node-requires : goal.closure-node-requires
closure-node-requires g t c = let k = closure_here _ _ _ _ c.requires.accepted _ _ _ c.inner-below.ensures.node (span_of c.args.self.now.span) _ _ _ c.end_of-second.ensures c.u32_inside-name.ensures.0 c.u16_inside-line.ensures.0 c.requires.at_value in λ _ outlives. (omega (arith, (expr_placed _ _ _ _ c.requires.accepted.2).0, c.inner-below.ensures.node), (outlives, k.one.reads))

pub closure-returns-in_err-node : goal.closure-returns-in_err-node
closure-returns-in_err-node g t c = let k = closure_here _ _ _ _ c.requires.accepted _ _ _ c.inner-below.ensures.node (span_of c.args.self.now.span) _ _ _ c.end_of-second.ensures c.u32_inside-name.ensures.0 c.u16_inside-line.ensures.0 c.requires.at_value in exit _ _ c.from_residual-in_err-node.ensures.1 _ (recode k.code (made _ _ c.in_ok-context.ensures (both (emitted c.jump.ensures) (halt c.in_err-node.ensures _))))

pub closure-returns-in_err-past : goal.closure-returns-in_err-past
closure-returns-in_err-past g t c = let k = closure_here _ _ _ _ c.requires.accepted _ _ _ c.inner-below.ensures.node (span_of c.args.self.now.span) _ _ _ c.end_of-second.ensures c.u32_inside-name.ensures.0 c.u16_inside-line.ensures.0 c.requires.at_value in exit _ _ c.from_residual-in_err-past.ensures.1 _ (recode k.code (made _ _ c.in_ok-context.ensures (both (emitted c.jump.ensures) (both c.in_ok-node.ensures (both (marked c.mark_label.ensures c.mark_label.auto.marks) (unmade _ _ c.in_err-past.ensures))))))

pub closure-overflow_add-second-2 : goal.closure-overflow_add-second-2
closure-overflow_add-second-2 g t c = let k = closure_here _ _ _ _ c.requires.accepted _ _ _ c.inner-below.ensures.node (span_of c.args.self.now.span) _ _ _ c.end_of-second.ensures c.u32_inside-name.ensures.0 c.u16_inside-line.ensures.0 c.requires.at_value in omega (arith, k.fits, c.inner-below.ensures.node, (expr_placed _ _ _ _ c.requires.accepted.2).0, c.args.self.now.nodes.inside, c.ranges)

pub closure-exprs-requires : goal.closure-exprs-requires
closure-exprs-requires g t c = let k = closure_here _ _ _ _ c.requires.accepted _ _ _ c.inner-below.ensures.node (span_of c.args.self.now.span) _ _ _ c.end_of-second.ensures c.u32_inside-name.ensures.0 c.u16_inside-line.ensures.0 c.requires.at_value in λ _ outlives. (omega (arith, (expr_placed _ _ _ _ c.requires.accepted.2).0), (outlives, (k.run, k.fits)))

pub closure-returns-in_err-exprs : goal.closure-returns-in_err-exprs
closure-returns-in_err-exprs g t c = let k = closure_here _ _ _ _ c.requires.accepted _ _ _ c.inner-below.ensures.node (span_of c.args.self.now.span) _ _ _ c.end_of-second.ensures c.u32_inside-name.ensures.0 c.u16_inside-line.ensures.0 c.requires.at_value in exit _ _ c.from_residual-in_err-exprs.ensures.1 _ (recode k.code (made _ _ c.in_ok-context.ensures (both (emitted c.jump.ensures) (both c.in_ok-node.ensures (both (marked c.mark_label.ensures c.mark_label.auto.marks) (made _ _ c.in_ok-past.ensures (both (emitted (rw c.invoke_tag.ensures at c.invoke.ensures)) (halt c.in_err-exprs.ensures _))))))))

pub closure-returns : goal.closure-returns
closure-returns g t c = let k = closure_here _ _ _ _ c.requires.accepted _ _ _ c.inner-below.ensures.node (span_of c.args.self.now.span) _ _ _ c.end_of-second.ensures c.u32_inside-name.ensures.0 c.u16_inside-line.ensures.0 c.requires.at_value in recode k.code (made _ _ c.in_ok-context.ensures (both (emitted c.jump.ensures) (both c.in_ok-node.ensures (both (marked c.mark_label.ensures c.mark_label.auto.marks) (made _ _ c.in_ok-past.ensures (both (emitted (rw c.invoke_tag.ensures at c.invoke.ensures)) (both c.in_ok-exprs.ensures (both (emitted c.plain.ensures) (marked c.mark_label-2.ensures c.mark_label-2.auto.marks)))))))))

pub exprs-loop-item-init : goal.exprs-loop-item-init
exprs-loop-item-init g t c = rest_start _ _ _ _ _ _ _ c.requires.at_le_end c.requires.accepted

pub exprs-end_of-stop-requires : goal.exprs-end_of-stop-requires
exprs-end_of-stop-requires g t c = let k = turn _ _ _ (expr_moves _ _ _) c.loop-item-test.true c.loop-item.invariant.reads in let z = expr_placed _ _ _ _ k.reads in omega (arith, z.0, c.args.self.now.nodes.inside)

pub exprs-bounds-self-item : goal.exprs-bounds-self-item
exprs-bounds-self-item g t c = let k = turn _ _ _ (expr_moves _ _ _) c.loop-item-test.true c.loop-item.invariant.reads in let z = expr_placed _ _ _ _ k.reads in omega (arith, z.0, c.args.self.now.nodes.inside)

pub exprs-labelled-requires : goal.exprs-labelled-requires
exprs-labelled-requires g t c = let k = turn _ _ _ (expr_moves _ _ _) c.loop-item-test.true c.loop-item.invariant.reads in let z = expr_placed _ _ _ _ k.reads in λ _ outlives. (omega arith, (outlives, ((k.item, k.next, k.reads), sym c.makes_labels.ensures ∙ c.if-makes_labels.true)))

pub exprs-returns-in_err-labelled : goal.exprs-returns-in_err-labelled
exprs-returns-in_err-labelled g t c = let k = turn _ _ _ (expr_moves _ _ _) c.loop-item-test.true c.loop-item.invariant.reads in let z = expr_placed _ _ _ _ k.reads in
    exit _ _ c.from_residual.ensures.1 _ (goes_stops (rest_next _ _ (lower_all Expression (span_of c.args.self.now.span)) _ _ _ _ _ _ _ _ _ _ _ _ _ c.loop-item.invariant k (z.1 ∙ sym c.end_of-stop.ensures) (omega (arith, z.0, c.end_of-stop.ensures))
    (goes_on (renamed _ _ _ (all_cons Expression (span_of c.args.self.now.span) k.item k.others)) (one_step _ (recode (sym (node_code_law Expression _ _ _ _ (span_of c.args.self.now.span) k.reads)) c.in_err-labelled.ensures)))).goes)

pub exprs-loop-item-preserved-then-makes_labels : goal.exprs-loop-item-preserved-then-makes_labels
exprs-loop-item-preserved-then-makes_labels g t c = let k = turn _ _ _ (expr_moves _ _ _) c.loop-item-test.true c.loop-item.invariant.reads in let z = expr_placed _ _ _ _ k.reads in
    rest_next _ _ _ _ _ _ _ _ _ _ _ _ _ _ _ _ c.loop-item.invariant k (z.1 ∙ sym c.end_of-stop.ensures) (omega (arith, z.0, c.end_of-stop.ensures))
    (goes_on (renamed _ _ _ (all_cons Expression (span_of c.args.self.now.span) k.item k.others)) (one_step _ (recode (sym (node_code_law Expression _ _ _ _ (span_of c.args.self.now.span) k.reads)) c.in_ok-labelled.ensures)))

pub exprs-head-requires : goal.exprs-head-requires
exprs-head-requires g t c = let k = turn _ _ _ (expr_moves _ _ _) c.loop-item-test.true c.loop-item.invariant.reads in (k.item, k.next, k.reads)

pub exprs-returns-in_err-head : goal.exprs-returns-in_err-head
exprs-returns-in_err-head g t c = let k = turn _ _ _ (expr_moves _ _ _) c.loop-item-test.true c.loop-item.invariant.reads in let z = expr_placed _ _ _ _ k.reads in let h = head_here _ _ _ _ (k.item, k.next, k.reads) (span_of c.args.self.now.span) _ _ c.end_of-stop.ensures refl (flat_kind _ (sym c.makes_labels.ensures ∙ c.if-makes_labels.false)) in exit _ _ c.from_residual-in_err-head.ensures.1 _ (goes_stops (rest_flat Expression _ _ (span_of c.args.self.now.span) _ _ _ _ _ _ _ _ _ _ _ _ c.loop-item.invariant c.loop-item-test.true _ _ _ _ (omega arith) c.end_of-stop.ensures h.from h.reads h.same (emitted c.in_err-head.ensures)).goes)

pub exprs-parts_at-item-requires : goal.exprs-parts_at-item-requires
exprs-parts_at-item-requires g t c = let k = turn _ _ _ (expr_moves _ _ _) c.loop-item-test.true c.loop-item.invariant.reads in let z = expr_placed _ _ _ _ k.reads in omega (arith, z.0, c.args.self.now.nodes.inside)

pub exprs-loop-item-smaller : goal.exprs-loop-item-smaller
exprs-loop-item-smaller g t c = let k = turn _ _ _ (expr_moves _ _ _) c.loop-item-test.true c.loop-item.invariant.reads in let z = expr_placed _ _ _ _ k.reads in omega (arith, parts_after _ _ _ _ c.parts_at-item.ensures (omega (arith, z.0, c.end_of-stop.ensures)))

pub exprs-loop-item-preserved : goal.exprs-loop-item-preserved
exprs-loop-item-preserved g t c = let k = turn _ _ _ (expr_moves _ _ _) c.loop-item-test.true c.loop-item.invariant.reads in let z = expr_placed _ _ _ _ k.reads in let h = head_here _ _ _ _ (k.item, k.next, k.reads) (span_of c.args.self.now.span) _ _ c.end_of-stop.ensures c.parts_at-item.ensures (flat_kind _ (sym c.makes_labels.ensures ∙ c.if-makes_labels.false)) in rest_flat Expression _ _ (span_of c.args.self.now.span) _ _ _ _ _ _ _ _ _ _ _ _ c.loop-item.invariant c.loop-item-test.true _ _ _ _ (omega arith) c.end_of-stop.ensures h.from h.reads h.same (emitted c.in_ok-head.ensures)

pub exprs-returns : goal.exprs-returns
exprs-returns g t c = goes_end (goes_on (rest_end _ _ _ _ _ _ _ _ _ _ _ (expr_moves _ _ _) c.loop-item-test.false c.loop-item.invariant) (renamed _ _ _ (all_nil Expression (span_of c.args.self.now.span))))

pub field-inner-below-requires : goal.field-inner-below-requires
field-inner-below-requires g t c = inner_fits _ _ _ _ c.requires.accepted c.args.self.now.nodes.inside

pub field-bounds-self-at : goal.field-bounds-self-at
field-bounds-self-at g t c = let k = field_here _ _ _ _ c.requires.accepted _ _ _ c.inner-below.ensures.node _ _ refl refl c.requires.at_value in omega (arith, k.one, (expr_placed _ _ _ _ c.requires.accepted.2).0, c.args.self.now.nodes.inside)

pub field-u32_inside-name-requires : goal.field-u32_inside-name-requires
field-u32_inside-name-requires g t c = let k = field_here _ _ _ _ c.requires.accepted _ _ _ c.inner-below.ensures.node _ _ refl refl c.requires.at_value in omega (arith, k.one, c.inner-below.ensures.node, (expr_placed _ _ _ _ c.requires.accepted.2).0, c.args.self.now.nodes.inside)

pub field-node-requires : goal.field-node-requires
field-node-requires g t c = let k = field_here _ _ _ _ c.requires.accepted _ _ _ c.inner-below.ensures.node _ _ c.from-form.ensures c.u32_inside-name.ensures.0 c.requires.at_value in λ _ outlives. (omega (arith, (expr_placed _ _ _ _ c.requires.accepted.2).0, c.inner-below.ensures.node), (outlives, k.one.reads))

pub field-returns-then-form-eq0 : goal.field-returns-then-form-eq0
field-returns-then-form-eq0 g t c = let k = field_here _ _ _ _ c.requires.accepted _ _ _ c.inner-below.ensures.node _ _ c.from-form.ensures c.u32_inside-name.ensures.0 c.requires.at_value in recode (k.code ∙ struct_field_law _ _ _ c.if-form-eq0.true) (both (emitted c.plain.ensures) c.node.ensures)

pub field-returns-in_err-exit : goal.field-returns-in_err-exit
field-returns-in_err-exit g t c = let k = field_here _ _ _ _ c.requires.accepted _ _ _ c.inner-below.ensures.node _ _ c.from-form.ensures c.u32_inside-name.ensures.0 c.requires.at_value in exit _ _ c.from_residual.ensures.1 _ (recode (k.code ∙ object_field_law _ _ _ c.if-form-eq0.false) (unmade _ _ c.in_err-exit.ensures))

pub field-node-requires-2 : goal.field-node-requires-2
field-node-requires-2 g t c = let k = field_here _ _ _ _ c.requires.accepted _ _ _ c.inner-below.ensures.node _ _ c.from-form.ensures c.u32_inside-name.ensures.0 c.requires.at_value in λ _ outlives. (omega (arith, (expr_placed _ _ _ _ c.requires.accepted.2).0, c.inner-below.ensures.node), (outlives, k.one.reads))

pub field-returns-in_err-node : goal.field-returns-in_err-node
field-returns-in_err-node g t c = let k = field_here _ _ _ _ c.requires.accepted _ _ _ c.inner-below.ensures.node _ _ c.from-form.ensures c.u32_inside-name.ensures.0 c.requires.at_value in exit _ _ c.from_residual-in_err-node.ensures.1 _ (recode (k.code ∙ object_field_law _ _ _ c.if-form-eq0.false) (made _ _ c.in_ok-exit.ensures (both (emitted c.jump.ensures) (both (emitted c.weak_to_ref.ensures) (halt c.in_err-node.ensures _)))))

pub field-returns : goal.field-returns
field-returns g t c = let k = field_here _ _ _ _ c.requires.accepted _ _ _ c.inner-below.ensures.node _ _ c.from-form.ensures c.u32_inside-name.ensures.0 c.requires.at_value in recode (k.code ∙ object_field_law _ _ _ c.if-form-eq0.false) (made _ _ c.in_ok-exit.ensures (both (emitted c.jump.ensures) (both (emitted c.weak_to_ref.ensures) (both c.in_ok-node.ensures (both (emitted c.plain-2.ensures) (marked c.mark_label.ensures c.mark_label.auto.marks))))))

pub instance-inner-below-requires : goal.instance-inner-below-requires
instance-inner-below-requires g t c = inner_fits _ _ _ _ c.requires.accepted c.args.self.now.nodes.inside

pub instance-end_of-second-requires : goal.instance-end_of-second-requires
instance-end_of-second-requires g t c = let k = instance_here _ _ _ _ c.requires.accepted _ _ _ c.inner-below.ensures.node _ _ refl refl c.requires.at_value in omega (arith, k.one, (expr_placed _ _ _ _ c.requires.accepted.2).0, c.args.self.now.nodes.inside)

pub instance-bounds-self-at : goal.instance-bounds-self-at
instance-bounds-self-at g t c = let k = instance_here _ _ _ _ c.requires.accepted _ _ _ c.inner-below.ensures.node _ _ refl refl c.requires.at_value in omega (arith, k.one, (expr_placed _ _ _ _ c.requires.accepted.2).0, c.args.self.now.nodes.inside)

pub instance-returns-in_err-exit : goal.instance-returns-in_err-exit
instance-returns-in_err-exit g t c = let k = instance_here _ _ _ _ c.requires.accepted _ _ _ c.inner-below.ensures.node _ _ c.from-weak.ensures c.end_of-second.ensures c.requires.at_value in exit _ _ c.from_residual.ensures.1 _ (recode k.code (unmade _ _ c.in_err-exit.ensures))

pub instance-node-requires : goal.instance-node-requires
instance-node-requires g t c = let k = instance_here _ _ _ _ c.requires.accepted _ _ _ c.inner-below.ensures.node _ _ c.from-weak.ensures c.end_of-second.ensures c.requires.at_value in λ _ outlives. (omega (arith, (expr_placed _ _ _ _ c.requires.accepted.2).0, c.inner-below.ensures.node), (outlives, k.one.reads))

pub instance-returns-in_err-node : goal.instance-returns-in_err-node
instance-returns-in_err-node g t c = let k = instance_here _ _ _ _ c.requires.accepted _ _ _ c.inner-below.ensures.node _ _ c.from-weak.ensures c.end_of-second.ensures c.requires.at_value in exit _ _ c.from_residual-in_err-node.ensures.1 _ (recode k.code (made _ _ c.in_ok-exit.ensures (both (emitted c.jump.ensures) (both (emitted c.weak_to_ref.ensures) (halt c.in_err-node.ensures _)))))

pub instance-call-requires : goal.instance-call-requires
instance-call-requires g t c = let k = instance_here _ _ _ _ c.requires.accepted _ _ _ c.inner-below.ensures.node _ _ c.from-weak.ensures c.end_of-second.ensures c.requires.at_value in λ _ outlives. (omega (arith, (expr_placed _ _ _ _ c.requires.accepted.2).0), (outlives, k.call))

pub instance-returns-in_err-call : goal.instance-returns-in_err-call
instance-returns-in_err-call g t c = let k = instance_here _ _ _ _ c.requires.accepted _ _ _ c.inner-below.ensures.node _ _ c.from-weak.ensures c.end_of-second.ensures c.requires.at_value in exit _ _ c.from_residual-in_err-call.ensures.1 _ (recode k.code (made _ _ c.in_ok-exit.ensures (both (emitted c.jump.ensures) (both (emitted c.weak_to_ref.ensures) (both c.in_ok-node.ensures (halt c.in_err-call.ensures _))))))

pub instance-returns : goal.instance-returns
instance-returns g t c = let k = instance_here _ _ _ _ c.requires.accepted _ _ _ c.inner-below.ensures.node _ _ c.from-weak.ensures c.end_of-second.ensures c.requires.at_value in recode k.code (made _ _ c.in_ok-exit.ensures (both (emitted c.jump.ensures) (both (emitted c.weak_to_ref.ensures) (both c.in_ok-node.ensures (both c.in_ok-call.ensures (marked c.mark_label.ensures c.mark_label.auto.marks))))))

pub labelled-overflow_add-at : goal.labelled-overflow_add-at
labelled-overflow_add-at g t c = omega (arith, (expr_placed _ _ _ _ c.requires.accepted.2).0, c.args.self.now.nodes.inside)

pub labelled-bounds-self-at : goal.labelled-bounds-self-at
labelled-bounds-self-at g t c = omega (arith, (expr_placed _ _ _ _ c.requires.accepted.2).0, c.args.self.now.nodes.inside)

pub labelled-returns-in_default : goal.labelled-returns-in_default
labelled-returns-in_default g t c = absurd (no_kind _ c.requires.at_value c.in_default.ensures.1)

pub labelled-inner-requires : goal.labelled-inner-requires
labelled-inner-requires g t c = inner_fits _ _ _ _ c.requires.accepted c.args.self.now.nodes.inside

pub labelled-call-requires : goal.labelled-call-requires
labelled-call-requires g t c = let k = free_call_here _ _ _ _ c.requires.accepted _ _ _ c.inner.ensures.node (sym c.in-Ok.ensures ∙ ap expr_code c.in-FreeCall.is) in λ _ outlives. (omega (arith, (expr_placed _ _ _ _ c.requires.accepted.2).0, c.inner.ensures.node), (outlives, k.0))

pub labelled-returns-in_err-exit-in-StaticCall : goal.labelled-returns-in_err-exit-in-StaticCall
labelled-returns-in_err-exit-in-StaticCall g t c = exit _ _ c.from_residual.ensures.1 _ (recode (static_call_here _ _ _ _ c.requires.accepted _ _ _ (refl, refl, refl) (sym c.in-Ok.ensures ∙ ap expr_code c.in-StaticCall.is)).1 (unmade _ _ c.in_err-exit-in-StaticCall.ensures))

pub labelled-inner-requires-in-StaticCall : goal.labelled-inner-requires-in-StaticCall
labelled-inner-requires-in-StaticCall g t c = inner_fits _ _ _ _ c.requires.accepted c.args.self.now.nodes.inside

pub labelled-call-requires-in-StaticCall : goal.labelled-call-requires-in-StaticCall
labelled-call-requires-in-StaticCall g t c = let k = static_call_here _ _ _ _ c.requires.accepted _ _ _ c.inner-in-StaticCall.ensures.node (sym c.in-Ok.ensures ∙ ap expr_code c.in-StaticCall.is) in λ _ outlives. (omega (arith, (expr_placed _ _ _ _ c.requires.accepted.2).0, c.inner-in-StaticCall.ensures.node), (outlives, k.0))

pub labelled-returns-in_err-call-in-StaticCall : goal.labelled-returns-in_err-call-in-StaticCall
labelled-returns-in_err-call-in-StaticCall g t c = exit _ _ c.from_residual-in_err-call-in-StaticCall.ensures.1 _ (recode (static_call_here _ _ _ _ c.requires.accepted _ _ _ c.inner-in-StaticCall.ensures.node (sym c.in-Ok.ensures ∙ ap expr_code c.in-StaticCall.is)).1 (made _ _ c.in_ok-exit-in-StaticCall.ensures (halt c.in_err-call-in-StaticCall.ensures _)))

pub labelled-returns-in-FreeCall : goal.labelled-returns-in-FreeCall
labelled-returns-in-FreeCall g t c = recode (free_call_here _ _ _ _ c.requires.accepted _ _ _ c.inner.ensures.node (sym c.in-Ok.ensures ∙ ap expr_code c.in-FreeCall.is)).1 c.call.ensures

pub labelled-returns-in_ok-call-in-StaticCall : goal.labelled-returns-in_ok-call-in-StaticCall
labelled-returns-in_ok-call-in-StaticCall g t c = recode (static_call_here _ _ _ _ c.requires.accepted _ _ _ c.inner-in-StaticCall.ensures.node (sym c.in-Ok.ensures ∙ ap expr_code c.in-StaticCall.is)).1 (made _ _ c.in_ok-exit-in-StaticCall.ensures (both c.in_ok-call-in-StaticCall.ensures (marked c.mark_label.ensures c.mark_label.auto.marks)))

pub labelled-returns-in_default-kind : goal.labelled-returns-in_default-kind
labelled-returns-in_default-kind g t c = absurd (other_kind _ _ c.in-Ok.ensures c.requires.at_value c.in_default-kind.not-Field c.in_default-kind.not-Conditional c.in_default-kind.not-FreeCall c.in_default-kind.not-StaticCall c.in_default-kind.not-InstanceCall c.in_default-kind.not-ClosureCall)

pub node-end_of-end-requires : goal.node-end_of-end-requires
node-end_of-end-requires g t c = omega (arith, inner_fits _ _ _ _ c.requires.accepted c.args.self.now.nodes.inside)

pub node-up_to-requires : goal.node-up_to-requires
node-up_to-requires g t c = omega (arith, inner_fits _ _ _ _ c.requires.accepted c.args.self.now.nodes.inside, c.end_of-end.ensures)

pub node-exprs-requires : goal.node-exprs-requires
node-exprs-requires g t c = let z = expr_placed _ _ _ _ c.requires.accepted.2 in λ _ outlives. (omega (arith, c.up_to.ensures), (outlives, rw (c.up_to.ensures.0, c.up_to.ensures.2) (single_run _ _ _ _ _ (c.up_to.ensures.1 ∙ c.end_of-end.ensures) c.requires.accepted, omega (arith, z.0, c.up_to.ensures, c.end_of-end.ensures))))

pub node-returns : goal.node-returns
node-returns g t c = rerun (single_code _ _ _ _ _ (c.up_to.ensures.1 ∙ c.end_of-end.ensures) c.requires.accepted (span_of c.args.self.now.span)) (rw (c.up_to.ensures.0, c.up_to.ensures.2, c.up_to.ensures.3) at c.exprs.ensures)

pub ternary-inner-below-requires : goal.ternary-inner-below-requires
ternary-inner-below-requires g t c = inner_fits _ _ _ _ c.requires.accepted c.args.self.now.nodes.inside

pub ternary-end_of-second-requires : goal.ternary-end_of-second-requires
ternary-end_of-second-requires g t c = let k = conditional_here _ _ _ _ c.requires.accepted _ _ _ c.inner-below.ensures.node _ _ refl refl c.requires.at_value in omega (arith, k.one, (expr_placed _ _ _ _ c.requires.accepted.2).0, c.args.self.now.nodes.inside)

pub ternary-end_of-third-requires : goal.ternary-end_of-third-requires
ternary-end_of-third-requires g t c = let k = conditional_here _ _ _ _ c.requires.accepted _ _ _ c.inner-below.ensures.node _ _ refl refl c.requires.at_value in omega (arith, k.two, c.end_of-second.ensures, (expr_placed _ _ _ _ c.requires.accepted.2).0, c.args.self.now.nodes.inside)

pub ternary-returns-in_err-other : goal.ternary-returns-in_err-other
ternary-returns-in_err-other g t c = let k = conditional_here _ _ _ _ c.requires.accepted _ _ _ c.inner-below.ensures.node _ _ c.end_of-second.ensures c.end_of-third.ensures c.requires.at_value in exit _ _ c.from_residual.ensures.1 _ (recode k.code (unmade _ _ c.in_err-other.ensures))

pub ternary-returns-in_err-exit : goal.ternary-returns-in_err-exit
ternary-returns-in_err-exit g t c = let k = conditional_here _ _ _ _ c.requires.accepted _ _ _ c.inner-below.ensures.node _ _ c.end_of-second.ensures c.end_of-third.ensures c.requires.at_value in exit _ _ c.from_residual-in_err-exit.ensures.1 _ (recode k.code (made _ _ c.in_ok-other.ensures (unmade _ _ c.in_err-exit.ensures)))

pub ternary-node-requires : goal.ternary-node-requires
ternary-node-requires g t c = let k = conditional_here _ _ _ _ c.requires.accepted _ _ _ c.inner-below.ensures.node _ _ c.end_of-second.ensures c.end_of-third.ensures c.requires.at_value in λ _ outlives. (omega (arith, (expr_placed _ _ _ _ c.requires.accepted.2).0, c.inner-below.ensures.node), (outlives, k.one.reads))

pub ternary-returns-in_err-node : goal.ternary-returns-in_err-node
ternary-returns-in_err-node g t c = let k = conditional_here _ _ _ _ c.requires.accepted _ _ _ c.inner-below.ensures.node _ _ c.end_of-second.ensures c.end_of-third.ensures c.requires.at_value in exit _ _ c.from_residual-in_err-node.ensures.1 _ (recode k.code (made _ _ c.in_ok-other.ensures (made _ _ c.in_ok-exit.ensures (both (emitted c.jumps.ensures) (halt c.in_err-node.ensures _)))))

pub ternary-node-requires-2 : goal.ternary-node-requires-2
ternary-node-requires-2 g t c = let k = conditional_here _ _ _ _ c.requires.accepted _ _ _ c.inner-below.ensures.node _ _ c.end_of-second.ensures c.end_of-third.ensures c.requires.at_value in λ _ outlives. (omega (arith, (expr_placed _ _ _ _ c.requires.accepted.2).0), (outlives, k.two.reads))

pub ternary-returns-in_err-node-2 : goal.ternary-returns-in_err-node-2
ternary-returns-in_err-node-2 g t c = let k = conditional_here _ _ _ _ c.requires.accepted _ _ _ c.inner-below.ensures.node _ _ c.end_of-second.ensures c.end_of-third.ensures c.requires.at_value in exit _ _ c.from_residual-in_err-node-2.ensures.1 _ (recode k.code (made _ _ c.in_ok-other.ensures (made _ _ c.in_ok-exit.ensures (both (emitted c.jumps.ensures) (both c.in_ok-node.ensures (halt c.in_err-node-2.ensures _))))))

pub ternary-node-requires-3 : goal.ternary-node-requires-3
ternary-node-requires-3 g t c = let k = conditional_here _ _ _ _ c.requires.accepted _ _ _ c.inner-below.ensures.node _ _ c.end_of-second.ensures c.end_of-third.ensures c.requires.at_value in λ _ outlives. (omega (arith, (expr_placed _ _ _ _ c.requires.accepted.2).0), (outlives, k.three.reads))

pub ternary-returns-in_err-node-3 : goal.ternary-returns-in_err-node-3
ternary-returns-in_err-node-3 g t c = let k = conditional_here _ _ _ _ c.requires.accepted _ _ _ c.inner-below.ensures.node _ _ c.end_of-second.ensures c.end_of-third.ensures c.requires.at_value in exit _ _ c.from_residual-in_err-node-3.ensures.1 _ (recode k.code (made _ _ c.in_ok-other.ensures (made _ _ c.in_ok-exit.ensures (both (emitted c.jumps.ensures) (both c.in_ok-node.ensures (both c.in_ok-node-2.ensures (both (marked c.mark_label.ensures c.mark_label.auto.marks) (halt c.in_err-node-3.ensures _))))))))

pub ternary-returns : goal.ternary-returns
ternary-returns g t c = let k = conditional_here _ _ _ _ c.requires.accepted _ _ _ c.inner-below.ensures.node _ _ c.end_of-second.ensures c.end_of-third.ensures c.requires.at_value in recode k.code (made _ _ c.in_ok-other.ensures (made _ _ c.in_ok-exit.ensures (both (emitted c.jumps.ensures) (both c.in_ok-node.ensures (both c.in_ok-node-2.ensures (both (marked c.mark_label.ensures c.mark_label.auto.marks) (both c.in_ok-node-3.ensures (marked c.mark_label-2.ensures c.mark_label-2.auto.marks))))))))
