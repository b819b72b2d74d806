use Prim.Native.Nat.{◌+◌, ◌<◌}
use Rattle.walk.proofs.CaseLaws.{arms_arm, arms_end, arms_next, arms_start, arms_turn, cases_arm, cases_end, cases_next, cases_start, cases_turn, ends_false, ends_true}
use Rattle.walk.proofs.MidLaws.{as_inside, bodies_arm, bodies_end, bodies_next, bodies_start, cased_at, cased_one, counted_at, default_any, few_arms, inside_last, inside_mid, inside_none, inside_refused, is_there, mid_cased, mid_did, mid_here, mid_there}
use Rattle.ir.specs.Kinds as kinds
use Rattle.walk.proofs.StmtCode.{stmt_fits, a_default, arm_here, branches_here, break_code, continue_code, default_code, eval_here, init_here, nest_here, no_default_code, no_stmt, switch_here, while_here}
use Rattle.definitions.specs.Code.{◌then◌, act, mark}
use Rattle.definitions.specs.Lower.{jump, jumps}
use Rattle.definitions.specs.Tag.{Jump, JumpIfFalse, SwitchLabel}
use Rattle.ir.proofs.Inversion.{stmt_moves}
use Rattle.ir.specs.declared.Class.TheVariants.{Statement}
use Rattle.steps.proofs.RunLaws.{all_cons, all_nil, goes_end, goes_on, goes_stops, node_code_law, one_step, renamed, rest_end, rest_flat, rest_next, rest_start, stmt_placed, turn}
use Rattle.steps.proofs.StepLaws.{both, emit_stays, emitted, exit, halt, jumps_to, label_stays, made, mark_did, marked, nothing, numbered, recode, rerun, same_back, same_code, same_done, same_on, stays, unmade}
use Rattle.steps.specs.Walked.{ending, group_label, lower_all, span_of, target_of}
use mathlib.Core.Path.{ap, ◌∙◌, refl, sym}
use native.Mathlib.Omega.{arith}
use Rattle.std.proofs.Common.{not}
use Rattle.std.specs.Bool.{then_some}
use Rattle.std.specs.Prelude as std
use Rattle.steps.proofs.LeafLaws.{group_closed}
use Rattle.walk.proofs.holders.Holder.+stmts.Goals as goal

pub arm-end_of-second-requires : goal.arm-end_of-second-requires
arm-end_of-second-requires g t c = let k = arm_here _ _ _ _ c.requires.accepted _ _ refl refl in omega (arith, k.one, k.fits, k.tail, c.args.self.now.nodes.inside)

pub arm-end_of-third-requires : goal.arm-end_of-third-requires
arm-end_of-third-requires g t c = let k = arm_here _ _ _ _ c.requires.accepted _ _ c.end_of-second.ensures refl in omega (arith, k.fits, k.tail, c.args.self.now.nodes.inside)

pub arm-node-requires : goal.arm-node-requires
arm-node-requires g t c = let k = arm_here _ _ _ _ c.requires.accepted _ _ c.end_of-second.ensures c.end_of-third.ensures in record { accepted = k.one.reads }

pub arm-returns-in_err-node : goal.arm-returns-in_err-node
arm-returns-in_err-node g t c = let k = arm_here _ _ _ _ c.requires.accepted _ _ c.end_of-second.ensures c.end_of-third.ensures in exit _ _ c.from_residual.ensures.1 _ (recode (k.code (λ p q. jump c.args.site JumpIfFalse c.args.next then p then q then jump c.args.site Jump c.args.exit then act (mark c.args.next)) (span_of c.args.self.now.span)) (both (emitted c.jump.ensures) (halt c.in_err-node.ensures _)))

pub arm-up_to-requires : goal.arm-up_to-requires
arm-up_to-requires g t c = let k = arm_here _ _ _ _ c.requires.accepted _ _ c.end_of-second.ensures c.end_of-third.ensures in omega (arith, k.tail, c.args.self.now.nodes.inside)

pub arm-stmts-requires : goal.arm-stmts-requires
arm-stmts-requires g t c = let k = arm_here _ _ _ _ c.requires.accepted _ _ c.end_of-second.ensures c.end_of-third.ensures in λ _ outlives. (omega (arith, c.up_to.ensures), (outlives, rw (c.up_to.ensures.0, c.up_to.ensures.1, c.up_to.ensures.2) (k.block, k.fits)))

pub arm-returns-in_err-stmts : goal.arm-returns-in_err-stmts
arm-returns-in_err-stmts g t c = let k = arm_here _ _ _ _ c.requires.accepted _ _ c.end_of-second.ensures c.end_of-third.ensures in exit _ _ c.from_residual-in_err-stmts.ensures.1 _ (recode (k.code (λ p q. jump c.args.site JumpIfFalse c.args.next then p then q then jump c.args.site Jump c.args.exit then act (mark c.args.next)) (span_of c.args.self.now.span)) (both (emitted c.jump.ensures) (both c.in_ok-node.ensures (halt (rw (c.up_to.ensures.0, c.up_to.ensures.1, c.up_to.ensures.2, c.up_to.ensures.3) at c.in_err-stmts.ensures) _))))

pub arm-returns : goal.arm-returns
arm-returns g t c = let k = arm_here _ _ _ _ c.requires.accepted _ _ c.end_of-second.ensures c.end_of-third.ensures in recode (k.code (λ p q. jump c.args.site JumpIfFalse c.args.next then p then q then jump c.args.site Jump c.args.exit then act (mark c.args.next)) (span_of c.args.self.now.span)) (both (emitted c.jump.ensures) (both c.in_ok-node.ensures (both (rw (c.up_to.ensures.0, c.up_to.ensures.1, c.up_to.ensures.2, c.up_to.ensures.3) at c.in_ok-stmts.ensures) (both (emitted c.jump-2.ensures) (marked c.mark_label.ensures c.mark_label.auto.marks)))))

pub arms-loop-i-init : goal.arms-loop-i-init
arms-loop-i-init g t c = arms_start _ _ _ _ _ _ _ _ _ _ _ c.requires.at_le_end c.requires.accepted

pub arms-arm-requires : goal.arms-arm-requires
arms-arm-requires g t c = let k = arms_turn c.loop-i.invariant c.loop-i-test.true in λ _ outlives. (omega arith, (outlives, (k.item, k.next, k.reads)))

pub arms-returns-in_err-arm : goal.arms-returns-in_err-arm
arms-returns-in_err-arm g t c = exit _ _ c.from_residual.ensures.1 _ (goes_stops (arms_next c.loop-i.invariant c.loop-i-test.true _ _ _ _ _ _ _ _ refl refl c.in_err-arm.ensures refl (label_stays _ _ _ _ refl)).rest.goes)

pub arms-returns-in_err-next : goal.arms-returns-in_err-next
arms-returns-in_err-next g t c = exit _ _ c.from_residual-in_err-next.ensures.1 _ (goes_stops (arms_next c.loop-i.invariant c.loop-i-test.true _ _ _ _ _ _ _ _ refl refl c.in_ok-arm.ensures refl c.in_err-next.ensures.did).rest.goes)

pub arms-end_of-second-requires : goal.arms-end_of-second-requires
arms-end_of-second-requires g t c = let k = arms_arm c.loop-i.invariant c.loop-i-test.true _ _ refl refl in omega (arith, k.one, k.fits, k.tail, c.args.self.now.nodes.inside)

pub arms-end_of-i-requires : goal.arms-end_of-i-requires
arms-end_of-i-requires g t c = let k = arms_arm c.loop-i.invariant c.loop-i-test.true _ _ c.end_of-second.ensures refl in omega (arith, k.fits, k.tail, c.args.self.now.nodes.inside)

pub arms-loop-i-preserved : goal.arms-loop-i-preserved
arms-loop-i-preserved g t c = arms_next c.loop-i.invariant c.loop-i-test.true _ _ _ _ _ _ _ _ c.end_of-second.ensures c.end_of-i.ensures c.in_ok-arm.ensures (numbered _ c.in_ok-next.ensures.number) c.in_ok-next.ensures.did

pub arms-returns : goal.arms-returns
arms-returns g t c = arms_end c.loop-i.invariant c.loop-i-test.false

pub bodies-loop-i-init : goal.bodies-loop-i-init
bodies-loop-i-init g t c = bodies_start _ _ _ _ _ _ _ _ _ _ _ _ c.requires.at_le_end.0 c.requires.accepted

pub bodies-end_of-second-requires : goal.bodies-end_of-second-requires
bodies-end_of-second-requires g t c = let k = bodies_arm c.loop-i.invariant c.loop-i-test.true _ _ refl refl in omega (arith, k.one, k.fits, k.tail, c.requires.at_le_end, c.args.self.now.nodes.inside)

pub bodies-end_of-third-requires : goal.bodies-end_of-third-requires
bodies-end_of-third-requires g t c = let k = bodies_arm c.loop-i.invariant c.loop-i-test.true _ _ c.end_of-second.ensures refl in omega (arith, k.fits, k.tail, c.requires.at_le_end, c.args.self.now.nodes.inside)

pub bodies-default-requires : goal.bodies-default-requires
bodies-default-requires g t c = λ _ outlives. (omega arith, (outlives, default_any _ _ _ _ _ c.requires.default_here))

pub bodies-returns-in_err-default : goal.bodies-returns-in_err-default
bodies-returns-in_err-default g t c = exit _ _ c.from_residual.ensures.1 _ (goes_stops (bodies_next c.loop-i.invariant c.loop-i-test.true _ _ _ _ _ _ _ _ _ _ _ _ _ c.end_of-second.ensures c.end_of-third.ensures c.is_same-here.ensures c.mark_if.ensures c.in_err-default.ensures (label_stays _ _ _ _ refl) (stays _ _ _ _ _ refl)).rest.goes)

pub bodies-up_to-requires : goal.bodies-up_to-requires
bodies-up_to-requires g t c = let k = bodies_arm c.loop-i.invariant c.loop-i-test.true _ _ c.end_of-second.ensures c.end_of-third.ensures in omega (arith, k.tail, c.requires.at_le_end, c.args.self.now.nodes.inside)

pub bodies-stmts-requires : goal.bodies-stmts-requires
bodies-stmts-requires g t c = let k = bodies_arm c.loop-i.invariant c.loop-i-test.true _ _ c.end_of-second.ensures c.end_of-third.ensures in λ _ outlives. (omega (arith, c.up_to.ensures), (outlives, rw (c.up_to.ensures.0, c.up_to.ensures.1, c.up_to.ensures.2) (k.block, k.fits)))

pub bodies-returns-in_err-stmts : goal.bodies-returns-in_err-stmts
bodies-returns-in_err-stmts g t c = exit _ _ c.from_residual-in_err-stmts.ensures.1 _ (goes_stops (bodies_next c.loop-i.invariant c.loop-i-test.true _ _ _ _ _ _ _ _ _ _ _ _ _ c.end_of-second.ensures c.end_of-third.ensures c.is_same-here.ensures c.mark_if.ensures c.in_ok-default.ensures (mark_did _ _ _ _ c.mark_label.ensures c.mark_label.auto.marks) (rw (c.up_to.ensures.0, c.up_to.ensures.1, c.up_to.ensures.2, c.up_to.ensures.3) at c.in_err-stmts.ensures)).rest.goes)

pub bodies-loop-i-preserved : goal.bodies-loop-i-preserved
bodies-loop-i-preserved g t c = bodies_next c.loop-i.invariant c.loop-i-test.true _ _ _ _ _ _ _ _ _ _ _ _ _ c.end_of-second.ensures c.end_of-third.ensures c.is_same-here.ensures c.mark_if.ensures c.in_ok-default.ensures (mark_did _ _ _ _ c.mark_label.ensures c.mark_label.auto.marks) (rw (c.up_to.ensures.0, c.up_to.ensures.1, c.up_to.ensures.2, c.up_to.ensures.3) at c.in_ok-stmts.ensures)

pub bodies-returns : goal.bodies-returns
bodies-returns g t c = bodies_end c.loop-i.invariant c.loop-i-test.false

pub branches-inner-below-requires : goal.branches-inner-below-requires
branches-inner-below-requires g t c = stmt_fits _ _ _ _ c.requires.accepted c.args.self.now.nodes.inside

pub branches-end_of-list-requires : goal.branches-end_of-list-requires
branches-end_of-list-requires g t c = let k = branches_here _ _ _ _ (span_of c.args.self.now.span) c.requires.accepted _ _ _ c.inner-below.ensures.node _ _ refl refl c.requires.at_value in omega (arith, k.fits, k.inner, c.inner-below.ensures.node, stmt_fits _ _ _ _ c.requires.accepted c.args.self.now.nodes.inside)

pub branches-returns-in_err-next : goal.branches-returns-in_err-next
branches-returns-in_err-next g t c = let k = branches_here _ _ _ _ (span_of c.args.self.now.span) c.requires.accepted _ _ _ c.inner-below.ensures.node _ _ c.end_of-list.ensures refl c.requires.at_value in exit _ _ c.from_residual.ensures.1 _ (recode k.code (unmade _ _ c.in_err-next.ensures))

pub branches-returns-in_err-exit : goal.branches-returns-in_err-exit
branches-returns-in_err-exit g t c = let k = branches_here _ _ _ _ (span_of c.args.self.now.span) c.requires.accepted _ _ _ c.inner-below.ensures.node _ _ c.end_of-list.ensures refl c.requires.at_value in exit _ _ c.from_residual-in_err-exit.ensures.1 _ (recode k.code (made _ _ c.in_ok-next.ensures (unmade _ _ c.in_err-exit.ensures)))

pub branches-up_to-branches-requires : goal.branches-up_to-branches-requires
branches-up_to-branches-requires g t c = let k = branches_here _ _ _ _ (span_of c.args.self.now.span) c.requires.accepted _ _ _ c.inner-below.ensures.node _ _ c.end_of-list.ensures refl c.requires.at_value in omega (arith, k.inner, c.inner-below.result.nodes.inside)

pub branches-arms-requires : goal.branches-arms-requires
branches-arms-requires g t c = let k = branches_here _ _ _ _ (span_of c.args.self.now.span) c.requires.accepted _ _ _ c.inner-below.ensures.node _ _ c.end_of-list.ensures refl c.requires.at_value in λ _ outlives. (omega (arith, c.inner-below.ensures.node, c.up_to-branches.ensures, stmt_fits _ _ _ _ c.requires.accepted c.args.self.now.nodes.inside), (outlives, rw (c.up_to-branches.ensures.0, c.up_to-branches.ensures.1, c.up_to-branches.ensures.2) (k.arms, k.fits)))

pub branches-returns-in_err-arms : goal.branches-returns-in_err-arms
branches-returns-in_err-arms g t c = let k = branches_here _ _ _ _ (span_of c.args.self.now.span) c.requires.accepted _ _ _ c.inner-below.ensures.node _ _ c.end_of-list.ensures refl c.requires.at_value in exit _ _ c.from_residual-in_err-arms.ensures.1 _ (recode k.code (made _ _ c.in_ok-next.ensures (made _ _ c.in_ok-exit.ensures (halt (rw (c.up_to-branches.ensures.0, c.up_to-branches.ensures.1, c.up_to-branches.ensures.2, c.up_to-branches.ensures.3, c.inner-below.ensures.scope) at c.in_err-arms.ensures) _))))

pub branches-bounds-self-list : goal.branches-bounds-self-list
branches-bounds-self-list g t c = let k = branches_here _ _ _ _ (span_of c.args.self.now.span) c.requires.accepted _ _ _ c.inner-below.ensures.node _ _ c.end_of-list.ensures refl c.requires.at_value in omega (arith, k.inner, c.inner-below.ensures.node, stmt_fits _ _ _ _ c.requires.accepted c.args.self.now.nodes.inside)

pub branches-default-requires : goal.branches-default-requires
branches-default-requires g t c = let k = branches_here _ _ _ _ (span_of c.args.self.now.span) c.requires.accepted _ _ _ c.inner-below.ensures.node _ _ c.end_of-list.ensures c.from-there.ensures c.requires.at_value in λ _ outlives. (omega (arith, (stmt_placed _ _ _ _ c.requires.accepted.2).0, c.inner-below.ensures.node), (outlives, k.default))

pub branches-returns-in_err-default : goal.branches-returns-in_err-default
branches-returns-in_err-default g t c = let k = branches_here _ _ _ _ (span_of c.args.self.now.span) c.requires.accepted _ _ _ c.inner-below.ensures.node _ _ c.end_of-list.ensures c.from-there.ensures c.requires.at_value in exit _ _ c.from_residual-in_err-default.ensures.1 _ (recode k.code (made _ _ c.in_ok-next.ensures (made _ _ c.in_ok-exit.ensures (both (rw (c.up_to-branches.ensures.0, c.up_to-branches.ensures.1, c.up_to-branches.ensures.2, c.up_to-branches.ensures.3, c.inner-below.ensures.scope) at c.in_ok-arms.ensures) (halt (rw (c.inner-below.ensures.scope) at c.in_err-default.ensures) _)))))

pub branches-returns : goal.branches-returns
branches-returns g t c = let k = branches_here _ _ _ _ (span_of c.args.self.now.span) c.requires.accepted _ _ _ c.inner-below.ensures.node _ _ c.end_of-list.ensures c.from-there.ensures c.requires.at_value in recode k.code (made _ _ c.in_ok-next.ensures (made _ _ c.in_ok-exit.ensures (both (rw (c.up_to-branches.ensures.0, c.up_to-branches.ensures.1, c.up_to-branches.ensures.2, c.up_to-branches.ensures.3, c.inner-below.ensures.scope) at c.in_ok-arms.ensures) (both (rw (c.inner-below.ensures.scope) at c.in_ok-default.ensures) (marked c.mark_label.ensures c.mark_label.auto.marks)))))

pub case-end_of-second-requires : goal.case-end_of-second-requires
case-end_of-second-requires g t c = let k = arm_here _ _ _ _ c.requires.accepted _ _ refl refl in omega (arith, k.one, k.fits, k.tail, c.args.self.now.nodes.inside)

pub case-end_of-third-requires : goal.case-end_of-third-requires
case-end_of-third-requires g t c = let k = arm_here _ _ _ _ c.requires.accepted _ _ c.end_of-second.ensures refl in omega (arith, k.fits, k.tail, c.args.self.now.nodes.inside)

pub case-node-requires : goal.case-node-requires
case-node-requires g t c = let k = arm_here _ _ _ _ c.requires.accepted _ _ c.end_of-second.ensures c.end_of-third.ensures in record { accepted = k.one.reads }

pub case-returns-in_err-node : goal.case-returns-in_err-node
case-returns-in_err-node g t c = let k = arm_here _ _ _ _ c.requires.accepted _ _ c.end_of-second.ensures c.end_of-third.ensures in exit _ _ c.from_residual.ensures.1 _ (recode (k.code (λ p q. jumps c.args.site SwitchLabel c.args.next c.args.body then p then ending c.args.ends c.args.body q) (span_of c.args.self.now.span)) (both (emitted c.jumps.ensures) (halt c.in_err-node.ensures _)))

pub case-up_to-requires : goal.case-up_to-requires
case-up_to-requires g t c = let k = arm_here _ _ _ _ c.requires.accepted _ _ c.end_of-second.ensures c.end_of-third.ensures in omega (arith, k.tail, c.args.self.now.nodes.inside)

pub case-stmts-requires : goal.case-stmts-requires
case-stmts-requires g t c = let k = arm_here _ _ _ _ c.requires.accepted _ _ c.end_of-second.ensures c.end_of-third.ensures in λ _ outlives. (omega (arith, c.up_to.ensures), (outlives, rw (c.up_to.ensures.0, c.up_to.ensures.1, c.up_to.ensures.2) (k.block, k.fits)))

pub case-returns-then-ends : goal.case-returns-then-ends
case-returns-then-ends g t c = let k = arm_here _ _ _ _ c.requires.accepted _ _ c.end_of-second.ensures c.end_of-third.ensures in recode (k.code (λ p q. jumps c.args.site SwitchLabel c.args.next c.args.body then p then ending c.args.ends c.args.body q) (span_of c.args.self.now.span)) (both (emitted c.jumps.ensures) (both c.in_ok-node.ensures (recode (ends_true _ _ _ c.if-ends.true) (both (marked c.mark_label.ensures c.mark_label.auto.marks) (rw (c.up_to.ensures.0, c.up_to.ensures.1, c.up_to.ensures.2, c.up_to.ensures.3) at c.stmts.ensures)))))

pub case-returns : goal.case-returns
case-returns g t c = let k = arm_here _ _ _ _ c.requires.accepted _ _ c.end_of-second.ensures c.end_of-third.ensures in recode (k.code (λ p q. jumps c.args.site SwitchLabel c.args.next c.args.body then p then ending c.args.ends c.args.body q) (span_of c.args.self.now.span)) (both (emitted c.jumps.ensures) (both c.in_ok-node.ensures (recode (ends_false _ _ _ c.if-ends.false) nothing)))

pub cases-loop-i-init : goal.cases-loop-i-init
unfolding target_of
cases-loop-i-init g t c = cases_start _ _ _ _ _ _ _ _ _ _ _ refl c.requires.at_le_end c.requires.accepted

pub cases-end_of-second-requires : goal.cases-end_of-second-requires
cases-end_of-second-requires g t c = let k = cases_arm c.loop-i.invariant c.loop-i-test.true _ _ refl refl in omega (arith, k.one, k.fits, k.tail, c.args.self.now.nodes.inside)

pub cases-end_of-third-requires : goal.cases-end_of-third-requires
cases-end_of-third-requires g t c = let k = cases_arm c.loop-i.invariant c.loop-i-test.true _ _ c.end_of-second.ensures refl in omega (arith, k.fits, k.tail, c.args.self.now.nodes.inside)

pub cases-returns-in_err-body : goal.cases-returns-in_err-body
cases-returns-in_err-body g t c = exit _ _ c.from_residual.ensures.1 _ (goes_stops (cases_next c.loop-i.invariant c.loop-i-test.true _ _ _ _ _ (then_some (not c.ends_group-ends.result) (group_label c.loop-i.group (std.Ok c.loop-i.c))) _ _ _ _ _ _ _ _ _ c.end_of-second.ensures c.end_of-third.ensures c.ends_group-ends.ensures refl c.in_err-body.ensures.did (label_stays _ _ _ _ refl) refl (label_stays _ _ _ _ refl) (stays _ _ _ _ _ refl) (group_closed _ _ _ refl)).rest.goes)

pub cases-returns-in_err-next : goal.cases-returns-in_err-next
cases-returns-in_err-next g t c = exit _ _ c.from_residual-in_err-next.ensures.1 _ (goes_stops (cases_next c.loop-i.invariant c.loop-i-test.true _ _ _ _ _ (then_some (not c.ends_group-ends.result) c.in_ok-body.body) _ _ _ _ _ _ _ _ _ c.end_of-second.ensures c.end_of-third.ensures c.ends_group-ends.ensures c.in_ok-body.ensures.number c.in_ok-body.ensures.did (mark_did _ _ _ _ c.mark_label.ensures c.mark_label.auto.marks) refl c.in_err-next.ensures.did (stays _ _ _ _ _ refl) (group_closed _ _ _ refl)).rest.goes)

pub cases-case-requires : goal.cases-case-requires
cases-case-requires g t c = let k = cases_turn c.loop-i.invariant c.loop-i-test.true in λ _ outlives. (omega arith, (outlives, (k.item, k.next, k.reads)))

pub cases-returns-in_err-case : goal.cases-returns-in_err-case
cases-returns-in_err-case g t c = exit _ _ c.from_residual-in_err-case.ensures.1 _ (goes_stops (cases_next c.loop-i.invariant c.loop-i-test.true _ _ _ _ _ (then_some (not c.ends_group-ends.result) c.in_ok-body.body) _ _ _ _ _ _ _ _ _ c.end_of-second.ensures c.end_of-third.ensures c.ends_group-ends.ensures c.in_ok-body.ensures.number c.in_ok-body.ensures.did (mark_did _ _ _ _ c.mark_label.ensures c.mark_label.auto.marks) (numbered _ c.in_ok-next.ensures.number) c.in_ok-next.ensures.did c.in_err-case.ensures (group_closed _ _ _ refl)).rest.goes)

pub cases-loop-i-preserved : goal.cases-loop-i-preserved
cases-loop-i-preserved g t c = cases_next c.loop-i.invariant c.loop-i-test.true _ _ _ _ _ _ _ _ _ _ _ _ _ _ _ c.end_of-second.ensures c.end_of-third.ensures c.ends_group-ends.ensures c.in_ok-body.ensures.number c.in_ok-body.ensures.did (mark_did _ _ _ _ c.mark_label.ensures c.mark_label.auto.marks) (numbered _ c.in_ok-next.ensures.number) c.in_ok-next.ensures.did c.in_ok-case.ensures c.group_after-group.ensures

pub cases-returns : goal.cases-returns
cases-returns g t c = cases_end c.loop-i.invariant c.loop-i-test.false (mark_did _ _ _ _ c.mark_label-2.ensures c.mark_label-2.auto.marks)

pub default-returns-then-there-eq0 : goal.default-returns-then-there-eq0
default-returns-then-there-eq0 g t c = recode (no_default_code _ _ _ _ _ _ c.if-there-eq0.true) nothing

pub default-overflow_add-at : goal.default-overflow_add-at
default-overflow_add-at g t c = let k = a_default _ _ _ _ _ c.if-there-eq0.false (c.requires.default_here c.if-there-eq0.false) in omega (arith, k.0, c.args.self.now.nodes.fits)

pub default-stmts-requires : goal.default-stmts-requires
default-stmts-requires g t c = let k = a_default _ _ _ _ _ c.if-there-eq0.false (c.requires.default_here c.if-there-eq0.false) in λ _ outlives. (omega arith, (outlives, (k.1, k.0)))

pub default-returns : goal.default-returns
default-returns g t c = recode (default_code _ _ _ _ _ _ c.if-there-eq0.false (c.requires.default_here c.if-there-eq0.false)) c.stmts.ensures

pub inside-mid-requires : goal.inside-mid-requires
inside-mid-requires g t c = λ _ outlives. (omega arith, (outlives, (cased_one _ _ _ _ _ (λ z. is_there c.from-there.result c.u32_inside-index.result c.count_arms-n.result _ c.is_mid.ensures c.if-is_mid.true (c.from-there.ensures ∙ z)) c.requires.cased, counted_at _ _ _ _ _ c.end_of-stop.ensures (rw (c.up_to-list.ensures.0, c.up_to-list.ensures.1, c.up_to-list.ensures.2) at c.count_arms-n.ensures))))

pub inside-returns-then-is_mid : goal.inside-returns-then-is_mid
inside-returns-then-is_mid g t c = let q = cased_at _ _ _ _ _ _ _ c.end_of-stop.ensures c.from-there.ensures c.u32_inside-index.ensures.0 c.requires.cased in as_inside _ _ _ _ _ _ _ c.end_of-stop.ensures c.from-there.ensures c.u32_inside-index.ensures.0 _ _ (span_of c.args.self.now.span) (inside_mid _ _ _ _ _ _ _ _ _ (span_of c.args.self.now.span) q.0 (rw (c.up_to-list.ensures.0, c.up_to-list.ensures.1, c.up_to-list.ensures.2) at c.count_arms-n.ensures) _ q.1 _ c.is_mid.ensures c.if-is_mid.true (mid_here _ _ _ _ _ _ c.end_of-stop.ensures c.u32_inside-index.ensures.0 c.args.site c.args.first (span_of c.args.self.now.span) c.mid.ensures))

pub inside-returns-in_err-cases : goal.inside-returns-in_err-cases
inside-returns-in_err-cases g t c = exit _ _ c.from_residual.ensures.1 _ (let q = cased_at _ _ _ _ _ _ _ c.end_of-stop.ensures c.from-there.ensures c.u32_inside-index.ensures.0 c.requires.cased in as_inside _ _ _ _ _ _ _ c.end_of-stop.ensures c.from-there.ensures c.u32_inside-index.ensures.0 _ _ (span_of c.args.self.now.span) (inside_refused _ _ _ _ _ _ _ _ _ (span_of c.args.self.now.span) q.0 (rw (c.up_to-list.ensures.0, c.up_to-list.ensures.1, c.up_to-list.ensures.2) at c.count_arms-n.ensures) _ q.1 _ c.is_mid.ensures c.if-is_mid.false (rw (c.up_to-list.ensures.0, c.up_to-list.ensures.1, c.up_to-list.ensures.2, c.up_to-list.ensures.3) at c.in_err-cases.ensures) refl))

pub inside-returns-then-there-eq0 : goal.inside-returns-then-there-eq0
inside-returns-then-there-eq0 g t c = let q = cased_at _ _ _ _ _ _ _ c.end_of-stop.ensures c.from-there.ensures c.u32_inside-index.ensures.0 c.requires.cased in as_inside _ _ _ _ _ _ _ c.end_of-stop.ensures c.from-there.ensures c.u32_inside-index.ensures.0 _ _ (span_of c.args.self.now.span) (inside_none _ _ _ _ _ _ _ _ _ (span_of c.args.self.now.span) q.0 (rw (c.up_to-list.ensures.0, c.up_to-list.ensures.1, c.up_to-list.ensures.2) at c.count_arms-n.ensures) _ q.1 _ c.is_mid.ensures c.if-is_mid.false (rw (c.up_to-list.ensures.0, c.up_to-list.ensures.1, c.up_to-list.ensures.2, c.up_to-list.ensures.3) at c.in_ok-cases.ensures) c.if-there-eq0.true)

pub inside-stmts-requires : goal.inside-stmts-requires
inside-stmts-requires g t c = let q = cased_at _ _ _ _ _ _ _ c.end_of-stop.ensures c.from-there.ensures c.u32_inside-index.ensures.0 c.requires.cased in let k = a_default _ _ _ _ _ c.if-there-eq0.false (q.1 c.if-there-eq0.false) in λ _ outlives. (omega arith, (outlives, (k.1, k.0)))

pub inside-returns : goal.inside-returns
inside-returns g t c = let q = cased_at _ _ _ _ _ _ _ c.end_of-stop.ensures c.from-there.ensures c.u32_inside-index.ensures.0 c.requires.cased in as_inside _ _ _ _ _ _ _ c.end_of-stop.ensures c.from-there.ensures c.u32_inside-index.ensures.0 _ _ (span_of c.args.self.now.span) (inside_last _ _ _ _ _ _ _ _ _ (span_of c.args.self.now.span) q.0 (rw (c.up_to-list.ensures.0, c.up_to-list.ensures.1, c.up_to-list.ensures.2) at c.count_arms-n.ensures) _ q.1 _ c.is_mid.ensures c.if-is_mid.false (rw (c.up_to-list.ensures.0, c.up_to-list.ensures.1, c.up_to-list.ensures.2, c.up_to-list.ensures.3) at c.in_ok-cases.ensures) c.if-there-eq0.false c.plain.ensures c.stmts.ensures)

pub mid-returns-in_err-body : goal.mid-returns-in_err-body
mid-returns-in_err-body g t c = let q = mid_cased _ _ _ _ _ _ c.end_of-list.ensures c.u32_inside-index.ensures.0 _ c.requires.counted c.requires.cased in exit _ _ c.from_residual.ensures.1 _ (mid_there _ _ _ _ _ _ c.end_of-list.ensures c.u32_inside-index.ensures.0 c.args.site c.args.first (span_of c.args.self.now.span) (mid_did _ _ _ _ _ _ _ _ _ (span_of c.args.self.now.span) q.0 q.4 _ refl c.in_err-body.ensures.did (label_stays _ _ _ _ refl) (stays _ _ _ _ _ refl) (emit_stays _ _ _ _ refl) (emit_stays _ _ _ _ refl) (stays _ _ _ _ _ refl)))

pub mid-returns-in_err-new_labels : goal.mid-returns-in_err-new_labels
mid-returns-in_err-new_labels g t c = let q = mid_cased _ _ _ _ _ _ c.end_of-list.ensures c.u32_inside-index.ensures.0 _ c.requires.counted c.requires.cased in exit _ _ c.from_residual-in_err-new_labels.ensures.1 _ (mid_there _ _ _ _ _ _ c.end_of-list.ensures c.u32_inside-index.ensures.0 c.args.site c.args.first (span_of c.args.self.now.span) (mid_did _ _ _ _ _ _ _ _ _ (span_of c.args.self.now.span) q.0 q.4 _ (numbered _ c.in_ok-body.ensures.number) c.in_ok-body.ensures.did c.in_err-new_labels.ensures (stays _ _ _ _ _ refl) (emit_stays _ _ _ _ refl) (emit_stays _ _ _ _ refl) (stays _ _ _ _ _ refl)))

pub mid-returns-in_err-matchers : goal.mid-returns-in_err-matchers
mid-returns-in_err-matchers g t c = let q = mid_cased _ _ _ _ _ _ c.end_of-list.ensures c.u32_inside-index.ensures.0 _ c.requires.counted c.requires.cased in exit _ _ c.from_residual-in_err-matchers.ensures.1 _ (mid_there _ _ _ _ _ _ c.end_of-list.ensures c.u32_inside-index.ensures.0 c.args.site c.args.first (span_of c.args.self.now.span) (mid_did _ _ _ _ _ _ _ _ _ (span_of c.args.self.now.span) q.0 q.4 _ (numbered _ c.in_ok-body.ensures.number) c.in_ok-body.ensures.did c.in_ok-new_labels.ensures (rw (c.up_to-cases.ensures.0, c.up_to-cases.ensures.1, c.up_to-cases.ensures.2) at c.in_err-matchers.ensures) (emit_stays _ _ _ _ refl) (emit_stays _ _ _ _ refl) (stays _ _ _ _ _ refl)))

pub mid-overflow_add-body : goal.mid-overflow_add-body
mid-overflow_add-body g t c = let q = mid_cased _ _ _ _ _ _ c.end_of-list.ensures c.u32_inside-index.ensures.0 _ c.requires.counted c.requires.cased in let z : c.in_ok-body.body + c.args.n < 18446744073709551616 = omega (arith, few_arms _ _ _ _ _ q.2 q.0 q.4, q.3, c.args.self.now.nodes.inside, c.well_formed.0, c.in_ok-body.ensures.few) in record { fits = z }

pub mid-bodies-requires : goal.mid-bodies-requires
mid-bodies-requires g t c = let q = mid_cased _ _ _ _ _ _ c.end_of-list.ensures c.u32_inside-index.ensures.0 _ c.requires.counted c.requires.cased in λ _ outlives. (omega arith, (outlives, (q.0, (q.1, (q.2, q.3, omega (arith, c.in_ok-body.ensures.few), omega (arith, few_arms _ _ _ _ _ q.2 q.0 q.4, q.3, c.args.self.now.nodes.inside))))))

pub mid-returns : goal.mid-returns
mid-returns g t c = let q = mid_cased _ _ _ _ _ _ c.end_of-list.ensures c.u32_inside-index.ensures.0 _ c.requires.counted c.requires.cased in mid_there _ _ _ _ _ _ c.end_of-list.ensures c.u32_inside-index.ensures.0 c.args.site c.args.first (span_of c.args.self.now.span) (mid_did _ _ _ _ _ _ _ _ _ (span_of c.args.self.now.span) q.0 q.4 _ (numbered _ c.in_ok-body.ensures.number) c.in_ok-body.ensures.did c.in_ok-new_labels.ensures (rw (c.up_to-cases.ensures.0, c.up_to-cases.ensures.1, c.up_to-cases.ensures.2) at c.in_ok-matchers.ensures) c.plain.ensures c.jump.ensures c.bodies.ensures)

pub repeat-inner-below-requires : goal.repeat-inner-below-requires
repeat-inner-below-requires g t c = stmt_fits _ _ _ _ c.requires.accepted c.args.self.now.nodes.inside

pub repeat-end_of-second-requires : goal.repeat-end_of-second-requires
repeat-end_of-second-requires g t c = let k = while_here _ _ _ _ (span_of c.args.self.now.span) c.requires.accepted _ _ _ c.inner-below.ensures.node _ refl c.requires.at_value in omega (arith, k.one, c.inner-below.ensures.node, stmt_fits _ _ _ _ c.requires.accepted c.args.self.now.nodes.inside)

pub repeat-returns-in_err-start : goal.repeat-returns-in_err-start
repeat-returns-in_err-start g t c = let k = while_here _ _ _ _ (span_of c.args.self.now.span) c.requires.accepted _ _ _ c.inner-below.ensures.node _ c.end_of-second.ensures c.requires.at_value in exit _ _ c.from_residual.ensures.1 _ (recode k.code (unmade _ _ c.in_err-start.ensures))

pub repeat-returns-in_err-finish : goal.repeat-returns-in_err-finish
repeat-returns-in_err-finish g t c = let k = while_here _ _ _ _ (span_of c.args.self.now.span) c.requires.accepted _ _ _ c.inner-below.ensures.node _ c.end_of-second.ensures c.requires.at_value in exit _ _ c.from_residual-in_err-finish.ensures.1 _ (recode k.code (made _ _ c.in_ok-start.ensures (unmade _ _ c.in_err-finish.ensures)))

pub repeat-node-requires : goal.repeat-node-requires
repeat-node-requires g t c = let k = while_here _ _ _ _ (span_of c.args.self.now.span) c.requires.accepted _ _ _ c.inner-below.ensures.node _ c.end_of-second.ensures c.requires.at_value in record { accepted = k.one.reads }

pub repeat-returns-in_err-node : goal.repeat-returns-in_err-node
repeat-returns-in_err-node g t c = let k = while_here _ _ _ _ (span_of c.args.self.now.span) c.requires.accepted _ _ _ c.inner-below.ensures.node _ c.end_of-second.ensures c.requires.at_value in exit _ _ c.from_residual-in_err-node.ensures.1 _ (recode k.code (made _ _ c.in_ok-start.ensures (made _ _ c.in_ok-finish.ensures (both (marked c.mark_label.ensures c.mark_label.auto.marks) (both (emitted c.jump.ensures) (halt c.in_err-node.ensures _))))))

pub repeat-overflow_add-second : goal.repeat-overflow_add-second
repeat-overflow_add-second g t c = let k = while_here _ _ _ _ (span_of c.args.self.now.span) c.requires.accepted _ _ _ c.inner-below.ensures.node _ c.end_of-second.ensures c.requires.at_value in let z : c.end_of-second.result + 4 < 18446744073709551616 = omega (arith, k.fits, c.inner-below.ensures.node, stmt_fits _ _ _ _ c.requires.accepted c.args.self.now.nodes.inside, c.ranges) in record { fits = z }

pub repeat-stmts-requires : goal.repeat-stmts-requires
repeat-stmts-requires g t c = let k = while_here _ _ _ _ (span_of c.args.self.now.span) c.requires.accepted _ _ _ c.inner-below.ensures.node _ c.end_of-second.ensures c.requires.at_value in λ _ outlives. (omega (arith, c.inner-below.ensures.node, c.in_loop-body.ensures, stmt_fits _ _ _ _ c.requires.accepted c.args.self.now.nodes.inside), (outlives, rw (c.in_loop-body.ensures.0, c.in_loop-body.ensures.1, c.in_loop-body.ensures.2) (k.block, k.fits)))

pub repeat-returns-in_err-stmts : goal.repeat-returns-in_err-stmts
repeat-returns-in_err-stmts g t c = let k = while_here _ _ _ _ (span_of c.args.self.now.span) c.requires.accepted _ _ _ c.inner-below.ensures.node _ c.end_of-second.ensures c.requires.at_value in exit _ _ c.from_residual-in_err-stmts.ensures.1 _ (recode k.code (made _ _ c.in_ok-start.ensures (made _ _ c.in_ok-finish.ensures (both (marked c.mark_label.ensures c.mark_label.auto.marks) (both (emitted c.jump.ensures) (both c.in_ok-node.ensures (halt (rw (c.in_loop-body.ensures.0, c.in_loop-body.ensures.1, c.in_loop-body.ensures.2, c.in_loop-body.ensures.3, c.inner-below.ensures.scope) at c.in_err-stmts.ensures) _)))))))

pub repeat-returns : goal.repeat-returns
repeat-returns g t c = let k = while_here _ _ _ _ (span_of c.args.self.now.span) c.requires.accepted _ _ _ c.inner-below.ensures.node _ c.end_of-second.ensures c.requires.at_value in recode k.code (made _ _ c.in_ok-start.ensures (made _ _ c.in_ok-finish.ensures (both (marked c.mark_label.ensures c.mark_label.auto.marks) (both (emitted c.jump.ensures) (both c.in_ok-node.ensures (both (rw (c.in_loop-body.ensures.0, c.in_loop-body.ensures.1, c.in_loop-body.ensures.2, c.in_loop-body.ensures.3, c.inner-below.ensures.scope) at c.in_ok-stmts.ensures) (both (emitted c.jump-2.ensures) (marked c.mark_label-2.ensures c.mark_label-2.auto.marks))))))))

pub stmt-init_default-requires : goal.stmt-init_default-requires
stmt-init_default-requires g t c = let k = init_here _ _ _ _ (span_of c.args.self.now.span) c.requires.accepted (sym c.requires.kind ∙ ap kinds.stmt_code c.in-InitDefault.is) in (omega (arith, k.0, stmt_fits _ _ _ _ c.requires.accepted c.args.self.now.nodes.inside), k.1)

pub stmt-returns-in-InitDefault : goal.stmt-returns-in-InitDefault
stmt-returns-in-InitDefault g t c = recode (init_here _ _ _ _ (span_of c.args.self.now.span) c.requires.accepted (sym c.requires.kind ∙ ap kinds.stmt_code c.in-InitDefault.is)).2 (emitted c.init_default.ensures)

pub stmt-returns-in-Break : goal.stmt-returns-in-Break
unfolding span_of
stmt-returns-in-Break g t c = recode (break_code _ _ _ _ (span_of c.args.self.now.span) c.requires.accepted (sym c.requires.kind ∙ ap kinds.stmt_code c.in-Break.is)) (emitted (jumps_to _ _ _ _ _ _ _ _ _ c.at-outside.ensures c.jump_to.ensures))

pub stmt-returns-in-Continue : goal.stmt-returns-in-Continue
unfolding span_of
stmt-returns-in-Continue g t c = recode (continue_code _ _ _ _ (span_of c.args.self.now.span) c.requires.accepted (sym c.requires.kind ∙ ap kinds.stmt_code c.in-Continue.is)) (emitted (jumps_to _ _ _ _ _ _ _ _ _ c.at-outside-in-Continue.ensures c.jump_to-in-Continue.ensures))

pub stmts-loop-here-init : goal.stmts-loop-here-init
stmts-loop-here-init g t c = rest_start _ _ _ _ _ _ _ c.requires.at_le_end c.requires.accepted

pub stmts-end_of-here-requires : goal.stmts-end_of-here-requires
stmts-end_of-here-requires g t c = let k = turn _ _ _ (stmt_moves _ _ _) c.loop-here-test.true c.loop-here.invariant.reads in let z = stmt_placed _ _ _ _ k.reads in omega (arith, z.0, c.args.self.now.nodes.inside)

pub stmts-bounds-self-here : goal.stmts-bounds-self-here
stmts-bounds-self-here g t c = let k = turn _ _ _ (stmt_moves _ _ _) c.loop-here-test.true c.loop-here.invariant.reads in let z = stmt_placed _ _ _ _ k.reads in omega (arith, z.0, c.args.self.now.nodes.inside)

pub stmts-returns-in_default : goal.stmts-returns-in_default
stmts-returns-in_default g t c = let k = turn _ _ _ (stmt_moves _ _ _) c.loop-here-test.true c.loop-here.invariant.reads in no_stmt _ _ _ _ (k.item, k.next, k.reads) c.in_default.ensures.1

pub stmts-loop-here-preserved-in-Block : goal.stmts-loop-here-preserved-in-Block
stmts-loop-here-preserved-in-Block g t c = let k = turn _ _ _ (stmt_moves _ _ _) c.loop-here-test.true c.loop-here.invariant.reads in let z = stmt_placed _ _ _ _ k.reads in let n = nest_here _ _ _ _ (span_of c.args.self.now.span) (k.item, k.next, k.reads) _ refl (sym c.in-Ok.ensures ∙ ap kinds.stmt_code c.in-Block.is) in rest_flat Statement _ _ (span_of c.args.self.now.span) _ _ _ _ _ _ _ _ _ _ _ _ c.loop-here.invariant c.loop-here-test.true _ _ _ _ (omega arith) refl n.0 n.1 (same_on (same_back (same_done _)) (same_code (sym n.2))) nothing

pub stmts-inner-inner-requires : goal.stmts-inner-inner-requires
stmts-inner-inner-requires g t c = let k = turn _ _ _ (stmt_moves _ _ _) c.loop-here-test.true c.loop-here.invariant.reads in stmt_fits _ _ _ _ (k.item, k.next, k.reads) c.args.self.now.nodes.inside

pub stmts-exprs-requires-clause-accepted : goal.stmts-exprs-requires-clause-accepted
stmts-exprs-requires-clause-accepted g t c = let k = turn _ _ _ (stmt_moves _ _ _) c.loop-here-test.true c.loop-here.invariant.reads in (eval_here _ _ _ _ (span_of c.args.self.now.span) (k.item, k.next, k.reads) _ _ _ c.inner-inner.ensures.node (sym c.in-Ok.ensures ∙ ap kinds.stmt_code c.in-Expr.is)).1

pub stmts-exprs-requires-clause-at_le_end : goal.stmts-exprs-requires-clause-at_le_end
stmts-exprs-requires-clause-at_le_end g t c = let k = turn _ _ _ (stmt_moves _ _ _) c.loop-here-test.true c.loop-here.invariant.reads in (eval_here _ _ _ _ (span_of c.args.self.now.span) (k.item, k.next, k.reads) _ _ _ c.inner-inner.ensures.node (sym c.in-Ok.ensures ∙ ap kinds.stmt_code c.in-Expr.is)).0

pub stmts-returns-in_err-exprs-in-Expr : goal.stmts-returns-in_err-exprs-in-Expr
stmts-returns-in_err-exprs-in-Expr g t c = let k = turn _ _ _ (stmt_moves _ _ _) c.loop-here-test.true c.loop-here.invariant.reads in let z = stmt_placed _ _ _ _ k.reads in
    exit _ _ c.from_residual.ensures.1 _ (goes_stops (rest_next _ _ (lower_all Statement (span_of c.args.self.now.span)) _ _ _ _ _ _ _ _ _ _ _ _ _ c.loop-here.invariant k (z.1 ∙ sym c.inner-inner.ensures.node.1) (omega (arith, z.0, c.inner-inner.ensures.node.1))
    (goes_on (renamed _ _ _ (all_cons Statement (span_of c.args.self.now.span) k.item k.others)) (one_step _ (recode (sym (node_code_law Statement _ _ _ _ (span_of c.args.self.now.span) k.reads)) (rerun (eval_here _ _ _ _ (span_of c.args.self.now.span) (k.item, k.next, k.reads) _ _ _ c.inner-inner.ensures.node (sym c.in-Ok.ensures ∙ ap kinds.stmt_code c.in-Expr.is)).2 (rw (c.inner-inner.ensures.scope) at c.in_err-exprs-in-Expr.ensures)))))).goes)

pub stmts-loop-here-preserved-in-Expr : goal.stmts-loop-here-preserved-in-Expr
stmts-loop-here-preserved-in-Expr g t c = let k = turn _ _ _ (stmt_moves _ _ _) c.loop-here-test.true c.loop-here.invariant.reads in let z = stmt_placed _ _ _ _ k.reads in
    rest_next _ _ (lower_all Statement (span_of c.args.self.now.span)) _ _ _ _ _ _ _ _ _ _ _ _ _ c.loop-here.invariant k (z.1 ∙ sym c.inner-inner.ensures.node.1) (omega (arith, z.0, c.inner-inner.ensures.node.1))
    (goes_on (renamed _ _ _ (all_cons Statement (span_of c.args.self.now.span) k.item k.others)) (one_step _ (recode (sym (node_code_law Statement _ _ _ _ (span_of c.args.self.now.span) k.reads)) (rerun (eval_here _ _ _ _ (span_of c.args.self.now.span) (k.item, k.next, k.reads) _ _ _ c.inner-inner.ensures.node (sym c.in-Ok.ensures ∙ ap kinds.stmt_code c.in-Expr.is)).2 (rw (c.inner-inner.ensures.scope) at c.in_ok-exprs-in-Expr.ensures)))))

pub stmts-stmt-requires : goal.stmts-stmt-requires
stmts-stmt-requires g t c = let k = turn _ _ _ (stmt_moves _ _ _) c.loop-here-test.true c.loop-here.invariant.reads in λ _ outlives. (omega arith, (outlives, ((k.item, k.next, k.reads), (c.in-Ok.ensures, (c.in_default-kind.not-Expr, c.in_default-kind.not-Block)))))

pub stmts-returns-in_err-stmt-in_default-kind : goal.stmts-returns-in_err-stmt-in_default-kind
stmts-returns-in_err-stmt-in_default-kind g t c = let k = turn _ _ _ (stmt_moves _ _ _) c.loop-here-test.true c.loop-here.invariant.reads in let z = stmt_placed _ _ _ _ k.reads in
    exit _ _ c.from_residual-in_err-stmt-in_default-kind.ensures.1 _ (goes_stops (rest_next _ _ (lower_all Statement (span_of c.args.self.now.span)) _ _ _ _ _ _ _ _ _ _ _ _ _ c.loop-here.invariant k (z.1) (omega (arith, z.0))
    (goes_on (renamed _ _ _ (all_cons Statement (span_of c.args.self.now.span) k.item k.others)) (one_step _ (recode (sym (node_code_law Statement _ _ _ _ (span_of c.args.self.now.span) k.reads)) c.in_err-stmt-in_default-kind.ensures)))).goes)

pub stmts-loop-here-preserved : goal.stmts-loop-here-preserved
stmts-loop-here-preserved g t c = let k = turn _ _ _ (stmt_moves _ _ _) c.loop-here-test.true c.loop-here.invariant.reads in let z = stmt_placed _ _ _ _ k.reads in
    rest_next _ _ (lower_all Statement (span_of c.args.self.now.span)) _ _ _ _ _ _ _ _ _ _ _ _ _ c.loop-here.invariant k (z.1 ∙ sym c.end_of-here.ensures) (omega (arith, z.0, c.end_of-here.ensures))
    (goes_on (renamed _ _ _ (all_cons Statement (span_of c.args.self.now.span) k.item k.others)) (one_step _ (recode (sym (node_code_law Statement _ _ _ _ (span_of c.args.self.now.span) k.reads)) c.in_ok-stmt-in_default-kind.ensures)))

pub stmts-returns : goal.stmts-returns
stmts-returns g t c = goes_end (goes_on (rest_end _ _ _ _ _ _ _ _ _ _ _ (stmt_moves _ _ _) c.loop-here-test.false c.loop-here.invariant) (renamed _ _ _ (all_nil Statement (span_of c.args.self.now.span))))

pub switch-inner-below-requires : goal.switch-inner-below-requires
switch-inner-below-requires g t c = stmt_fits _ _ _ _ c.requires.accepted c.args.self.now.nodes.inside

pub switch-end_of-second-requires : goal.switch-end_of-second-requires
switch-end_of-second-requires g t c = let k = switch_here _ _ _ _ (span_of c.args.self.now.span) c.requires.accepted _ _ _ c.inner-below.ensures.node _ _ refl refl c.requires.at_value in omega (arith, k.one, c.inner-below.ensures.node, stmt_fits _ _ _ _ c.requires.accepted c.args.self.now.nodes.inside)

pub switch-returns-in_err-finish : goal.switch-returns-in_err-finish
switch-returns-in_err-finish g t c = let k = switch_here _ _ _ _ (span_of c.args.self.now.span) c.requires.accepted _ _ _ c.inner-below.ensures.node _ _ c.u32_inside-typ.ensures.0 c.end_of-second.ensures c.requires.at_value in exit _ _ c.from_residual.ensures.1 _ (recode k.code (unmade _ _ c.in_err-finish.ensures))

pub switch-returns-in_err-label : goal.switch-returns-in_err-label
switch-returns-in_err-label g t c = let k = switch_here _ _ _ _ (span_of c.args.self.now.span) c.requires.accepted _ _ _ c.inner-below.ensures.node _ _ c.u32_inside-typ.ensures.0 c.end_of-second.ensures c.requires.at_value in exit _ _ c.from_residual-in_err-label.ensures.1 _ (recode k.code (made _ _ c.in_ok-finish.ensures (unmade _ _ c.in_err-label.ensures)))

pub switch-u32_inside-typ-requires : goal.switch-u32_inside-typ-requires
switch-u32_inside-typ-requires g t c = let k = switch_here _ _ _ _ (span_of c.args.self.now.span) c.requires.accepted _ _ _ c.inner-below.ensures.node _ _ refl refl c.requires.at_value in omega (arith, k.one, c.inner-below.ensures.node, stmt_fits _ _ _ _ c.requires.accepted c.args.self.now.nodes.inside)

pub switch-node-requires : goal.switch-node-requires
switch-node-requires g t c = let k = switch_here _ _ _ _ (span_of c.args.self.now.span) c.requires.accepted _ _ _ c.inner-below.ensures.node _ _ c.u32_inside-typ.ensures.0 c.end_of-second.ensures c.requires.at_value in record { accepted = k.one.reads }

pub switch-returns-in_err-node : goal.switch-returns-in_err-node
switch-returns-in_err-node g t c = let k = switch_here _ _ _ _ (span_of c.args.self.now.span) c.requires.accepted _ _ _ c.inner-below.ensures.node _ _ c.u32_inside-typ.ensures.0 c.end_of-second.ensures c.requires.at_value in exit _ _ c.from_residual-in_err-node.ensures.1 _ (recode k.code (made _ _ c.in_ok-finish.ensures (made _ _ c.in_ok-label.ensures (both (emitted c.switch.ensures) (halt c.in_err-node.ensures _)))))

pub switch-inside-requires : goal.switch-inside-requires
switch-inside-requires g t c = let k = switch_here _ _ _ _ (span_of c.args.self.now.span) c.requires.accepted _ _ _ c.inner-below.ensures.node _ _ c.u32_inside-typ.ensures.0 c.end_of-second.ensures c.requires.at_value in λ _ outlives. (omega (arith, c.inner-below.ensures.node, c.in_switch-cases.ensures, stmt_fits _ _ _ _ c.requires.accepted c.args.self.now.nodes.inside), (outlives, rw (c.in_switch-cases.ensures.0, c.in_switch-cases.ensures.1, c.in_switch-cases.ensures.2) k.cased))

pub switch-returns-in_err-inside : goal.switch-returns-in_err-inside
switch-returns-in_err-inside g t c = let k = switch_here _ _ _ _ (span_of c.args.self.now.span) c.requires.accepted _ _ _ c.inner-below.ensures.node _ _ c.u32_inside-typ.ensures.0 c.end_of-second.ensures c.requires.at_value in exit _ _ c.from_residual-in_err-inside.ensures.1 _ (recode k.code (made _ _ c.in_ok-finish.ensures (made _ _ c.in_ok-label.ensures (both (emitted c.switch.ensures) (both c.in_ok-node.ensures (halt (rw (c.in_switch-cases.ensures.0, c.in_switch-cases.ensures.1, c.in_switch-cases.ensures.2, c.in_switch-cases.ensures.3, c.inner-below.ensures.scope) at c.in_err-inside.ensures) _))))))

pub switch-returns : goal.switch-returns
switch-returns g t c = let k = switch_here _ _ _ _ (span_of c.args.self.now.span) c.requires.accepted _ _ _ c.inner-below.ensures.node _ _ c.u32_inside-typ.ensures.0 c.end_of-second.ensures c.requires.at_value in recode k.code (made _ _ c.in_ok-finish.ensures (made _ _ c.in_ok-label.ensures (both (emitted c.switch.ensures) (both c.in_ok-node.ensures (both (rw (c.in_switch-cases.ensures.0, c.in_switch-cases.ensures.1, c.in_switch-cases.ensures.2, c.in_switch-cases.ensures.3, c.inner-below.ensures.scope) at c.in_ok-inside.ensures) (marked c.mark_label.ensures c.mark_label.auto.marks))))))
