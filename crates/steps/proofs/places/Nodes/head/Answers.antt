use Rattle.std.proofs.Common.{arith, refl}
use Rattle.steps.proofs.RunLaws.{expr_placed}
use Rattle.steps.proofs.HeadLaws.{const_here, null_here, new_here, index_here, cast_here, local_here, construct_here, intrinsic_here, nop_head, const_head, null_head, new_head, construct_head, assign_head, index_head, cast_head, local_head, intrinsic_head, label_head, no_head}
use Rattle.ir.proofs.KindLaws.{expr_is}
use Rattle.steps.proofs.places.Nodes.head.Goals as goal

pub bounds-s-at : goal.bounds-s-at
bounds-s-at g c = omega (arith, (expr_placed _ _ _ _ c.requires.2).0, c.args.self.now.inside)

pub constant-requires : goal.constant-requires
constant-requires g c = let k = const_here _ _ _ _ c.requires (expr_is c.in-Ok.ensures c.in-Const.is) in (omega (arith, k.0, (expr_placed _ _ _ _ c.requires.2).0, c.args.self.now.inside), k.1)

pub overflow_add-at : goal.overflow_add-at
overflow_add-at g c = omega (arith, (expr_placed _ _ _ _ c.requires.2).0, c.args.self.now.inside, c.ranges)

pub overflow_add-at-in-NewInstance : goal.overflow_add-at-in-NewInstance
overflow_add-at-in-NewInstance g c = omega (arith, (expr_placed _ _ _ _ c.requires.2).0, c.args.self.now.inside, c.ranges)

pub construct-requires : goal.construct-requires
construct-requires g c = let k = construct_here _ _ _ _ c.requires (expr_is c.in-Ok.ensures c.in-Construct.is) in rw (c.inner.ensures.0, c.inner.ensures.1, c.inner.ensures.2) record { accepted = k.1; at_bound = k.0 }

pub overflow_add-at-in-Index : goal.overflow_add-at-in-Index
overflow_add-at-in-Index g c = omega (arith, (expr_placed _ _ _ _ c.requires.2).0, c.args.self.now.inside, c.ranges)

pub overflow_add-at-in-Index-2 : goal.overflow_add-at-in-Index-2
overflow_add-at-in-Index-2 g c = omega (arith, (expr_placed _ _ _ _ c.requires.2).0, c.args.self.now.inside, c.ranges)

pub overflow_add-at-in-DynCast : goal.overflow_add-at-in-DynCast
overflow_add-at-in-DynCast g c = omega (arith, (expr_placed _ _ _ _ c.requires.2).0, c.args.self.now.inside, c.ranges)

pub overflow_add-at-in-DynCast-2 : goal.overflow_add-at-in-DynCast-2
overflow_add-at-in-DynCast-2 g c = omega (arith, (expr_placed _ _ _ _ c.requires.2).0, c.args.self.now.inside, c.ranges)

pub overflow_add-at-in-Local : goal.overflow_add-at-in-Local
overflow_add-at-in-Local g c = omega (arith, (expr_placed _ _ _ _ c.requires.2).0, c.args.self.now.inside, c.ranges)

pub overflow_add-at-in-Local-2 : goal.overflow_add-at-in-Local-2
overflow_add-at-in-Local-2 g c = omega (arith, (expr_placed _ _ _ _ c.requires.2).0, c.args.self.now.inside, c.ranges)

pub intrinsic-requires : goal.intrinsic-requires
intrinsic-requires g c = let k = intrinsic_here _ _ _ _ c.requires (expr_is c.in-Ok.ensures c.in-IntrinsicCall.is) in (omega (arith, k.0, (expr_placed _ _ _ _ c.requires.2).0, c.args.self.now.inside), k.1)

pub returns-in-Nop : goal.returns-in-Nop
returns-in-Nop g c = nop_head _ _ _ _ (expr_is c.in-Ok.ensures c.in-Nop.is) c.plain.ensures

pub returns-in-Const : goal.returns-in-Const
returns-in-Const g c = const_head _ _ _ _ (expr_is c.in-Ok.ensures c.in-Const.is) c.constant.ensures

pub returns-in-Null : goal.returns-in-Null
returns-in-Null g c = null_head _ _ _ _ _ _ (expr_is c.in-Ok.ensures c.in-Null.is) c.null_tag.ensures refl c.plain-in-Null.ensures

pub returns-in-NewInstance : goal.returns-in-NewInstance
returns-in-NewInstance g c = new_head _ _ _ _ _ (expr_is c.in-Ok.ensures c.in-NewInstance.is) c.u32_inside.ensures.0 c.plain-in-NewInstance.ensures

pub returns-in-Construct : goal.returns-in-Construct
returns-in-Construct g c = construct_head _ _ _ _ _ (expr_is c.in-Ok.ensures c.in-Construct.is) c.inner.ensures.1 (rw (c.inner.ensures.0, c.inner.ensures.2) at c.construct.ensures)

pub returns-in-Assign : goal.returns-in-Assign
returns-in-Assign g c = assign_head _ _ _ _ (expr_is c.in-Ok.ensures c.in-Assign.is) c.plain-in-Assign.ensures

pub returns-in-Index : goal.returns-in-Index
returns-in-Index g c = index_head _ _ _ _ _ _ _ (expr_is c.in-Ok.ensures c.in-Index.is) c.element_tag-t.ensures refl c.u32_inside-in-Index.ensures.0 c.plain-in-Index.ensures

pub returns-in-DynCast : goal.returns-in-DynCast
returns-in-DynCast g c = cast_head _ _ _ _ _ _ _ (expr_is c.in-Ok.ensures c.in-DynCast.is) c.from-weak.ensures refl c.u32_inside-in-DynCast.ensures.0 c.plain-in-DynCast.ensures

pub returns-in-Local : goal.returns-in-Local
returns-in-Local g c = local_head _ _ _ _ _ _ _ (expr_is c.in-Ok.ensures c.in-Local.is) c.local_tag-t.ensures refl c.u32_inside-in-Local.ensures.0 c.plain-in-Local.ensures

pub returns-in-IntrinsicCall : goal.returns-in-IntrinsicCall
returns-in-IntrinsicCall g c = intrinsic_head _ _ _ _ (expr_is c.in-Ok.ensures c.in-IntrinsicCall.is) c.intrinsic.ensures

pub returns-in-Field : goal.returns-in-Field
returns-in-Field g c = label_head _ _ _ _ c.in-Ok.ensures c.in-Field.is

pub returns-in_default : goal.returns-in_default
returns-in_default g c = no_head _ _ _ _ c.in_default.ensures.1

pub inner-requires : goal.inner-requires
inner-requires g c = (omega (arith, (expr_placed _ _ _ _ c.requires.2).0), omega (arith, (expr_placed _ _ _ _ c.requires.2).0, c.args.self.now.inside), omega (arith, (expr_placed _ _ _ _ c.requires.2).0, c.args.self.now.inside))

pub bounds-s-at-in-Null : goal.bounds-s-at-in-Null
bounds-s-at-in-Null g c = omega (arith, null_here _ _ _ _ c.requires (expr_is c.in-Ok.ensures c.in-Null.is), (expr_placed _ _ _ _ c.requires.2).0, c.args.self.now.inside)

pub u32_inside-requires : goal.u32_inside-requires
u32_inside-requires g c = omega (arith, new_here _ _ _ _ c.requires (expr_is c.in-Ok.ensures c.in-NewInstance.is), (expr_placed _ _ _ _ c.requires.2).0, c.args.self.now.inside)

pub bounds-s-at-in-Index : goal.bounds-s-at-in-Index
bounds-s-at-in-Index g c = omega (arith, index_here _ _ _ _ c.requires (expr_is c.in-Ok.ensures c.in-Index.is), (expr_placed _ _ _ _ c.requires.2).0, c.args.self.now.inside)

pub u32_inside-requires-in-Index : goal.u32_inside-requires-in-Index
u32_inside-requires-in-Index g c = omega (arith, index_here _ _ _ _ c.requires (expr_is c.in-Ok.ensures c.in-Index.is), (expr_placed _ _ _ _ c.requires.2).0, c.args.self.now.inside)

pub bounds-s-at-in-DynCast : goal.bounds-s-at-in-DynCast
bounds-s-at-in-DynCast g c = omega (arith, cast_here _ _ _ _ c.requires (expr_is c.in-Ok.ensures c.in-DynCast.is), (expr_placed _ _ _ _ c.requires.2).0, c.args.self.now.inside)

pub u32_inside-requires-in-DynCast : goal.u32_inside-requires-in-DynCast
u32_inside-requires-in-DynCast g c = omega (arith, cast_here _ _ _ _ c.requires (expr_is c.in-Ok.ensures c.in-DynCast.is), (expr_placed _ _ _ _ c.requires.2).0, c.args.self.now.inside)

pub bounds-s-at-in-Local : goal.bounds-s-at-in-Local
bounds-s-at-in-Local g c = omega (arith, local_here _ _ _ _ c.requires (expr_is c.in-Ok.ensures c.in-Local.is), (expr_placed _ _ _ _ c.requires.2).0, c.args.self.now.inside)

pub u32_inside-requires-in-Local : goal.u32_inside-requires-in-Local
u32_inside-requires-in-Local g c = omega (arith, local_here _ _ _ _ c.requires (expr_is c.in-Ok.ensures c.in-Local.is), (expr_placed _ _ _ _ c.requires.2).0, c.args.self.now.inside)
