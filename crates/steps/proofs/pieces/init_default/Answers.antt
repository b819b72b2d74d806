use Rattle.steps.proofs.LeafLaws.{default_read, default_variant, default_array, default_struct, default_other, default_enum, default_primitive}
use Rattle.std.proofs.Common.{arith}
use Rattle.steps.proofs.pieces.init_default.Goals as goal

pub returns-then-byte-eq0 : goal.returns-then-byte-eq0
returns-then-byte-eq0 g c = default_read _ _ _ _ c.u32_inside-local.ensures.0 c.from-byte.ensures c.u32_inside-i.ensures.0 (default_variant _ _ _ _ c.if-byte-eq0.true)

pub returns-then-byte-eq1 : goal.returns-then-byte-eq1
returns-then-byte-eq1 g c = default_read _ _ _ _ c.u32_inside-local.ensures.0 c.from-byte.ensures c.u32_inside-i.ensures.0 (default_array _ _ _ _ c.if-byte-eq1.true c.plain.ensures c.plain-then-byte-eq1.ensures)

pub returns-in-2 : goal.returns-in-2
returns-in-2 g c = default_read _ _ _ _ c.u32_inside-local.ensures.0 c.from-byte.ensures c.u32_inside-i.ensures.0 (default_struct _ _ _ _ c.plain-2.ensures c.plain-3.ensures c.in-2.is c.plain-in-2.ensures)

pub returns-in-3 : goal.returns-in-3
returns-in-3 g c = default_read _ _ _ _ c.u32_inside-local.ensures.0 c.from-byte.ensures c.u32_inside-i.ensures.0 (default_other _ _ _ _ c.plain-2.ensures c.plain-3.ensures c.in-3.is c.plain-in-3.ensures)

pub returns-in-4 : goal.returns-in-4
returns-in-4 g c = default_read _ _ _ _ c.u32_inside-local.ensures.0 c.from-byte.ensures c.u32_inside-i.ensures.0 (default_enum _ _ _ _ c.plain-2.ensures c.plain-3.ensures c.in-4.is c.plain-in-4.ensures c.plain-in-4-2.ensures)

pub returns-in_default : goal.returns-in_default
returns-in_default g c = default_read _ _ _ _ c.u32_inside-local.ensures.0 c.from-byte.ensures c.u32_inside-i.ensures.0 (default_primitive _ _ _ _ c.plain-2.ensures c.plain-3.ensures (omega (arith, c.if-byte-eq0.false, c.if-byte-eq1.false, c.in_default.in_default-own.rest)) c.primitive.ensures)
