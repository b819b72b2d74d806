use Rattle.std.proofs.Common.{rules, ◌∙◌}
use Rattle.instr.proofs.NumberLaws.{one_byte}
use Rattle.steps.proofs.LeafLaws.{by_width, no_width}
use Rattle.steps.proofs.pieces.value_at.Goals as goal

pub returns-in-1 : goal.returns-in-1
returns-in-1 c = by_width _ _ _ _ _ c.const_width.ensures c.in-1.is (c.from.ensures ∙ one_byte _ _ c.byte_at.ensures)

pub returns-in-2 : goal.returns-in-2
returns-in-2 c = by_width _ _ _ _ _ c.const_width.ensures c.in-2.is (c.from-in-2.ensures ∙ c.u16_at.ensures.0)

pub returns-in-4 : goal.returns-in-4
returns-in-4 c = by_width _ _ _ _ _ c.const_width.ensures c.in-4.is c.u32_at.ensures.0

pub returns-in-8 : goal.returns-in-8
returns-in-8 c = by_width _ _ _ _ _ c.const_width.ensures c.in-8.is c.u64_at.ensures.0

pub returns-in_default : goal.returns-in_default
returns-in_default c = no_width _ _ _ _ c.const_width.ensures (search rules) (search rules) (search rules) (search rules)
