use Rattle.std.proofs.Common.{rules, refl, ◌∙◌}
use Rattle.definitions.specs.Tag.{const_tags}
use Rattle.instr.specs.declared.tag.Tag.TheVariants as tag
use Rattle.steps.specs.declared.tags.TheConstants.{CONST_TAGS}
use Rattle.steps.proofs.LeafLaws.{const_i32, const_bool, const_other, entry_or}
use Rattle.steps.proofs.tags.const_tag.Goals as goal

pub returns-in-9 : goal.returns-in-9
returns-in-9 c = const_i32 _ _ _ c.in-9.is c.i32_tag.ensures

pub returns-in-15 : goal.returns-in-15
returns-in-15 c = const_bool _ _ _ c.in-15.is c.bool_tag.ensures

pub returns-in_default : goal.returns-in_default
unfolding const_tags
returns-in_default c =
    rw (c.unwrap_or.ensures, c.copied.ensures) (entry_or CONST_TAGS const_tags c.args.byte c.get.result tag.Nop refl c.get.ensures.lookup) ∙ const_other c.args.byte c.args.value (search rules) (search rules)
