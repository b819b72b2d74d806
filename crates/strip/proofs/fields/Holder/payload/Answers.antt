-- The payload is written, and checked then.
use borrow.Author.Rules.{rules}
use Rattle.strip.proofs.FieldLaws.{pays, pays_not}
use Rattle.strip.proofs.fields.Holder.payload.Goals as goal

pub returns-then-payload_good : goal.returns-then-payload_good
returns-then-payload_good c = pays _ _ _ _ _ _ _ _ _ _ _ (search rules) c.requires c.const_width.ensures c.least_at-least.ensures c.blank-next.ensures.0 c.blank-next.ensures.1 c.payload_good.ensures c.if-payload_good.true

pub returns : goal.returns
returns c = pays_not _ _ _ _ _ _ _ _ _ _ (search rules) c.requires c.const_width.ensures c.least_at-least.ensures c.blank-next.ensures.1 c.payload_good.ensures c.if-payload_good.false
