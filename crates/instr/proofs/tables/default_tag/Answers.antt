-- The whole table is that of the definitions, by computing.
use mathlib.Core.Path.{refl}
use Rattle.definitions.specs.Tag.{default_tags}
use Rattle.instr.specs.declared.tables.TheConstants.{DEFAULT_TAGS}
use Rattle.instr.specs.Tags.{byte_of}
use Rattle.instr.proofs.TableLaws.{mapped_get}
use Rattle.instr.proofs.tables.default_tag.Goals as goal

pub returns : goal.returns
unfolding default_tags
returns c = rw c.copied.ensures (mapped_get byte_of DEFAULT_TAGS default_tags c.args.k c.get.result refl c.get.ensures.lookup)
