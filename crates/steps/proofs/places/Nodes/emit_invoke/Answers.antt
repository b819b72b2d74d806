use Rattle.steps.specs.Walked.{list_of, exprs_from}
use Rattle.definitions.specs.Lower.{flags_of}
use Rattle.definitions.specs.Tree.{exprs_of}
use Rattle.std.proofs.Common.{◌+◌, ◌%◌, ◌^◌, ap, ◌∙◌}
use Rattle.steps.proofs.RunLaws.{called_at}
use Rattle.steps.proofs.FlagLaws.{invoke_law}
use Rattle.steps.proofs.places.Nodes.emit_invoke.Goals as goal

pub flags_of-flags-requires : goal.flags_of-flags-requires
flags_of-flags-requires g c =
    let k = called_at _ _ _ _ _ c.from.ensures c.requires in
    record { accepted = k.0; at_le_end = k.1 }

pub returns : goal.returns
returns g c = invoke_law _ _ _ _ _ _ (c.flags_of-flags.ensures ∙ ap (λ x. flags_of (exprs_of (list_of (exprs_from c.args.self.now.depth c.args.self.now.unit.now c.args.self.now.end (c.args.at + 16 + x)))) 1 % 2 ^ 16) c.from.ensures) c.u16_inside-line.ensures.0 _ _ c.invoke_tag.ensures c.invoke_value-value.ensures c.invoke.ensures
