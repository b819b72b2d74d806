use mathlib.Core.Path.{ap, sym}
use lib.ListN.{length}
use lib.Seq.{length-take-le}
use Rattle.definitions.specs.Stage.{printed}
use Rattle.definitions.specs.Text.{text_into}
use Rattle.show.proofs.ShowLaws.{answers_as, turned_text, listed_fits, listed_text}
use native.Mathlib.Omega.{arith}
use Rattle.show.proofs.show_unit.Goals as goal

pub slice_bounds-show_resolved-end : goal.slice_bounds-show_resolved-end
slice_bounds-show_resolved-end c = listed_fits c.args.unit.now c.requires.unit_len_bound c.args.listing.now c.args.marks.now c.requires.input_limit_in_bounds.0 c.requires.input_limit_in_bounds.1 _ _ _ c.in-Ok.ensures

pub slice_bounds-show_resolved-end-in-Ok : goal.slice_bounds-show_resolved-end-in-Ok
slice_bounds-show_resolved-end-in-Ok c = sym (length-take-le _ _ (listed_fits c.args.unit.now c.requires.unit_len_bound c.args.listing.now c.args.marks.now c.requires.input_limit_in_bounds.0 c.requires.input_limit_in_bounds.1 _ _ _ c.in-Ok.ensures))

pub returns-in-Err : goal.returns-in-Err
returns-in-Err c = answers_as (ap (λ y. text_into y (length c.args.out.now)) (sym (turned_text c.args.unit.now c.requires.unit_len_bound c.args.listing.now c.args.marks.now c.requires.input_limit_in_bounds.0 c.requires.input_limit_in_bounds.1 _ _ _ c.in-Err.ensures))) c.show_refusal.ensures

pub returns-in-Ok : goal.returns-in-Ok
returns-in-Ok c = answers_as (ap (λ y. text_into (printed y) (length c.args.out.now)) (listed_text c.args.unit.now c.requires.unit_len_bound c.args.listing.now c.args.marks.now c.requires.input_limit_in_bounds.0 c.requires.input_limit_in_bounds.1 _ _ _ c.in-Ok.ensures (λ k. omega (arith, c.type_inv.unit k)) _ c.requires.input_limit_in_bounds.2)) c.show_resolved.ensures
