use mathlib.Core.Path.{ap, sym}
use lib.ListN.{length}
use lib.Seq.{length-take-le}
use Rattle.definitions.specs.Text.{text_into}
use Rattle.show.proofs.ShowLaws.{answers_as, coded_is, coded_few, unresolved_text, coded_text}
use native.Mathlib.Omega.{arith}
use Rattle.show.proofs.show_resolved.Goals as goal

pub overflow_mul-end : goal.overflow_mul-end
overflow_mul-end c = omega (arith, coded_few c.args.listing.now c.args.marks.now c.args.code.now _ _ c.in-Ok.ensures (λ k. omega (arith, c.type_inv.listing k)))

pub overflow_add-end : goal.overflow_add-end
overflow_add-end c = omega (arith, coded_few c.args.listing.now c.args.marks.now c.args.code.now _ _ c.in-Ok.ensures (λ k. omega (arith, c.type_inv.listing k)))

pub slice_bounds-print_code-end : goal.slice_bounds-print_code-end
slice_bounds-print_code-end c = (coded_is c.args.listing.now c.args.marks.now c.args.code.now _ _ c.in-Ok.ensures).fits

pub slice_bounds-print_code-end-in-Ok : goal.slice_bounds-print_code-end-in-Ok
slice_bounds-print_code-end-in-Ok c = sym (length-take-le _ _ (coded_is c.args.listing.now c.args.marks.now c.args.code.now _ _ c.in-Ok.ensures).fits)

pub returns-in-Err : goal.returns-in-Err
returns-in-Err c = answers_as (ap (λ y. text_into y (length c.args.out.now)) (sym (unresolved_text c.args.listing.now c.args.marks.now c.args.code.now _ _ c.in-Err.ensures))) c.show_refusal.ensures

pub returns-in-Ok : goal.returns-in-Ok
returns-in-Ok c = answers_as (coded_text c.args.listing.now c.args.marks.now c.args.code.now _ _ c.in-Ok.ensures (λ k. omega (arith, c.type_inv.listing k)) _) c.print_code.ensures
