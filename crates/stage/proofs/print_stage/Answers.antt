use mathlib.Core.Path.{refl, sym}
use lib.Seq.{length-take-le}
use Rattle.print.proofs.AnswerLaws.{done_within}
use Rattle.stage.proofs.print_stage.Goals as goal

pub slice_bounds-print_all-end : goal.slice_bounds-print_all-end
slice_bounds-print_all-end g c = done_within _ refl c.in-Ok.ensures

pub slice_bounds-print_all-end-in-Ok : goal.slice_bounds-print_all-end-in-Ok
slice_bounds-print_all-end-in-Ok g c = sym (length-take-le _ _ (done_within _ refl c.in-Ok.ensures))
