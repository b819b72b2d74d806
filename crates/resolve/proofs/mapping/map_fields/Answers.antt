-- Its first, then its second.
use mathlib.Core.Path.{◌∙◌}
use Rattle.std.proofs.lemmas.Result.{err_from_is_err_and}
use Rattle.definitions.specs.Instr.{record_at}
use Rattle.resolve.proofs.RecordLaws.{tag_at, first_refused, second_refused, both_mapped}
use Rattle.resolve.proofs.mapping.map_fields.Goals as goal

pub returns-in_err-first : goal.returns-in_err-first
unfolding record_at
returns-in_err-first g c =
    let p = err_from_is_err_and c.from_residual.result c.from_residual.ensures.1 in
    rw (p.1, p.2) (first_refused _ _ _ _ _ _ (c.requires.tag ∙ tag_at _ _) c.requires.row _ (rw c.u16_inside-first.ensures.0 at c.in_err-first.ensures))

pub returns-in_err-second : goal.returns-in_err-second
unfolding record_at
returns-in_err-second g c =
    let p = err_from_is_err_and c.from_residual-in_err-second.result c.from_residual-in_err-second.ensures.1 in
    rw (p.1, p.2) (second_refused _ _ _ _ _ _ (c.requires.tag ∙ tag_at _ _) c.requires.row _ (rw c.u16_inside-first.ensures.0 at c.in_ok-first.ensures) _ (rw c.u16_inside-second.ensures.0 at c.in_err-second.ensures))

pub returns : goal.returns
unfolding record_at
returns g c =
    both_mapped _ _ _ _ _ _ (c.requires.tag ∙ tag_at _ _) c.requires.row _ (rw c.u16_inside-first.ensures.0 at c.in_ok-first.ensures) _ (rw c.u16_inside-second.ensures.0 at c.in_ok-second.ensures)
