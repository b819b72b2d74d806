-- The records that are done stand behind the front, and those that are left stand behind them.
use mathlib.Core.Path.{◌∙◌}
use native.Mathlib.Omega.{arith}
use Rattle.instr.proofs.WholeLaws.{accepted}
use Rattle.resolve.proofs.RecordLaws.{tag_at, size_at, plain, fields_made, fields_refused}
use Rattle.resolve.proofs.Passes.{coding_start, coding_plain, coding_fields, coding_refused, coding_end}
use Rattle.resolve.proofs.mapping.write_fields.Goals.{then-row-ne0+in-Ok, then-row-ne0+in_default, else-row-ne0}
use Rattle.resolve.proofs.mapping.write_fields.Goals as goal

pub loop-number-init : goal.loop-number-init
loop-number-init g c =
    rw c.copy_listing.ensures (coding_start _ _ _ (accepted _ _ c.requires.good) (λ k. omega (arith, c.type_inv.listing k)) _ c.requires.room)

pub loop-number-preserved : goal.loop-number-preserved
loop-number-preserved g c =
    elim c.if-row-ne0.branch [
      | then-row-ne0+in-Ok w ↦ rw w.out-is (coding_fields c.loop-number.invariant c.loop-number-test.true w.in-Ok.first w.in-Ok.second (fields_made _ _ _ _ _ _ w.in-Ok.ensures) _ (size_at _ _ (c.from-offset.ensures ∙ c.size_of.ensures.0)) _ _ (w.put_u16-in-Ok.auto.part ∙ w.put_u16.auto.part) w.put_u16.ensures w.put_u16-in-Ok.ensures)
      | then-row-ne0+in_default w ↦ coding_refused _ c.loop-number.invariant c.loop-number-test.true c.requires.checked _ (fields_refused _ _ _ _ _ w.in_default.ensures)
      | else-row-ne0 w ↦ rw w.out-is (coding_plain c.loop-number.invariant c.loop-number-test.true _ (plain _ _ _ _ _ _ (tag_at _ _) c.row_of-row.ensures w.if-row-ne0.false) (size_at _ _ (c.from-offset.ensures ∙ c.size_of.ensures.0)))
    ]

pub returns : goal.returns
returns g c = coding_end c.loop-number.invariant (omega arith)
