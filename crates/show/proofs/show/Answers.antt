use Rattle.definitions.specs.Code.{label_limit}
use mathlib.Core.Path.{ap, sym}
use lib.ListN.{length}
use Rattle.definitions.specs.Text.{text_into}
use Rattle.show.proofs.ShowLaws.{answers_as, shown_long, shown_short}
use native.Mathlib.Omega.{arith}
use Rattle.show.proofs.show.Goals as goal

pub returns-then-input-gt-LONGEST : goal.returns-then-input-gt-LONGEST
returns-then-input-gt-LONGEST c = answers_as (ap (λ y. text_into y (length c.args.out.now)) (sym (shown_long c.args.input.now c.if-input-gt-LONGEST.true))) (rw c.of.ensures at c.show_refusal.ensures)

pub show_unit-requires : goal.show_unit-requires
unfolding label_limit
show_unit-requires c = record { unit_len_bound = c.if-input-gt-LONGEST.false; input_limit_in_bounds = (omega arith, omega arith, omega arith) }

pub returns : goal.returns
returns c = answers_as (ap (λ y. text_into y (length c.args.out.now)) (sym (shown_short c.args.input.now c.if-input-gt-LONGEST.false))) c.show_unit.ensures
