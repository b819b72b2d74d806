-- Taken off, or put on.
use mathlib.Core.Path.{◌≡◌, ◌∙◌}
use borrow.Author.Rules.{rules}
use Rattle.std.specs.Prelude.{option_map}
use Rattle.store.specs.Values.{biased}
use Rattle.store.proofs.FieldLaws.{taken, put}
use Rattle.store.proofs.fields.Way.shift.Goals.{in-There, in-Back}
use Rattle.store.proofs.fields.Way.shift.Goals as goal

biased_is : (c : goal.After-map) → c.map.result ≡ option_map biased c.match-self.shifted
biased_is c = search rules

pub returns : goal.returns
returns c =
    let a = c.args in
    biased_is c
    ∙ elim c.match-self.branch [
      | in-There w ↦ rw (w.in-There.is, w.shifted-is) (taken a.field a.off c.ranges.field.fits _ c.bias-n.ensures _ w.checked_sub-shifted.ensures c.requires)
      | in-Back w ↦ rw (w.in-Back.is, w.shifted-is) (put a.field a.off c.ranges.field.fits _ c.bias-n.ensures _ w.checked_add-shifted.ensures)
    ]
