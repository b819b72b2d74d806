-- The digits, and the byte that ends the field.
use Prim.Native.Nat.{◌+◌}
use mathlib.Core.Path.{refl, sym, ap}
use Rattle.print.proofs.DigitLaws.{length_digits, digits_field}
use Rattle.print.proofs.page.Page.put_digits.Goals as goal

pub returns : goal.returns
returns g c =
    let a = c.args in
    digits_field g.row.BASE a.n a.count (record { place = ap (λ k. a.self.now.at + k) (sym (length_digits g.row.BASE a.count a.n)); bytes = c.set_digits.ensures; buffer = refl }) c.put.ensures
