-- A record's first or second: a label as it is, a distance with its sign.
use Prim.Native.Nat.{ℕ, suc, ◌-◌, ◌≤◌, ◌<◌}
use mathlib.Core.Path.{◌≡◌, ◌∙◌}
use mathlib.Core.List.{[], ◌∷◌, ◌++◌}
use native.Mathlib.Omega.{arith}
use native.Mathlib.Decide.{dec_lt}
use lib.IntN.{ℤ, pos, negsuc}
use borrow.Author.Tests.{lt-ltb, le-ltb}
use Rattle.std.specs.Prelude.{unsigned_abs, ◌<ℤ◌, ◌≤ℤ◌}
use Rattle.std.proofs.Math.Facts.{to_z_pos, to_z-neg}
use Rattle.std.specs.Int.{w16, cast_signed}
use Rattle.std.proofs.lemmas.Int.{ints}
use Rattle.definitions.specs.Resolve.{signed}
use Rattle.definitions.specs.Text.{letters, decimal, integer}
use Rattle.print.specs.declared.Form.{Form}
use Rattle.print.specs.declared.Form.TheVariants.{Distances, Labels}
use Rattle.print.specs.declared.page.Page.{Page}
use Rattle.print.specs.Values.{sign_of}
use Rattle.print.specs.Writing.{Wrote, Field}
use Rattle.print.proofs.WriteLaws.{both}

-- a number from 0 on
pub onward_field : (z : ℤ) {k e : ℕ} {p q : Page} → pos 0 ≤ℤ z → k ≡ unsigned_abs z → Field 21 (decimal k) e p q → Field 22 (integer z) e p q
unfolding integer
onward_field (pos n) h m f = record { wrote = rw m at f.wrote; short = omega (arith, f.short) }
onward_field (negsuc n) h m f = absurd (omega (arith, ints))

-- and one below 0, with its minus sign
pub back_field : (z : ℤ) {k e : ℕ} {p q r : Page} → z <ℤ pos 0 → k ≡ unsigned_abs z → Wrote (45 ∷ []) p q → Field 21 (decimal k) e q r → Field 22 (integer z) e p r
unfolding integer letters
back_field (pos n) h m w f = absurd (omega (arith, ints))
back_field (negsuc n) {e = e} h m w f = record { wrote = both {b = decimal (suc n) ++ (e ∷ [])} w (rw m at f.wrote); short = omega (arith, w.place, f.short) }

pub label_field : (form : Form) (w : ℕ) {e : ℕ} {p q : Page} → form ≡ Labels → Field 21 (decimal w) e p q → Field 22 (integer (sign_of form w)) e p q
unfolding integer sign_of
label_field form w h f = rw h (record { wrote = f.wrote; short = omega (arith, f.short) })

-- 16 bits as a number with a sign
below : (w : ℕ) → 32768 ≤ w → w < 65536 → cast_signed w16 w ≡ negsuc (65535 - w)
below w l h = let k : 65536 - suc (65535 - w) ≡ w = omega arith in rw k at (to_z-neg w16 (65535 - w) (omega arith))

signed_is : (w : ℕ) → w < 65536 → cast_signed w16 w ≡ signed w
unfolding signed
signed_is w h = elim (dec_lt w 32768) [
  | yes l ↦ to_z_pos w16 l ∙ rw (signed, lt-ltb w 32768 l)
  | no l ↦ below w (omega arith) h ∙ rw (signed, le-ltb w 32768 (omega arith))
]

pub distance_field : (form : Form) (w : ℕ) {z : ℤ} {e : ℕ} {p q : Page} → form ≡ Distances → w < 65536 → z ≡ cast_signed w16 w → Field 22 (integer z) e p q → Field 22 (integer (sign_of form w)) e p q
unfolding sign_of
distance_field form w h l m f = rw (h, ← signed_is w l, ← m) f
