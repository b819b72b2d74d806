-- A listing's records, one after another: their total size and their lines.
use Prim.Native.Nat.{ℕ, zero, suc, ◌+◌, ◌*◌}
use mathlib.Core.Path.{◌≡◌, refl, ap, sym}
use mathlib.Core.List.{List, [], ◌∷◌, ◌++◌, append_assoc, append-nil}
use native.Mathlib.Omega.{arith}
use native.Mathlib.Nat.{add-zero, zero-add}
use native.Mathlib.Numerals.{add-one}
use lib.IntN.{ℤ}
use Rattle.definitions.specs.Tag.{tag_size}
use Rattle.definitions.specs.Instr.{Instr, record_length, record_at, size}
use Rattle.definitions.specs.Listing.{front_length, records_from}
use Rattle.definitions.specs.Stage.{line_of, lines_from, total_size}
use Rattle.definitions.specs.Text.{line_text, lines_text}
use Rattle.laws.proofs.Sizes.{size_is}
use Rattle.print.specs.declared.page.Page.{Page}
use Rattle.print.specs.Writing.{Wrote}
use Rattle.print.proofs.WriteLaws.{both}

-- 1. One more record

records_more : (n : ℕ) (s : List ℕ) (at : ℕ) → records_from (suc n) s at ≡ records_from n s at ++ (record_at s (at + record_length * n) ∷ [])
unfolding records_from
records_more zero s at = rw (add-zero at)
records_more (suc n) s at = let e : at + record_length + record_length * n ≡ at + record_length * suc n = omega arith in rw (← e) (ap (λ (is : List Instr). record_at s at ∷ is) (records_more n s (at + record_length)))

total_more : (is : List Instr) (i : Instr) → total_size (is ++ (i ∷ [])) ≡ total_size is + tag_size i.tag
unfolding total_size
total_more [] i = omega (arith, size_is i)
total_more (j ∷ is) i = omega (arith, total_more is i)

lines_more : (sign : ℕ → ℤ) (start : ℕ) (is : List Instr) (i : Instr) →
    lines_text (lines_from sign start (is ++ (i ∷ []))) ≡ lines_text (lines_from sign start is) ++ line_text (line_of sign (start + total_size is) i)
unfolding lines_text lines_from total_size
lines_more sign start [] i = rw (add-zero start) (append-nil (line_text (line_of sign start i)))
lines_more sign start (j ∷ is) i =
    let e : start + size j + total_size is ≡ start + (size j + total_size is) = omega arith in
    rw (lines_more sign (start + size j) is i, e) (sym (append_assoc (line_text (line_of sign start j)) (lines_text (lines_from sign (start + size j) is)) (line_text (line_of sign (start + (size j + total_size is)) i))))

-- 2. As the loops go

-- the total of the first n
abbrev pub Totals : (sum n : ℕ) (s : List ℕ) → Type 0
Totals sum n s = sum ≡ total_size (records_from n s front_length)

pub no_total : (s : List ℕ) → Totals 0 0 s
unfolding records_from total_size
no_total s = refl

pub total_step : (sum n : ℕ) (s : List ℕ) {z : ℕ} {i : Instr} → Totals sum n s → i ≡ record_at s (front_length + record_length * n) → z ≡ tag_size i.tag → Totals (sum + z) (n + 1) s
total_step sum n s t e f = rw (t, f, e, add-one n, records_more n s front_length) (sym (total_more (records_from n s front_length) (record_at s (front_length + record_length * n))))

-- by a tag alone
pub tag_step : (sum n : ℕ) (s : List ℕ) {z t : ℕ} → Totals sum n s → t ≡ (record_at s (front_length + record_length * n)).tag → z ≡ tag_size t → Totals (sum + z) (n + 1) s
tag_step sum n s h e f = total_step sum n s h refl (rw e at f)

-- their lines
abbrev pub Lines : (sign : ℕ → ℤ) (n : ℕ) (s : List ℕ) (p q : Page) → Type 0
Lines sign n s p q = Wrote (lines_text (lines_from sign 0 (records_from n s front_length))) p q

pub no_lines : (sign : ℕ → ℤ) (s : List ℕ) (p : Page) → Lines sign 0 s p p
unfolding records_from lines_from lines_text
no_lines sign s p = record { place = sym (add-zero p.at); bytes = refl; buffer = refl }

pub lines_step : (sign : ℕ → ℤ) (n start : ℕ) (s : List ℕ) {i : Instr} {p q r : Page} → Totals start n s → Lines sign n s p q → i ≡ record_at s (front_length + record_length * n) →
    Wrote (line_text (line_of sign start i)) q r → Lines sign (n + 1) s p r
lines_step sign n start s t l e w =
    rw (add-one n, records_more n s front_length, lines_more sign 0 (records_from n s front_length) (record_at s (front_length + record_length * n)), ← t, zero-add start, ← e) (both l w)
