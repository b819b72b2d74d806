-- Tables: an entry that is read at a tag.
use mathlib.Core.Path.{◌≡◌, refl, ◌∙◌, ap, sym}
use mathlib.Core.Bool.{Bool, true, false, not}
use mathlib.Core.List.{List, map}
use Prim.Native.Nat.{ℕ, ◌≤◌, ◌<◌}
use native.Mathlib.Omega.{arith}
use lib.Dec.{eqb}
use lib.ListN.{get_or, get_or-map}
use borrow.Author.Tests.{ne_eqb}
use Rattle.std.proofs.Common.{Bor}
use Rattle.std.specs.Prelude.{Option, Some, None, unwrap_or}
use Rattle.std.specs.Option.{option_copied, option_map}
use Rattle.std.specs.List.{slice_get}
use Rattle.std.specs.Slice.{IsItemAt}
use Rattle.std.proofs.lemmas.Option.{slice_get_past, slice_get-get_or, slice_get-map, unwrap_or-slice_get}
use Rattle.definitions.specs.Code.{unmarked}
use Rattle.definitions.specs.Tag as definitions
use Rattle.definitions.specs.Tag.{tag_size, row_of}
use Rattle.laws.proofs.Sizes.{size_limit}
use Rattle.instr.specs.declared.tables.Row.{Row}
use Rattle.instr.specs.Values.{mark, row_marks}

-- the size at a tag is that of the tag with the same number
pub size_at : {t n : ℕ} → n ≡ t → (tag_size n ≡ tag_size t) × (tag_size n ≤ 17)
size_at {t} {n} e = (ap tag_size e, size_limit n)

-- the rows of the code, and the one with no field
unfoldable pub the_rows : List Row
the_rows = map row_marks definitions.rows

abbrev none : definitions.Row
none = record { small = false; first = false; second = false; line = false; flags = false; value = false }

pub row_at : {t n : ℕ} → n ≡ t → get_or the_rows n (row_marks none) ≡ row_marks (row_of t)
unfolding row_of the_rows
row_at {t} {n} e = get_or-map row_marks definitions.rows n none ∙ ap (λ k. row_marks (row_of k)) e

-- whether a tag uses the field with this mark
abbrev pub uses : (mark : ℕ) → Bool
uses n = not (eqb n 0)

pub uses_mark : (used : Bool) (top : ℕ) → 0 < top → uses (mark used top) ≡ used
uses_mark true top h = ap not (ne_eqb top 0 (λ e. absurd (omega (arith, h, e))))
uses_mark false top h = refl

-- what `get` lends, copied, is the element
pub copied_get : {X : Type 0} (xs : List X) (k : ℕ) (r : Option (Bor X)) → IsItemAt xs k r → option_copied r ≡ slice_get xs k
copied_get xs k None h = sym (slice_get_past xs k h.3)
copied_get xs k (Some x) h = sym (slice_get-get_or xs k x.now h.3.0 ∙ ap Some (sym h.1))

-- what `get` lends of a label table, or the unmarked mark
pub marked_as : (marks : List ℕ) (i l : ℕ) (r : Option (Bor ℕ)) → i ≡ l → IsItemAt marks i r → unwrap_or (option_copied r) unmarked ≡ get_or marks l unmarked
marked_as marks i l r e h = rw (copied_get marks i r h, e) (unwrap_or-slice_get marks l unmarked)

pub mapped_get : {X : Type 0} (f : X → ℕ) (xs : List X) (ns : List ℕ) (k : ℕ) (r : Option (Bor X)) → map f xs ≡ ns → IsItemAt xs k r → option_map f (option_copied r) ≡ slice_get ns k
mapped_get f xs ns k r e h = rw (copied_get xs k r h, ← e) (sym (slice_get-map f xs k))
