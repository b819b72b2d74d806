-- The two ways, a signed number from 0 up, and what becomes of a field.
use Rattle.std.specs.Prelude.{ℕ, ◌+◌, ◌-◌, true, false, cond, eqb, ltb, Option, Some, None}
use Rattle.definitions.specs.Resolve.{in_range, word, signed}
use Rattle.definitions.specs.Stored.{Way, there, back, less_of, move_field}
use Rattle.resolve.specs.Mapping.{Mapped}
use Rattle.store.specs.declared.fields.Way as way
use Rattle.store.specs.declared.fields.Way.TheVariants.{There, Back}

abbrev pub way_is : way.Way → Way
way_is There = there
way_is Back = back

-- sixteen bits of a signed number as that number and 32,768 more; and back
unfoldable pub biased : ℕ → ℕ
biased w = elim (ltb w 32768) [ true ↦ w + 32768 | false ↦ w - 32768 ]

-- a field with so much off its number, or on it, where that fits sixteen bits
unfoldable pub shifted : Way → (off field : ℕ) → Option ℕ
shifted way off w = cond (in_range (way (signed w) off)) (Some (word (way (signed w) off))) None

-- what is taken off by tag: of a first, where extra is 0, or of a second
abbrev pub less_at : (tag extra : ℕ) → ℕ
less_at t x = cond (eqb x 0) (less_of t).first (less_of t).second

-- a field that carries a distance
abbrev pub moved : Way → Mapped
moved way t start k x w = move_field way true (less_at t x) k x w
