-- What is taken off a tag that is in no entry. Assumes nothing.
use Prim.Native.Nat.{ℕ}
use mathlib.Core.Path.{◌≡◌, refl, sym, ap, ◌∙◌}
use mathlib.Core.Bool.{true, false, cond, true≢false}
use lib.Dec.{eqb}
use mathlib.Core.List.{List, [], ◌∷◌}
use borrow.Author.Tests.{ne_eqb}
use Rattle.definitions.specs.Tag.{emitted, tag_size, sizes}
use Rattle.definitions.specs.Stored.{Less, lesses, less_in, less_of}
use Rattle.landing.specs.Landed.{Each}
use Rattle.instr.specs.declared.tag.Tag.{Tag}
use Rattle.instr.specs.declared.tag.Tag.TheVariants.{Jump, JumpIfFalse, Skip, Context, InvokeStatic, InvokeVirtual, Conditional, SwitchLabel, Switch}
use Rattle.instr.specs.Tags.{byte_of}
use Rattle.store.specs.Values.{less_at}

pub first_none : (t : Tag) → (t ≡ Switch → ⊥) → (t ≡ SwitchLabel → ⊥) → (t ≡ Jump → ⊥) → (t ≡ JumpIfFalse → ⊥) → (t ≡ Skip → ⊥) → (t ≡ Conditional → ⊥) → (t ≡ InvokeStatic → ⊥) → (t ≡ InvokeVirtual → ⊥) → (t ≡ Context → ⊥) →
    (less_of (byte_of t)).first ≡ 0
unfolding lesses less_in
first_none Switch a b c d e f g h i = absurd (a refl)
first_none SwitchLabel a b c d e f g h i = absurd (b refl)
first_none Jump a b c d e f g h i = absurd (c refl)
first_none JumpIfFalse a b c d e f g h i = absurd (d refl)
first_none Skip a b c d e f g h i = absurd (e refl)
first_none Conditional a b c d e f g h i = absurd (f refl)
first_none InvokeStatic a b c d e f g h i = absurd (g refl)
first_none InvokeVirtual a b c d e f g h i = absurd (h refl)
first_none Context a b c d e f g h i = absurd (i refl)
first_none t a b c d e f g h i = refl

pub second_none : (t : Tag) → (t ≡ SwitchLabel → ⊥) → (t ≡ Conditional → ⊥) → (less_of (byte_of t)).second ≡ 0
unfolding lesses less_in
second_none SwitchLabel a b = absurd (a refl)
second_none Conditional a b = absurd (b refl)
second_none t a b = refl

none_in : (ls : List Less) (t : ℕ) → Each (λ l. emitted l.tag ≡ true) ls → emitted t ≡ false → less_in ls t ≡ record { tag = t; first = 0; second = 0 }
unfolding less_in
none_in [] t h e = refl
none_in (l ∷ ls) t h e = rw (ne_eqb l.tag t (λ d. true≢false (sym h.0 ∙ ap emitted d ∙ e))) (none_in ls t h.1 e)

-- nor of a byte that is no tag
less_none : (t : ℕ) → emitted t ≡ false → less_of t ≡ record { tag = t; first = 0; second = 0 }
unfolding lesses emitted tag_size sizes
less_none t e = none_in lesses t (refl, (refl, (refl, (refl, (refl, (refl, (refl, (refl, (refl, tt))))))))) e

pub less_at_none : (t x : ℕ) → emitted t ≡ false → less_at t x ≡ 0
less_at_none t x e = rw (less_none t e) (elim (eqb x 0) as (λ b. cond {A = ℕ} b 0 0 ≡ 0) [ true ↦ refl | false ↦ refl ])
