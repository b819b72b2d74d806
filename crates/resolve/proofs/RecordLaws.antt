-- A record and its two fields, with what its tag says. Assumes nothing.
use Prim.Native.Nat.{ℕ}
use mathlib.Core.Path.{◌≡◌, refl, ap, sym, ◌∙◌}
use mathlib.Core.List.{List}
use native.Mathlib.Omega.{arith}
use lib.ListN.{get_or}
use Rattle.std.specs.Int.Bits.{bit_or}
use Rattle.std.proofs.lemmas.Nat.{le_or_l, le_or_r}
use Rattle.std.specs.Prelude.{Ok, Err}
use Rattle.definitions.specs.Answer.{Result, made, onward}
use Rattle.definitions.specs.Tag.{tag_size, row_of}
use Rattle.definitions.specs.Instr.{Instr, record_at}
use Rattle.instr.specs.declared.refusals.Refusal.{Refusal}
use Rattle.instr.specs.declared.tables.Row.{Row}
use Rattle.instr.specs.Refusals.{answer}
use Rattle.instr.specs.Values.{row_marks}
use Rattle.instr.proofs.NumberLaws.{one_byte}
use Rattle.instr.proofs.TableLaws.{uses, uses_mark}
use Rattle.resolve.specs.Mapping.{Mapped, map_field, map_fields, relabelled, map_record}

-- 1. Its tag is the byte that it begins with, so what is told of that byte is told of the tag

pub tag_at : (s : List ℕ) (at : ℕ) → get_or s at 0 ≡ (record_at s at).tag
unfolding record_at
tag_at s at = one_byte s at refl

pub size_at : (s : List ℕ) (at : ℕ) {n : ℕ} → n ≡ tag_size (get_or s at 0) → n ≡ tag_size (record_at s at).tag
size_at s at e = e ∙ ap tag_size (tag_at s at)

-- 2. Its first, then its second

module _ (m : Mapped) (start k : ℕ) (i : Instr) (row : Row) (tag : ℕ) (t : tag ≡ i.tag) (e : row ≡ row_marks (row_of tag)) where
  first_of : {r : Result ℕ} → r ≡ map_field m (uses row.first) tag start k 0 i.first → map_field m (row_of i.tag).first i.tag start k 0 i.first ≡ r
  first_of h = rw (← t) (sym (rw (e, uses_mark (row_of tag).first 65535 (omega arith)) at h))

  second_of : {r : Result ℕ} → r ≡ map_field m (uses row.second) tag start k 1 i.second → map_field m (row_of i.tag).second i.tag start k 1 i.second ≡ r
  second_of h = rw (← t) (sym (rw (e, uses_mark (row_of tag).second 65535 (omega arith)) at h))

  pub first_refused : (q : Refusal) → answer {A = ℕ} (Err q) ≡ map_field m (uses row.first) tag start k 0 i.first → answer {A = ℕ × ℕ} (Err q) ≡ map_fields m start k i
  unfolding answer map_fields onward
  first_refused q h = rw (first_of h)

  module _ (f : ℕ) (g : answer (Ok f) ≡ map_field m (uses row.first) tag start k 0 i.first) where
    pub second_refused : (q : Refusal) → answer {A = ℕ} (Err q) ≡ map_field m (uses row.second) tag start k 1 i.second → answer {A = ℕ × ℕ} (Err q) ≡ map_fields m start k i
    unfolding answer map_fields onward
    second_refused q h = rw (first_of g, second_of h)

    pub both_mapped : (s : ℕ) → answer (Ok s) ≡ map_field m (uses row.second) tag start k 1 i.second → answer (Ok (f, s)) ≡ map_fields m start k i
    unfolding answer map_fields onward
    both_mapped s h = rw (first_of g, second_of h)

  -- where neither of them carries anything, the record stays
  pub plain : bit_or row.first row.second ≡ 0 → made i ≡ map_record m start k i
  unfolding map_field map_fields map_record onward
  plain h =
      let a : row.first ≡ 0 = omega (arith, h, le_or_l row.first row.second) in
      let b : row.second ≡ 0 = omega (arith, h, le_or_r row.first row.second) in
      rw (first_of {r = made i.first} (rw a), second_of {r = made i.second} (rw b))

-- 3. The record with them

module _ (m : Mapped) (start k : ℕ) (i : Instr) where
  pub fields_made : (f s : ℕ) → answer (Ok (f, s)) ≡ map_fields m start k i → made (relabelled i f s) ≡ map_record m start k i
  unfolding answer map_record onward
  fields_made f s h = rw (← h)

  pub fields_refused : (q : Refusal) → answer {A = ℕ × ℕ} (Err q) ≡ map_fields m start k i → answer {A = Instr} (Err q) ≡ map_record m start k i
  unfolding answer map_record onward
  fields_refused q h = rw (← h)
