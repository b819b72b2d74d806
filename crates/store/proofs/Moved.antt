-- WHAT IS MOVED IS A LISTING, and moving it back gives what was there. Assumes nothing.
use Prim.Native.Nat.{ℕ, suc, ◌-◌, ◌<◌, ◌^◌}
use mathlib.Core.Path.{◌≡◌, refl, ap, ◌∙◌}
use mathlib.Core.Bool.{Bool, true, false, and-eq-true_iff}
use mathlib.Core.List.{List, [], ◌∷◌}
use native.Mathlib.Omega.{arith}
use lib.Dec.{ltb}
use lib.ListN.{length}
use lib.IntN.{ℤ, pos, negsuc, -ℤ-+ℤ_cancel, +ℤ-neg_ℤ_cancel}
use borrow.Author.Tests.{ltb-false, lt-ltb}
use Rattle.definitions.specs.Answer.{made, onward, checked}
use Rattle.definitions.specs.Tag.{row_of}
use Rattle.definitions.specs.Instr.{Instr, unused0, good_record}
use Rattle.definitions.specs.Listing.{all_good}
use Rattle.definitions.specs.Resolve.{in_range, word, signed}
use Rattle.definitions.specs.Stored.{Way, there, back, less_of, move_field, move_record, move_records}
use Rattle.laws.proofs.Inversion.{refusal_not_made}
use Rattle.laws.proofs.Results.{made_is, onward_is}
use Rattle.laws.proofs.Widths.{Within, AllWithin}
use Rattle.landing.proofs.Theorem.{signed_word}
use Rattle.resolve.proofs.Listed.{word_fits}

-- 1. Sixteen bits

word_signed : (w : ℕ) → w < 256 ^ 2 → (in_range (signed w) ≡ true) × (word (signed w) ≡ w)
unfolding signed in_range word
word_signed w h = go (ltb w 32768) refl
  where
    go : (b : Bool) → ltb w 32768 ≡ b → (in_range (elim b as (λ _. ℤ) [ true ↦ pos w | false ↦ negsuc (65535 - w) ]) ≡ true) × (word (elim b as (λ _. ℤ) [ true ↦ pos w | false ↦ negsuc (65535 - w) ]) ≡ w)
    go true e = (e, refl)
    go false e = let l = ltb-false w 32768 e in (lt-ltb (65535 - w) 32768 (omega arith), omega arith)

-- the two ways undo one another
pub record Undoes (way yaw : Way) : Type 0 where
  pub undone : (d : ℤ) (n : ℕ) → yaw (way d n) n ≡ d

pub there_back : Undoes there back
unfolding there back
there_back = record { undone = λ d n. -ℤ-+ℤ_cancel d (pos n) }

pub back_there : Undoes back there
unfolding there back
back_there = record { undone = λ d n. +ℤ-neg_ℤ_cancel d (pos n) }

-- 2. Fields

-- a field that was moved: it fits, it is used as before, and moved back it is as it was
pub record FieldMoved (yaw : Way) (carries : Bool) (off w f : ℕ) : Type 0 where
  pub width : f < 256 ^ 2
  pub alike : unused0 carries f ≡ unused0 carries w
  pub again : (k x : ℕ) → move_field yaw carries off k x f ≡ made w

module _ {way yaw : Way} (u : Undoes way yaw) where
  field_moved : (b : Bool) (off k x w f : ℕ) → move_field way b off k x w ≡ made f → w < 256 ^ 2 → FieldMoved yaw b off w f
  unfolding move_field unused0 checked
  field_moved false off k x w f e h = rw (← (made_is e)) (record { width = h; alike = refl; again = λ k x. refl })
  field_moved true off k x w f e h = go (in_range (way (signed w) off)) refl e
    where
      go : (b : Bool) → in_range (way (signed w) off) ≡ b → checked b 33 k x (made (word (way (signed w) off))) ≡ made f → FieldMoved yaw true off w f
      go true i e =
          let d = way (signed w) off in
          let z : yaw (signed (word d)) off ≡ signed w = ap (λ (y : ℤ). yaw y off) (signed_word d i) ∙ u.undone (signed w) off in
          let s = word_signed w h in
          rw (← (made_is e)) (record { width = word_fits d i; alike = refl; again = λ k x. rw (z, s.0, s.1) })
      go false i e = refusal_not_made e

  -- 3. Records

  pub record_moved : (k : ℕ) (i r : Instr) → move_record way k i ≡ made r → Within i → Within r × (good_record r ≡ good_record i) × (move_record yaw k r ≡ made i)
  unfolding move_record good_record onward
  record_moved k i r e w =
      let a = onward_is (move_field way (row_of i.tag).first (less_of i.tag).first k 0 i.first) _ e in
      let b = onward_is (move_field way (row_of i.tag).second (less_of i.tag).second k 1 i.second) _ a.2 in
      let f = field_moved (row_of i.tag).first (less_of i.tag).first k 0 i.first a.0 a.1 w.first in
      let s = field_moved (row_of i.tag).second (less_of i.tag).second k 1 i.second b.0 b.1 w.second in
      rw (← (made_is b.2)) (
        record { tag = w.tag; small = w.small; first = f.width; second = s.width; line = w.line; flags = w.flags; value = w.value; node = w.node },
        rw (f.alike, s.alike),
        rw (f.again k 0, s.again k 1),
      )

  pub records_moved : (k : ℕ) (is rs : List Instr) → move_records way k is ≡ made rs → AllWithin is → all_good is ≡ true
      → AllWithin rs × (all_good rs ≡ true) × (length rs ≡ length is) × (move_records yaw k rs ≡ made is)
  unfolding move_records all_good onward
  records_moved k [] rs e w g = rw (← (made_is e)) (tt, refl, refl, refl)
  records_moved k (i ∷ is) rs e w g =
      let a = onward_is (move_record way k i) _ e in
      let b = onward_is (move_records way (suc k) is) _ a.2 in
      let h = (and-eq-true_iff (good_record i) (all_good is)).0 g in
      let r = record_moved k i a.0 a.1 w.0 in
      let rest = records_moved (suc k) is b.0 b.1 w.1 h.1 in
      rw (← (made_is b.2)) ((r.0, rest.0), rw (r.1, h.0, rest.1), ap suc rest.2, rw (r.2, rest.3))
