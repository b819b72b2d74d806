-- A label and its distance. Assumes nothing.
use Prim.Native.Nat.{ℕ, suc, ◌-◌, ◌≤◌, ◌<◌}
use mathlib.Core.Path.{◌≡◌, refl, ap, sym, ◌∙◌}
use mathlib.Core.Bool.{true, false, cond}
use mathlib.Core.List.{List}
use native.Mathlib.Omega.{arith}
use lib.ListN.{get_or}
use borrow.Author.Tests.{lt-ltb, le-ltb, eq-eqb, ne_eqb}
use Rattle.std.specs.Prelude.{Some, None, Err, ok_or}
use Rattle.definitions.specs.Answer.{made, checked}
use Rattle.definitions.specs.Code.{unmarked}
use Rattle.definitions.specs.Resolve.{in_range, word, distance_of}
use Rattle.instr.specs.declared.refusals.Reason.TheVariants.{Unmarked, Distance}
use Rattle.instr.specs.Refusals.{answer}
use Rattle.resolve.specs.Values.{near}
use lib.IntN.{ℤ, sub_ℕ}

-- 1. A mark and a start: which is less, and how far apart they are

module _ (mark start : ℕ) where
  pub ahead_far : start ≤ mark → 32767 < mark - start → None ≡ near mark start
  unfolding near in_range
  ahead_far h f = rw (le-ltb mark start h, le-ltb (mark - start) 32768 (omega arith))

  pub ahead_near : start ≤ mark → mark - start ≤ 32767 → Some (mark - start) ≡ near mark start
  unfolding near in_range word
  ahead_near h f = rw (le-ltb mark start h, lt-ltb (mark - start) 32768 (omega arith))

  pub back_far : mark < start → 32768 < start - mark → None ≡ near mark start
  unfolding near in_range
  back_far h f = rw (lt-ltb mark start h, le-ltb (start - suc mark) 32768 (omega arith))

  pub back_near : mark < start → start - mark ≤ 32768 → Some (65536 - (start - mark)) ≡ near mark start
  unfolding near in_range word
  back_near h f = rw (lt-ltb mark start h, lt-ltb (start - suc mark) 32768 (omega arith)) (ap Some (omega arith))

-- 2. A label

module _ (marks : List ℕ) (start number extra l mark : ℕ) (m : mark ≡ get_or marks l unmarked) where
  pub label_unmarked : mark ≡ unmarked → answer {A = ℕ} (Err (record { reason = Unmarked; place = number; extra = extra })) ≡ distance_of marks start number extra l
  unfolding answer distance_of checked
  label_unmarked e = rw (eq-eqb (get_or marks l unmarked) unmarked (sym m ∙ e))

  pub label_marked : (mark ≡ unmarked → ⊥) → answer (ok_or (near mark start) (record { reason = Distance; place = number; extra = extra })) ≡ distance_of marks start number extra l
  unfolding answer distance_of near checked
  label_marked e = rw (← m, ne_eqb mark unmarked e) (go (sub_ℕ mark start))
    where
      go : (d : ℤ) → answer (ok_or (cond (in_range d) (Some (word d)) None) (record { reason = Distance; place = number; extra = extra })) ≡ checked (in_range d) 32 number extra (made (word d))
      go d = elim (in_range d) as (λ b. answer (ok_or (cond b (Some (word d)) None) (record { reason = Distance; place = number; extra = extra })) ≡ checked b 32 number extra (made (word d))) [ true ↦ refl | false ↦ refl ]
