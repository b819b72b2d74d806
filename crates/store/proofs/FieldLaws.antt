-- A field and what is taken off it or put on it: from the number with 32,768 on it to the definition's signed one. Assumes nothing.
use Prim.Native.Nat.{ℕ, zero, suc, ◌+◌, ◌-◌, ◌%◌, ◌≤◌, ◌<◌}
use mathlib.Core.Path.{◌≡◌, refl, ap, ◌∙◌}
use mathlib.Core.Bool.{Bool, true, false, cond}
use native.Mathlib.Omega.{arith}
use lib.Dec.{ltb}
use lib.IntN.{ℤ, pos, negsuc, sub_ℕ}
use borrow.Author.Tests.{ltb-true, ltb-false, lt-ltb, le-ltb}
use Rattle.std.specs.Prelude.{Option, Some, None, SomeIff, option_map, ok_or}
use Rattle.definitions.specs.Answer.{made, checked}
use Rattle.definitions.specs.Resolve.{in_range, word, signed}
use Rattle.definitions.specs.Stored.{Way, there, back, move_field}
use Rattle.instr.specs.declared.refusals.Reason.TheVariants as reason
use Rattle.instr.specs.Refusals.{answer}
use Rattle.store.specs.Values.{biased, shifted}

-- 1. Signed numbers, less and more

there_pos : (n off : ℕ) → there (pos n) off ≡ sub_ℕ n off
unfolding there
there_pos n zero = rw (le-ltb n 0 (omega arith)) (ap pos (omega arith))
there_pos n (suc m) = refl

there_neg : (v off : ℕ) → there (negsuc v) off ≡ negsuc (v + off)
unfolding there
there_neg v zero = rw (lt-ltb 0 (suc v) (omega arith)) (ap negsuc (omega arith))
there_neg v (suc m) = ap negsuc (omega arith)

-- 2. A difference in sixteen bits: n stands for itself less 32,768

-- the signed number n - 32,768
abbrev less_half : ℕ → ℤ
less_half n = sub_ℕ n 32768

half_in : (n : ℕ) → n ≤ 65535 → (in_range (less_half n) ≡ true) × (word (less_half n) ≡ biased n)
unfolding in_range word biased
half_in n h = go (ltb n 32768) refl
  where
    go : (b : Bool) → ltb n 32768 ≡ b → (in_range (cond b (negsuc (32768 - suc n)) (pos (n - 32768))) ≡ true) × (word (cond b (negsuc (32768 - suc n)) (pos (n - 32768))) ≡ elim b as (λ _. ℕ) [ true ↦ n + 32768 | false ↦ n - 32768 ])
    go true e = let l = ltb-true n 32768 e in (lt-ltb (32768 - suc n) 32768 (omega arith), omega arith)
    go false e = let l = ltb-false n 32768 e in (lt-ltb (n - 32768) 32768 (omega arith), refl)

half_out : (n : ℕ) → 65535 < n → in_range (less_half n) ≡ false
unfolding in_range
half_out n h = rw (le-ltb n 32768 (omega arith)) (le-ltb (n - 32768) 32768 (omega arith))

signed_half : (w : ℕ) → w ≤ 65535 → signed w ≡ less_half (biased w)
unfolding signed biased
signed_half w h = go (ltb w 32768) refl
  where
    go : (b : Bool) → ltb w 32768 ≡ b → (elim b as (λ _. ℤ) [ true ↦ pos w | false ↦ negsuc (65535 - w) ]) ≡ less_half (elim b as (λ _. ℕ) [ true ↦ w + 32768 | false ↦ w - 32768 ])
    go true e = rw (le-ltb (w + 32768) 32768 (omega arith)) (ap pos (omega arith))
    go false e = let l = ltb-false w 32768 e in rw (lt-ltb (w - 32768) 32768 (omega arith)) (ap negsuc (omega arith))

-- less, and more
half_there : (n off : ℕ) → there (less_half n) off ≡ sub_ℕ n (32768 + off)
half_there n off = go (ltb n 32768) refl
  where
    inner : (b : Bool) → ltb (n - 32768) off ≡ b → 32768 ≤ n → sub_ℕ (n - 32768) off ≡ sub_ℕ n (32768 + off)
    inner true e l = let m = ltb-true (n - 32768) off e in rw (e, lt-ltb n (32768 + off) (omega arith)) (ap negsuc (omega arith))
    inner false e l = let m = ltb-false (n - 32768) off e in rw (e, le-ltb n (32768 + off) (omega arith)) (ap pos (omega arith))

    go : (b : Bool) → ltb n 32768 ≡ b → there (cond b (negsuc (32768 - suc n)) (pos (n - 32768))) off ≡ sub_ℕ n (32768 + off)
    go true e = let l = ltb-true n 32768 e in there_neg (32768 - suc n) off ∙ rw (lt-ltb n (32768 + off) (omega arith)) (ap negsuc (omega arith))
    go false e = there_pos (n - 32768) off ∙ inner (ltb (n - 32768) off) refl (ltb-false n 32768 e)

half_back : (n off : ℕ) → back (less_half n) off ≡ less_half (n + off)
unfolding back
half_back n off = go (ltb n 32768) refl
  where
    inner : (b : Bool) → ltb off (suc (32768 - suc n)) ≡ b → n < 32768 → sub_ℕ off (suc (32768 - suc n)) ≡ sub_ℕ (n + off) 32768
    inner true e l = let m = ltb-true off (suc (32768 - suc n)) e in rw (e, lt-ltb (n + off) 32768 (omega arith)) (ap negsuc (omega arith))
    inner false e l = let m = ltb-false off (suc (32768 - suc n)) e in rw (e, le-ltb (n + off) 32768 (omega arith)) (ap pos (omega arith))

    go : (b : Bool) → ltb n 32768 ≡ b → back (cond b (negsuc (32768 - suc n)) (pos (n - 32768))) off ≡ less_half (n + off)
    go true e = inner (ltb off (suc (32768 - suc n))) refl (ltb-true n 32768 e)
    go false e = let l = ltb-false n 32768 e in rw (le-ltb (n + off) 32768 (omega arith)) (ap pos (omega arith))

sub_half : (n off : ℕ) → off ≤ n → sub_ℕ n (32768 + off) ≡ less_half (n - off)
sub_half n off h = go (ltb (n - off) 32768) refl
  where
    go : (b : Bool) → ltb (n - off) 32768 ≡ b → sub_ℕ n (32768 + off) ≡ cond b (negsuc (32768 - suc (n - off))) (pos (n - off - 32768))
    go true e = let l = ltb-true (n - off) 32768 e in rw (lt-ltb n (32768 + off) (omega arith)) (ap negsuc (omega arith))
    go false e = let l = ltb-false (n - off) 32768 e in rw (le-ltb n (32768 + off) (omega arith)) (ap pos (omega arith))

-- 3. The code's biased number

pub bias_is : (n : ℕ) → n < 65536 → (n + 32768) % 65536 ≡ biased n
unfolding biased
bias_is n h = go (ltb n 32768) refl
  where
    go : (b : Bool) → ltb n 32768 ≡ b → (n + 32768) % 65536 ≡ elim b as (λ _. ℕ) [ true ↦ n + 32768 | false ↦ n - 32768 ]
    go true e = let l = ltb-true n 32768 e in omega arith
    go false e = let l = ltb-false n 32768 e in omega arith

-- 4. Fields

module _ (w off : ℕ) (h : w < 65536) where
  low : biased w ≤ 65535
  unfolding biased
  low = go (ltb w 32768) refl
    where
      go : (b : Bool) → ltb w 32768 ≡ b → (elim b as (λ _. ℕ) [ true ↦ w + 32768 | false ↦ w - 32768 ]) ≤ 65535
      go true e = let l = ltb-true w 32768 e in omega arith
      go false e = omega arith

  there_is : there (signed w) off ≡ sub_ℕ (biased w) (32768 + off)
  there_is = ap (λ (d : ℤ). there d off) (signed_half w (omega arith)) ∙ half_there (biased w) off

  back_is : back (signed w) off ≡ less_half (biased w + off)
  back_is = ap (λ (d : ℤ). back d off) (signed_half w (omega arith)) ∙ half_back (biased w) off

  shifted_to : (way : Way) (n : ℕ) → way (signed w) off ≡ less_half n → n ≤ 65535 → Some (biased n) ≡ shifted way off w
  unfolding shifted
  shifted_to way n e l = let i = half_in n l in rw (e, i.0, i.1)

  -- less, where it does not go below 0
  pub taken : (n : ℕ) → n ≡ biased w → (r : Option ℕ) → SomeIff r (off ≤ n) (n - off) → off ≤ 11 → option_map biased r ≡ shifted there off w
  unfolding shifted in_range
  taken n e (Some k) h m =
      rw (h.1, e) (shifted_to there (biased w - off) (there_is ∙ sub_half (biased w) off (rw e at h.0)) (omega (arith, low)))
  taken n e None h m =
      rw (there_is, lt-ltb (biased w) (32768 + off) (omega arith), le-ltb (32768 + off - suc (biased w)) 32768 (omega arith))

  -- more, where it does not go above 65,535
  pub put : (n : ℕ) → n ≡ biased w → (r : Option ℕ) → SomeIff r (n + off < 65536) (n + off) → option_map biased r ≡ shifted back off w
  unfolding shifted
  put n e (Some k) h = rw (h.1, e) (shifted_to back (biased w + off) back_is (omega arith))
  put n e None h = rw (back_is, half_out (biased w + off) (omega arith))

-- or 33
pub moved_is : (way : Way) (off k x w : ℕ) → answer (ok_or (shifted way off w) (record { reason = reason.Field; place = k; extra = x })) ≡ move_field way true off k x w
unfolding shifted answer move_field checked
moved_is way off k x w = go (way (signed w) off)
  where
    go : (d : ℤ) → answer (ok_or (cond (in_range d) (Some (word d)) None) (record { reason = reason.Field; place = k; extra = x })) ≡ checked (in_range d) 33 k x (made (word d))
    go d = elim (in_range d) as (λ b. answer (ok_or (cond b (Some (word d)) None) (record { reason = reason.Field; place = k; extra = x })) ≡ checked b 33 k x (made (word d))) [ true ↦ refl | false ↦ refl ]
