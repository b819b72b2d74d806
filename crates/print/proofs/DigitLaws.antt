-- Digits, one law for every base; and how many decimal digits a number has.
use Prim.Native.Nat.{ℕ, zero, suc, ◌+◌, ◌-◌, ◌*◌, ◌/◌, ◌%◌, ◌^◌, ◌≤◌, ◌<◌}
use mathlib.Core.Path.{◌≡◌, refl, ap, sym, ◌∙◌}
use mathlib.Core.Bool.{Bool, true, ◌&&◌, and-eq-true_iff}
use mathlib.Core.List.{List, [], ◌∷◌}
use native.Mathlib.Omega.{arith}
use native.Mathlib.Decide.{dec_lt}
use native.Mathlib.Nat.{add-zero, div-one, div-div-eq-div-mul, pow-zero, pow-suc, pow-succ', pow-le-pow_right, div-add-mod', le-div_iff_mul-le, div-lt_iff_lt-mul}
use native.Mathlib.Numerals.{add-one}
use lib.Dec.{eqb, lit<}
use lib.ListN.{length, get_or, set, get_or-append}
use lib.Seq.{sets}
use borrow.Author.Tests.{eqb-true, lt-ltb, le-ltb}
use Rattle.definitions.specs.Text.{letters, digit, digits, places_in, places, decimal}
use Rattle.print.specs.declared.page.Page.{Page}
use Rattle.print.specs.Writing.{Wrote, Field}
use Rattle.print.proofs.WriteLaws.{set_before, both}

-- 1. Digits

-- letters that follow one another, by one computed test
climbs : (from : ℕ) → List ℕ → Bool
climbs n [] = true
climbs n (x ∷ xs) = eqb x n && climbs (suc n) xs

nth : (xs : List ℕ) (n d : ℕ) → climbs n xs ≡ true → d < length xs → get_or xs d 0 ≡ n + d
unfolding climbs
nth [] n d e h = absurd (omega arith)
nth (x ∷ xs) n zero e h = eqb-true x n ((and-eq-true_iff (eqb x n) (climbs (suc n) xs)).0 e).0 ∙ sym (add-zero n)
nth (x ∷ xs) n (suc d) e h = nth xs (suc n) d ((and-eq-true_iff (eqb x n) (climbs (suc n) xs)).0 e).1 (omega arith) ∙ omega arith

pub digit_low : (d : ℕ) → d < 10 → 48 + d ≡ digit d
unfolding digit letters climbs
digit_low d h = sym (get_or-append (letters "0123456789") (letters "ABCDEF") 0 d h ∙ nth (letters "0123456789") 48 d refl h)

pub length_digits : (b k n : ℕ) → length (digits b k n) ≡ k
unfolding digits
length_digits b zero n = refl
length_digits b (suc k) n = ap suc (length_digits b k n)

-- the last digits, in their places
pub record Placed (b n count at k rest : ℕ) (s u : List ℕ) : Type 0 where
  pub left : rest ≡ n / b ^ (count - k)
  pub placed : u ≡ sets s (at + k) (digits b (count - k) n)

pub none_placed : (b n count at : ℕ) (s : List ℕ) → Placed b n count at count n s s
unfolding digits
none_placed b n count at s =
    let z : count - count ≡ 0 = omega arith in
    record { left = rw (z, pow-zero b) (sym (div-one n)); placed = rw z refl }

-- one stored in front of them
pub one_placed : (b n count at k rest : ℕ) (s : List ℕ) {u v : List ℕ} {d : ℕ} → 0 < k → k ≤ count → Placed b n count at k rest s u → d ≡ digit (rest % b) → v ≡ set u (at + (k - 1)) d →
    Placed b n count at (k - 1) (rest / b) s v
unfolding digits
one_placed b n count at k rest s h m p e f =
    let i : count - (k - 1) ≡ suc (count - k) = omega arith in
    let j : at + k ≡ suc (at + (k - 1)) = omega arith in
    record {
      left = rw (p.left, i, pow-suc b (count - k)) (div-div-eq-div-mul n (b ^ (count - k)) b);
      placed = rw (f, p.placed, e, p.left, i, j) (set_before (digits b (count - k) n) s (at + (k - 1)) (suc (at + (k - 1))) (digit (n / b ^ (count - k) % b)) (omega arith));
    }

pub all_placed : (b n count at : ℕ) {k rest : ℕ} {s u : List ℕ} → k ≤ 0 → Placed b n count at k rest s u → u ≡ sets s at (digits b count n)
all_placed b n count at {k} h p = let y : count - k ≡ count = omega arith in let z : at + k ≡ at = omega arith in rw (y, z) at p.placed

-- and the byte that ends the field
pub digits_field : (b n count : ℕ) {e : ℕ} {p q r : Page} → Wrote (digits b count n) p q → Wrote (e ∷ []) q r → Field (count + 1) (digits b count n) e p r
digits_field b n count f g = record { wrote = both f g; short = omega (arith, f.place, g.place, length_digits b count n) }

-- 2. How many decimal digits

tenth : (n : ℕ) → 10 ≤ n → n / 10 < n
tenth n h = omega (arith, div-add-mod' n 10)

-- by what counts down
few : (m n : ℕ) → n < 10 → places_in m n ≡ 1
unfolding places_in
few zero n h = refl
few (suc m) n h = rw (places_in, lt-ltb n 10 h)

more : (m n : ℕ) → 10 ≤ n → places_in (suc m) n ≡ suc (places_in m (n / 10))
unfolding places_in
more m n h = rw (places_in, le-ltb n 10 h)

-- which has no say
same : (m k n : ℕ) → n ≤ m → n ≤ k → places_in m n ≡ places_in k n
same zero k n h g = few zero n (omega arith) ∙ sym (few k n (omega arith))
same (suc m) zero n h g = few (suc m) n (omega arith) ∙ sym (few zero n (omega arith))
same (suc m) (suc k) n h g = elim (dec_lt n 10) [
  | yes l ↦ few (suc m) n l ∙ sym (few (suc k) n l)
  | no l ↦
      let t = tenth n (omega arith) in
      more m n (omega arith) ∙ ap suc (same m k (n / 10) (omega arith) (omega arith)) ∙ sym (more k n (omega arith))
]

-- one below ten, else one more than a tenth of it has
pub one_place : (n : ℕ) → n < 10 → places n ≡ 1
one_place n h = few n n h

pub more_places : (n : ℕ) → 10 ≤ n → places n ≡ places (n / 10) + 1
more_places zero h = absurd (omega arith)
more_places (suc n) h = let t = tenth (suc n) h in more n (suc n) h ∙ ap suc (same n (suc n / 10) (suc n / 10) (omega arith) (omega arith)) ∙ omega arith

-- below 10 ^ suc k at most suc k
pub places_fit : (k n : ℕ) → n < 10 ^ suc k → places n ≤ suc k
places_fit zero n h = omega (arith, one_place n (omega arith))
places_fit (suc k) n h = elim (dec_lt n 10) [
  | yes l ↦ omega (arith, one_place n l)
  | no l ↦ omega (arith, more_places n (omega arith), places_fit k (n / 10) ((div-lt_iff_lt-mul {k = 10} (lit< tt)).1 (rw (pow-suc 10 (suc k)) at h)))
]

-- of 64 bits at most twenty
pub places_most : (n : ℕ) → n < 2 ^ 64 → places n ≤ 20
places_most n h = places_fit 19 n (omega arith)

-- a power of ten is above 0
pos : (j : ℕ) → 0 < 10 ^ j
pos j = let h = pow-le-pow_right {n = 10} (lit< tt) {i = 0} {j = j} (omega arith) in omega arith

-- `count` less one of them, and those of what is left
abbrev pub Counted : (n count : ℕ) → Type 0
Counted n count = suc (places n) ≡ count + places (n / 10 ^ (count - 1))

pub places_start : (n : ℕ) → Counted n 1
places_start n = omega (arith, ap places (div-one n))

module _ (n count : ℕ) (some : 0 < count) (e : Counted n count) where
  pow : 10 ^ count ≡ 10 * 10 ^ (count - 1)
  pow = let l : count ≡ suc (count - 1) = omega arith in ap (λ k. 10 ^ k) l ∙ pow-succ' 10 (count - 1)

  pub places_step : 10 ^ count ≤ n → Counted n (count + 1)
  places_step h =
      let p = pow in
      let l : count + 1 - 1 ≡ suc (count - 1) = omega arith in
      let q : 10 ≤ n / 10 ^ (count - 1) = (le-div_iff_mul-le (pos (count - 1))).1 (omega arith) in
      let r : n / 10 ^ (count - 1) / 10 ≡ n / 10 ^ (count + 1 - 1) = rw (l, pow-suc 10 (count - 1)) (div-div-eq-div-mul n (10 ^ (count - 1)) 10) in
      omega (arith, more_places (n / 10 ^ (count - 1)) q, ap places r)

  pub places_end : n < 10 ^ count → count ≡ places n
  places_end h =
      let p = pow in
      let q : n / 10 ^ (count - 1) < 10 = (div-lt_iff_lt-mul (pos (count - 1))).1 (omega arith) in
      omega (arith, one_place (n / 10 ^ (count - 1)) q)

-- the limit, up to the largest number
pub places_largest : (n count limit : ℕ) → count ≡ 19 → Counted n count → limit ≡ 10 ^ count → limit ≤ n → n < 2 ^ 64 → 20 ≡ places n
places_largest n count limit e c l h f =
    let d : Counted n 19 = rw e at c in
    let m : limit ≡ 10 ^ 19 = rw e at l in
    places_end n 20 (lit< tt) (places_step n 19 (lit< tt) d (omega arith)) (omega arith)

pub limit_fits : (count : ℕ) → count < 19 → 10 ^ count ≤ 10 ^ 18
limit_fits count h = pow-le-pow_right {n = 10} (lit< tt) {i = count} {j = 18} (omega arith)

pub limit_step : (count limit : ℕ) → limit ≡ 10 ^ count → limit * 10 ≡ 10 ^ (count + 1)
limit_step count limit e = rw (add-one count, pow-suc 10 count, e)

-- as many digits as a number has
pub decimal_field : (n k : ℕ) {e : ℕ} {p q : Page} → k ≡ places n → k ≤ 20 → Field (k + 1) (digits 10 k n) e p q → Field 21 (decimal n) e p q
unfolding decimal
decimal_field n k h m f = record { wrote = rw h at f.wrote; short = omega (arith, f.short) }
