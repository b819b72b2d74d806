-- Writing byte by byte: one piece after another, each as far as it fits.
use Prim.Native.Nat.{ℕ, zero, suc, ◌+◌, ◌-◌, ◌<◌}
use mathlib.Core.Path.{◌≡◌, refl, sym, ap, ap₂, ◌∙◌}
use mathlib.Core.List.{List, [], ◌∷◌, ◌++◌}
use native.Mathlib.Omega.{arith}
use native.Mathlib.Nat.{add-zero}
use lib.ListN.{length, get_or, take, set}
use lib.Seq.{sets, length-sets}
use Rattle.std.proofs.lemmas.List.{length-append, length-take, take_more}
use Rattle.samples.specs.declared.page.Page.{Page}
use Rattle.samples.specs.Written.{fitting, Written}

-- a run of stores after another
sets_append : (a b s : List ℕ) (at : ℕ) → sets s at (a ++ b) ≡ sets (sets s at a) (at + length a) b
sets_append [] b s at = rw (add-zero at)
sets_append (x ∷ a) b s at = let e : suc at + length a ≡ at + suc (length a) = omega arith in rw (← e) (sets_append a b (set s at x) (suc at))

take_append : (n : ℕ) (a b : List ℕ) → take n (a ++ b) ≡ take n a ++ take (n - length a) b
take_append zero a b = let e : 0 - length a ≡ 0 = omega arith in rw e refl
take_append (suc n) [] b = let e : suc n - 0 ≡ suc n = omega arith in rw e refl
take_append (suc n) (x ∷ a) b = let e : suc n - suc (length a) ≡ n - length a = omega arith in rw e (ap (λ t. x ∷ t) (take_append n a b))

-- what fits of two pieces
fits : (a b : List ℕ) {p q : Page} → Written a p q → fitting (a ++ b) p ≡ fitting a p ++ fitting b q
fits a b {p} {q} f =
    let n = length p.out.now - p.at in
    let s : length q.out.now ≡ length p.out.now = ap length f.bytes ∙ length-sets p.out.now p.at (fitting a p) in
    let k = length-take n a in
    let e : length q.out.now - q.at ≡ n - length a = omega (arith, s, k, f.place) in
    rw e (take_append n a b)

both : {a b : List ℕ} {p q r : Page} → Written a p q → Written b q r → Written (a ++ b) p r
both {a} {b} {p} {q} f g =
    let e = fits a b f in
    let k = length-append (fitting a p) (fitting b q) in
    record {
      place = rw e (omega (arith, k, f.place, g.place));
      bytes = rw e (g.bytes ∙ ap₂ (λ s i. sets s i (fitting b q)) f.bytes f.place ∙ sym (sets_append (fitting a p) (fitting b q) p.out.now p.at));
      buffer = g.buffer ∙ f.buffer;
    }

-- a word, byte by byte
pub word_step : (t : List ℕ) (k : ℕ) {p q r : Page} → k < length t → Written (take k t) p q → Written (get_or t k 0 ∷ []) q r → Written (take (k + 1) t) p r
word_step t k h f g = rw (take_more t k 0 h) (both f g)
