-- Writing byte by byte: one piece after another.
use Prim.Native.Nat.{ℕ, suc, ◌+◌, ◌≤◌, ◌<◌}
use mathlib.Core.Path.{◌≡◌, refl, ap, sym, ◌∙◌}
use mathlib.Core.List.{List, [], ◌∷◌, ◌++◌}
use native.Mathlib.Omega.{arith}
use native.Mathlib.Nat.{add-zero}
use lib.ListN.{length, get_or, take, set, length-append}
use lib.Seq.{sets, set_comm, set_out, append_snoc}
use Rattle.std.proofs.lemmas.List.{take_more}
use Rattle.print.specs.declared.page.Page.{Page}
use Rattle.print.specs.Writing.{Wrote, Field, Filled}

-- 1. Stores

-- one in front of a run of them
pub set_before : (ds s : List ℕ) (i j d : ℕ) → i < j → set (sets s j ds) i d ≡ sets (set s i d) j ds
set_before [] s i j d h = refl
set_before (x ∷ ds) s i j d h = set_before ds (set s j x) i (suc j) d (omega arith) ∙ ap (λ u. sets u (suc j) ds) (set_comm s j i x d (λ e. omega arith))

-- a run after another
sets_append : (a b s : List ℕ) (at : ℕ) → sets s at (a ++ b) ≡ sets (sets s at a) (at + length a) b
sets_append [] b s at = rw (add-zero at)
sets_append (x ∷ a) b s at = let e : suc at + length a ≡ at + suc (length a) = omega arith in rw (← e) (sets_append a b (set s at x) (suc at))

-- past the end
pub sets_out : (t s : List ℕ) (at : ℕ) → length s ≤ at → s ≡ sets s at t
sets_out [] s at h = refl
sets_out (x ∷ t) s at h = rw (set_out s at x h) (sets_out t s (suc at) (omega arith))

-- 2. Pieces

pub both : {a b : List ℕ} {p q r : Page} → Wrote a p q → Wrote b q r → Wrote (a ++ b) p r
both {a} {b} {p} f g = record {
  place = omega (arith, length-append a b, f.place, g.place);
  bytes = g.bytes ∙ rw (f.bytes, f.place) (sym (sets_append a b p.out.now p.at));
  buffer = g.buffer ∙ f.buffer;
}

-- a field, and what follows
pub field : {most : ℕ} {f t : List ℕ} {e : ℕ} {p q r : Page} → Field most f e p q → Wrote t q r → Wrote (f ++ (e ∷ t)) p r
field {f = f} {t} {e} g h = rw (← append_snoc f e t) (both g.wrote h)

-- a word, byte by byte
pub word_step : (t : List ℕ) (k : ℕ) {p q r : Page} → k < length t → Wrote (take k t) p q → Wrote (get_or t k 0 ∷ []) q r → Wrote (take (k + 1) t) p r
word_step t k h f g = rw (take_more t k 0 h) (both f g)

-- a text that was written from the start on
pub filled : {t o a : List ℕ} {p q : Page} → p.at ≡ 0 → p.out.now ≡ o → Wrote t p q → a ≡ q.out.now → Filled t q.at o a
filled {t} {q = q} h k w e = record { length = omega (arith, w.place); bytes = e ∙ rw (h, k) at w.bytes }
