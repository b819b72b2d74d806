-- Fields that stripping leaves and fields that it sets: what is read of them, and classes of payloads. Assumes nothing.
use Prim.Native.Nat.{ℕ, zero, suc, ◌+◌, ◌^◌, ◌<◌}
use mathlib.Core.Path.{◌≡◌, refl, ap, sym, ◌∙◌}
use mathlib.Core.Bool.{Bool, true, false, cond, not, ◌||◌}
use mathlib.Core.List.{List, ◌++◌}
use native.Mathlib.Omega.{arith}
use native.Mathlib.Nat.{zero-add, pow-zero, pow-suc}
use lib.Dec.{leb, ltb, eqb}
use lib.ListN.{length, get_or, take, drop}
use lib.Seq.{take_at, drop_at, drop-drop, get_or-drop, get_or-take}
use borrow.Author.Tests.{eqb-true}
use Rattle.definitions.specs.Answer.{Answer, ok, refused, bind}
use Rattle.definitions.specs.Bytes.{number, bytes}
use Rattle.definitions.specs.Tag.{const_widths}
use Rattle.definitions.specs.Read.{Parser, ◌>>=◌, unsigned, byte_below, payload}
use Rattle.definitions.specs.Strip.{Strip, keep, blank, least}
use Rattle.ir.proofs.Inversion.{bool_width}

-- 1. Numbers in bytes

-- what stands behind the bytes b
pub behind : (b r t : List ℕ) (at k : ℕ) → length b ≡ k → drop at t ≡ b ++ r → drop (at + k) t ≡ r
behind b r t at k l e = sym (drop-drop k at t) ∙ ap (λ (x : List ℕ). drop k x) e ∙ drop_at b r k l

-- a number is that of the bytes from its place on, and of no more than those that it has
pub number_from : (w : ℕ) (s : List ℕ) (at : ℕ) → number w s at ≡ number w (drop at s) 0
unfolding number
number_from zero s at = refl
number_from (suc w) s at = rw (number_from w s at, zero-add w, get_or-drop at s w 0)

pub number_taken : (w : ℕ) (s t : List ℕ) → ((i : ℕ) → i < w → get_or s i 0 ≡ get_or t i 0) → number w s 0 ≡ number w t 0
unfolding number
number_taken zero s t e = refl
number_taken (suc w) s t e = rw (zero-add w, e w (omega arith), number_taken w s t (λ i l. e i (omega arith)))

-- the number in the w bytes b that stand at a place
pub number_of : (w : ℕ) (b t r : List ℕ) (at : ℕ) → length b ≡ w → drop at t ≡ b ++ r → number w t at ≡ number w b 0
number_of w b t r at l e =
    number_from w t at ∙ ap (λ (x : List ℕ). number w x 0) e ∙
    number_taken w (b ++ r) b (λ i h. sym (get_or-take w (b ++ r) i 0 h) ∙ ap (λ (x : List ℕ). get_or x i 0) (take_at b r w l))

-- 2. A field that fits its node and one that does not: read, left by stripping, set by stripping

module _ (s : List ℕ) (nd end w at : ℕ) where
  pub read_fits : leb (at + w) end ≡ true → unsigned s nd end w at ≡ ok (number w s at) (at + w)
  unfolding unsigned
  read_fits e = ap (λ (b : Bool). elim b as (λ _. Answer ℕ) [ true ↦ ok (number w s at) (at + w) | false ↦ refused 3 nd 0 ]) e

  pub read_not : leb (at + w) end ≡ false → unsigned s nd end w at ≡ refused 3 nd 0
  unfolding unsigned
  read_not e = ap (λ (b : Bool). elim b as (λ _. Answer ℕ) [ true ↦ ok (number w s at) (at + w) | false ↦ refused 3 nd 0 ]) e

  pub keep_fits : (h : ℕ → Strip) (rest : ℕ → List ℕ) → leb (at + w) end ≡ true → keep s end w h rest at ≡ take w (drop at s) ++ h (number w s at) rest (at + w)
  unfolding keep
  keep_fits h rest e =
      ap (λ (b : Bool). elim b as (λ _. List ℕ) [ true ↦ take w (drop at s) ++ h (number w s at) rest (at + w) | false ↦ drop at s ]) e

  pub keep_not : (h : ℕ → Strip) (rest : ℕ → List ℕ) → leb (at + w) end ≡ false → keep s end w h rest at ≡ drop at s
  unfolding keep
  keep_not h rest e =
      ap (λ (b : Bool). elim b as (λ _. List ℕ) [ true ↦ take w (drop at s) ++ h (number w s at) rest (at + w) | false ↦ drop at s ]) e

  pub blank_fits : (to : ℕ → ℕ) (h : ℕ → Strip) (rest : ℕ → List ℕ) → leb (at + w) end ≡ true
      → blank s end w to h rest at ≡ bytes w (to (number w s at)) ++ h (number w s at) rest (at + w)
  unfolding blank
  blank_fits to h rest e =
      ap (λ (b : Bool). elim b as (λ _. List ℕ) [ true ↦ bytes w (to (number w s at)) ++ h (number w s at) rest (at + w) | false ↦ drop at s ]) e

  pub blank_not : (to : ℕ → ℕ) (h : ℕ → Strip) (rest : ℕ → List ℕ) → leb (at + w) end ≡ false → blank s end w to h rest at ≡ drop at s
  unfolding blank
  blank_not to h rest e =
      ap (λ (b : Bool). elim b as (λ _. List ℕ) [ true ↦ bytes w (to (number w s at)) ++ h (number w s at) rest (at + w) | false ↦ drop at s ]) e

-- 3. Classes of payloads: the least of a class fits its width, and is its own least

-- any width holds 0, and one of a byte or more holds 2
pub one_less : (w : ℕ) → 0 < 256 ^ w
one_less zero = omega (arith, pow-zero 256)
one_less (suc w) = let i = one_less w in omega (arith, pow-suc 256 w)

two_less : (c : Bool) (w : ℕ) → cond c 0 2 < 256 ^ suc w
two_less true w = one_less (suc w)
two_less false w = let i = one_less w in omega (arith, pow-suc 256 w)

int_width : (b : ℕ) → b ≡ 9 → get_or const_widths b 0 ≡ 4
unfolding const_widths
int_width b e = rw e

pub small_least : (b v : ℕ) → least b v < 256 ^ get_or const_widths b 0
unfolding least
small_least b v = go (eqb b 9) (eqb b 15) refl refl
  where
    go : (p q : Bool) → eqb b 9 ≡ p → eqb b 15 ≡ q → cond (p || q) (cond (ltb v 2) 0 2) 0 < 256 ^ get_or const_widths b 0
    go true q e f = rw (int_width b (eqb-true b 9 e)) (two_less (ltb v 2) 3)
    go false true e f = rw (bool_width b (eqb-true b 15 f)) (two_less (ltb v 2) 0)
    go false false e f = one_less (get_or const_widths b 0)

pub least_twice : (b v : ℕ) → least b (least b v) ≡ least b v
unfolding least
least_twice b v = go (eqb b 9 || eqb b 15) (ltb v 2)
  where
    go : (p c : Bool) → ◌≡◌ {A = ℕ} (cond p (cond (ltb (cond p (cond c 0 2) 0) 2) 0 2) 0) (cond p (cond c 0 2) 0)
    go true true = refl
    go true false = refl
    go false c = refl

-- a Bool above 1 is refused, and so is the least of its class
abbrev pub taken : (byte value : ℕ) → Bool
taken b v = not (eqb b 15) || ltb v 2

pub taken_least : (b v : ℕ) → taken b (least b v) ≡ taken b v
unfolding least
taken_least b v = go (eqb b 9) (eqb b 15) (ltb v 2)
  where
    go : (p q c : Bool) → (not q || ltb (cond (p || q) (cond c 0 2) 0) 2) ≡ (not q || c)
    go p false c = refl
    go true true true = refl
    go true true false = refl
    go false true true = refl
    go false true false = refl

-- 4. A byte below a bound, and a payload: a number and then a check

bind_elim : {A B : Type 0} (b : Bool) (m : Answer A) (n pl x : ℕ) (k : A → ℕ → Answer B)
    → bind (elim b as (λ _. Answer A) [ true ↦ m | false ↦ refused n pl x ]) k ≡ elim b as (λ _. Answer B) [ true ↦ bind m k | false ↦ refused n pl x ]
unfolding bind
bind_elim true m n pl x k = refl
bind_elim false m n pl x k = refl

-- a byte below a bound is a byte, and then a check
pub below_is : {A : Type 0} (s : List ℕ) (nd end bound : ℕ) (k : ℕ → Parser A) (at : ℕ)
    → (byte_below s nd end bound >>= k) at ≡ (unsigned s nd end 1 >>= λ v n. elim (ltb v bound) as (λ _. Answer A) [ true ↦ k v n | false ↦ refused 2 nd 0 ]) at
unfolding byte_below ◌>>=◌ bind
below_is {A} s nd end bound k at = go (unsigned s nd end 1 at)
  where
    go : (m : Answer ℕ) → bind (bind m (λ v next. elim (ltb v bound) as (λ _. Answer ℕ) [ true ↦ ok v next | false ↦ refused 2 nd 0 ])) k
        ≡ bind m (λ v n. elim (ltb v bound) as (λ _. Answer A) [ true ↦ k v n | false ↦ refused 2 nd 0 ])
    go (ok v n) = bind_elim (ltb v bound) (ok v n) 2 nd 0 k
    go (refused n p x) = refl

pub payload_is : {A : Type 0} (s : List ℕ) (nd end b : ℕ) (k : ℕ → Parser A) (at : ℕ)
    → (payload s nd end b >>= k) at
    ≡ (unsigned s nd end (get_or const_widths b 0) >>= λ v n. elim (taken b v) as (λ _. Answer A) [ true ↦ k v n | false ↦ refused 2 nd 0 ]) at
unfolding payload
payload_is {A} s nd end b k at = go (eqb b 15) refl
  where
    go : (t : Bool) → eqb b 15 ≡ t
        → ((elim t as (λ _. Parser ℕ) [ true ↦ byte_below s nd end 2 | false ↦ unsigned s nd end (get_or const_widths b 0) ]) >>= k) at
        ≡ (unsigned s nd end (get_or const_widths b 0) >>= λ v n. elim (not t || ltb v 2) as (λ _. Answer A) [ true ↦ k v n | false ↦ refused 2 nd 0 ]) at
    go true e = rw (bool_width b (eqb-true b 15 e)) (below_is s nd end 2 k at)
    go false e = refl
