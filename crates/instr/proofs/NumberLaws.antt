-- Numbers in bytes, one law for every width: what is written is read again, and what is read is written again.
use Prim.Native.Nat.{ℕ, zero, suc, ◌+◌, ◌*◌, ◌-◌, ◌/◌, ◌%◌, ◌^◌, ◌≤◌, ◌<◌}
use mathlib.Core.Path.{◌≡◌, refl, ap, sym, ◌∙◌}
use mathlib.Core.List.{List, [], ◌∷◌, ◌++◌, append_assoc}
use native.Mathlib.Omega.{arith}
use native.Mathlib.Nat.{add-zero, zero-add, div-lt_iff_lt-mul, pow-zero, div-one, div-div-eq-div-mul, pow-suc, pow-succ', pow-le-pow_right, div-add-mod', mod-eq_of_lt, div-eq_of_lt, mul-add-div_right, mul-add-mod_self_right}
use native.Mathlib.Numerals.{add-one}
use lib.Dec.{lit<}
use lib.ListN.{take-append-drop, length, get_or, take, drop, set, length-drop}
use lib.Seq.{drop-cons, take-suc, get_or-drop, get_or_at, get_or-append-add, set_at, length-take-le, append_snoc}
use borrow.Rule.Slice.PartMut.{put_mid, Post-is}
use Rattle.std.specs.Int.{bytes_high_first}
use Rattle.definitions.specs.Bytes.{number, bytes}
use Rattle.instr.specs.Values.{stored}

pub length_bytes : (w v : ℕ) → length (bytes w v) ≡ w
unfolding bytes
length_bytes zero v = refl
length_bytes (suc w) v = ap suc (length_bytes w v)

-- the last byte is the lowest
pub snoc : (w v : ℕ) → bytes (suc w) v ≡ bytes w (v / 256) ++ (v % 256 ∷ [])
unfolding bytes
snoc zero v = rw (div-one v)
snoc (suc w) v = rw (pow-succ' 256 w, ← div-div-eq-div-mul v 256 (256 ^ w)) (ap (λ (l : List ℕ). v / 256 / 256 ^ w % 256 ∷ l) (snoc w v))

snoc_in : (w v : ℕ) (r : List ℕ) → bytes (suc w) v ++ r ≡ bytes w (v / 256) ++ (v % 256 ∷ r)
snoc_in w v r = rw (snoc w v) (append_assoc (bytes w (v / 256)) (v % 256 ∷ []) r)

number_suc : (w : ℕ) (s : List ℕ) (at : ℕ) → number (suc w) s at ≡ number w s at * 256 + get_or s (at + w) 0
unfolding number
number_suc w s at = refl

-- written, then read
number_zero : (s : List ℕ) (at : ℕ) → number 0 s at ≡ 0
unfolding number
number_zero s at = refl

pub read_back : (w v : ℕ) (p r : List ℕ) → v < 256 ^ w → number w (p ++ (bytes w v ++ r)) (length p) ≡ v
read_back zero v p r h = let e : v ≡ 0 = omega (arith, pow-zero 256) in number_zero (p ++ (bytes 0 v ++ r)) (length p) ∙ sym e
read_back (suc w) v p r h =
    let small : v / 256 < 256 ^ w = (div-lt_iff_lt-mul {k = 256} (lit< tt)).1 (rw pow-suc at h) in
    rw (snoc_in w v r, number_suc, read_back w (v / 256) p (v % 256 ∷ r) small, get_or-append-add p (bytes w (v / 256) ++ (v % 256 ∷ r)) w 0, get_or_at (bytes w (v / 256)) (v % 256) r 0 w (length_bytes w (v / 256)))
    (div-add-mod' v 256)

bytes_zero : (v : ℕ) → bytes 0 v ≡ []
unfolding bytes
bytes_zero v = refl

-- read, then written
pub write_back : (w : ℕ) (s : List ℕ) (at : ℕ) → at + w ≤ length s → ((k : ℕ) → get_or s k 0 < 256) → bytes w (number w s at) ≡ take w (drop at s)
write_back zero s at h b = bytes_zero (number 0 s at)
write_back (suc w) s at h b =
    let d : get_or s (at + w) 0 < 256 = b (at + w) in
    let n : number (suc w) s at / 256 ≡ number w s at = rw (number_suc w s at, mul-add-div_right {m = 256} (lit< tt) (number w s at) (get_or s (at + w) 0), div-eq_of_lt d) (add-zero (number w s at)) in
    let e : number (suc w) s at % 256 ≡ get_or s (at + w) 0 = rw (number_suc w s at, mul-add-mod_self_right (number w s at) 256 (get_or s (at + w) 0)) (mod-eq_of_lt d) in
    let i : w < length (drop at s) = rw length-drop (omega arith) in
    rw (snoc w (number (suc w) s at), n, e, write_back w s at (omega arith) b, take-suc (drop at s) w 0 i, get_or-drop at s w 0)

-- one byte more, in front of the k that are stored
pub put_step : (s : List ℕ) (at w v k rest : ℕ) → k < w → at + w ≤ length s → rest ≡ v / 256 ^ k →
    set (take (at + (w - k)) s ++ (bytes k v ++ drop (at + w) s)) (at + w - 1 - k) (rest % 256)
    ≡ take (at + (w - (k + 1))) s ++ (bytes (k + 1) v ++ drop (at + w) s)
unfolding bytes
put_step s at w v k rest h fits e =
    let n = at + (w - suc k) in
    let p : at + w - 1 - k ≡ n = omega arith in
    let m : at + (w - k) ≡ suc n = omega arith in
    let i : n < length s = omega arith in
    rw (add-one k, p, m, take-suc s n 0 i, append_snoc (take n s) (get_or s n 0) (bytes k v ++ drop (at + w) s), e)
    (set_at (take n s) (get_or s n 0) (bytes k v ++ drop (at + w) s) (v / 256 ^ k % 256) n (length-take-le n s (omega arith)))

pub rest_step : (v k rest : ℕ) → rest ≡ v / 256 ^ k → rest / 256 ≡ v / 256 ^ (k + 1)
rest_step v k rest e = rw (e, add-one k, pow-suc 256 k) (div-div-eq-div-mul v (256 ^ k) 256)

-- no byte stored yet
pub put_start : (s : List ℕ) (at w v : ℕ) → s ≡ take (at + (w - 0)) s ++ (bytes 0 v ++ drop (at + w) s)
put_start s at w v = let z : w - 0 ≡ w = omega arith in rw (z, bytes_zero v) (sym (take-append-drop (at + w) s))

-- all are stored
pub put_end : (s p : List ℕ) (at w v k : ℕ) → k ≡ w → p ≡ take (at + (w - k)) s ++ (bytes k v ++ drop (at + w) s) → p ≡ stored at w v s
put_end s p at w v k h e = let z : at + (w - k) ≡ at = omega arith in rw (z, h) at e

-- a byte more, and the number still fits its width
pub grown : (i v b : ℕ) → v < 256 ^ i → b < 256 → v * 256 + b < 256 ^ (i + 1)
grown i v b h l = rw (add-one i, pow-suc 256 i) (omega arith)

pub word : (i : ℕ) → i < 8 → 256 ^ (i + 1) ≤ 2 ^ 64
word i h = pow-le-pow_right {n = 256} (lit< tt) {i = i + 1} {j = 8} (omega arith)

-- reading a number byte by byte
pub number_start : (s : List ℕ) (at : ℕ) → 0 ≡ number 0 s at
number_start s at = sym (number_zero s at)

pub number_step : (s : List ℕ) (from i j v : ℕ) {x : ℕ} → j ≡ from + i → v ≡ number i s from → x ≡ get_or s j 0 → v * 256 + x ≡ number (i + 1) s from
number_step s from i j v e f g = rw (add-one i, number_suc i s from, g, e, f)

-- no place after `at`
pub one_byte : (s : List ℕ) (at : ℕ) {v : ℕ} → v ≡ get_or s at 0 → v ≡ number 1 s at
unfolding number
one_byte s at e = simp (add-zero, zero-add) e

-- the bytes of a number as the library gives them
be_bytes : (w v : ℕ) → bytes_high_first w v ≡ bytes w v
unfolding bytes
be_bytes zero v = refl
be_bytes (suc zero) v = rw (pow-zero 256, div-one v)
be_bytes (suc (suc w)) v = ap (λ (l : List ℕ). v / 256 ^ suc w % 256 ∷ l) (be_bytes (suc w) v)

-- put in the place of a part
pub put_whole : (s : List ℕ) (at w v : ℕ) {ys : List ℕ} → ys ≡ bytes_high_first w v → put_mid at (at + w - at) s ys ≡ stored at w v s
put_whole s at w v e = rw (e, be_bytes w v, Post-is at (at + w) s (omega arith))

-- one byte alone
pub put_one : (s : List ℕ) (at v : ℕ) → at + 1 ≤ length s → v < 256 → set s at v ≡ stored at 1 v s
unfolding bytes
put_one s at v h b =
    let i : at < length s = omega arith in
    let e : s ≡ take at s ++ (get_or s at 0 ∷ drop (at + 1) s) = rw (add-one at, ← drop-cons s at 0 i) (sym (take-append-drop at s)) in
    rw (pow-zero 256, div-one v, mod-eq_of_lt b) (ap (λ (l : List ℕ). set l at v) e ∙ set_at (take at s) (get_or s at 0) (drop (at + 1) s) v at (length-take-le at s (omega arith)))
