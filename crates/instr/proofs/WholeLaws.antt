-- Whole listings: what a caller learns from a check that passed, that a listing as it is written is read again, and one that was read is written again.
use Prim.Native.Nat.{ℕ, zero, suc, ◌+◌, ◌-◌, ◌*◌, ◌/◌, ◌%◌, ◌≤◌, ◌<◌}
use mathlib.Core.Path.{◌≡◌, refl, ap, sym, ◌∙◌}
use mathlib.Core.Bool.{Bool, true, false, ◌&&◌, and-eq-true_iff}
use mathlib.Core.List.{List, [], ◌∷◌, ◌++◌, append_assoc, append-nil}
use native.Mathlib.Omega.{arith}
use native.Mathlib.Nat.{div-eq_of_eq-mul_right}
use lib.Dec.{lit<}
use lib.ListN.{length, get_or, take, drop, length-append, length-drop, take-append-drop}
use lib.Seq.{take_all}
use Rattle.definitions.specs.Answer.{made, checked}
use Rattle.definitions.specs.Bytes.{number, bytes}
use Rattle.definitions.specs.Instr.{Instr, record_length, record_bytes}
use Rattle.definitions.specs.Listing.{front_length, listing_length, listing_front, count_of, records_from, records_of, all_good, read_listing, records_bytes, listing_bytes, record_limit}
use Rattle.std.specs.Prelude.{Ok}
use Rattle.laws.proofs.Widths.{AllWithin}
use Rattle.instr.specs.Refusals.{answer}
use Rattle.instr.specs.Values.{counted, front}
use Rattle.instr.proofs.NumberLaws.{length_bytes, read_back, write_back}
use Rattle.instr.proofs.RecordLaws.{write_then_read, pieces, read_then_write}
use Rattle.instr.proofs.ListingLaws.{front_says, whole, few, length_records, front_good_law, front_is_good}

-- 1. A check that passed

pub passed : (b : Bool) (is : List Instr) (n : ℕ) → made n ≡ counted (checked b 30 0 0 (made is)) → (b ≡ true) × (n ≡ length is)
unfolding counted checked
passed true is n e = (refl, cc)
passed false is n e = let z : ◌≡◌ {A = ℕ} 0 1 = cc in absurd (omega arith)

pub record Accepted (s : List ℕ) (n : ℕ) : Type 0 where
  pub front : listing_front s ≡ true
  pub reads : read_listing s ≡ made (records_of s)
  pub count : n ≡ count_of s
  pub few : n ≤ record_limit
  pub fills : listing_length n ≡ length s
  pub good : all_good (records_of s) ≡ true

pub accepted : (s : List ℕ) (n : ℕ) → answer (Ok n) ≡ counted (read_listing s) → Accepted s n
unfolding answer read_listing checked
accepted s n e =
    let q = passed (listing_front s && all_good (records_of s)) (records_of s) n e in
    let b = (and-eq-true_iff (listing_front s) (all_good (records_of s))).0 q.0 in
    let m : n ≡ count_of s = q.1 ∙ length_records (count_of s) s front_length in
    record { front = b.0; reads = rw (b.0, b.1); count = m; few = rw m (few s b.0); fills = rw m (whole s b.0); good = b.1 }

-- 2. Written, then read

pub length_record : (i : Instr) → length (record_bytes i) ≡ record_length
unfolding record_bytes bytes
length_record i = refl

pub length_records_bytes : (is : List Instr) → length (records_bytes is) ≡ record_length * length is
unfolding records_bytes
length_records_bytes [] = refl
length_records_bytes (i ∷ is) = rw (length-append (record_bytes i) (records_bytes is), length_record i, length_records_bytes is) (omega arith)

-- one record more
pub records_snoc : (is : List Instr) (i : Instr) → records_bytes (is ++ (i ∷ [])) ≡ records_bytes is ++ record_bytes i
unfolding records_bytes
records_snoc [] i = append-nil (record_bytes i)
records_snoc (j ∷ is) i = rw (records_snoc is i) (sym (append_assoc (record_bytes j) (records_bytes is) (record_bytes i)))

pub length_listing : (is : List Instr) → length (listing_bytes is) ≡ listing_length (length is)
unfolding listing_bytes
length_listing is = let w = record_length * length is in omega (arith, length-append (bytes 4 w) (records_bytes is), length_bytes 4 w, length_records_bytes is)

records_back : (is : List Instr) → AllWithin is → (p : List ℕ) → records_from (length is) (p ++ records_bytes is) (length p) ≡ is
unfolding records_from records_bytes
records_back [] h p = refl
records_back (i ∷ is) h p =
    let l : length (p ++ record_bytes i) ≡ length p + record_length = rw (length-append p (record_bytes i), length_record i) in
    let t : records_from (length is) (p ++ (record_bytes i ++ records_bytes is)) (length p + record_length) ≡ is =
    rw (← append_assoc p (record_bytes i) (records_bytes is), ← l) (records_back is h.1 (p ++ record_bytes i)) in
    rw (write_then_read i h.0 p (records_bytes is), t)

count_is : (s : List ℕ) (n : ℕ) → (length s - front_length) / record_length ≡ n → count_of s ≡ n
unfolding count_of
count_is s n e = e

-- a listing as it is written passes the check, and its records are those that were written
pub written_is_read : (is : List Instr) → AllWithin is → all_good is ≡ true → length is ≤ record_limit → read_listing (listing_bytes is) ≡ made is
unfolding read_listing checked listing_bytes
written_is_read is h g m =
    let w = record_length * length is in
    let r = records_bytes is in
    let s : List ℕ = 1 ∷ (bytes 4 w ++ r) in
    let f : length {A = ℕ} (1 ∷ bytes 4 w) ≡ front_length = ap suc (length_bytes 4 w) in
    let l : length s ≡ front_length + w = omega (arith, length-append (bytes 4 w) r, length_bytes 4 w, length_records_bytes is) in
    let n : number 4 s 1 ≡ w = read_back 4 w (1 ∷ []) r (omega arith) in
    let k : (length s - front_length) / record_length ≡ length is = div-eq_of_eq-mul_right {n = record_length} (lit< tt) (omega arith) in
    let d : (length s - front_length) % record_length ≡ 0 = omega arith in
    let a : records_from (length is) s front_length ≡ is = rw f at (records_back is h (1 ∷ bytes 4 w)) in
    let t : listing_front s ≡ true = (front_is_good s ((length s - front_length) / record_length) (front_good_law s w (omega arith) refl (sym n) (omega arith) d (omega arith))).0 in
    rw (t, count_is s (length is) k, a, g)

-- 3. Read, then written

-- a front that passed, as it is written
front_again : (s : List ℕ) → listing_front s ≡ true → ((k : ℕ) → get_or s k 0 < 256) → front (count_of s) ≡ take front_length s
front_again s f b =
    let k = front_says s f in
    let l : front_length + number 4 s 1 ≡ length s = k.1 in
    let w : number 4 s 1 ≡ record_length * count_of s = omega (arith, whole s f, l) in
    let e : bytes 4 (number 4 s 1) ≡ take 4 (drop 1 s) = write_back 4 s 1 (omega arith) b in
    rw (← w, e) (first_is s k.0 (omega arith))
  where
    first_is : (s : List ℕ) → get_or s 0 0 ≡ 1 → 0 < length s → 1 ∷ take 4 (drop 1 s) ≡ take front_length s
    first_is [] v h = absurd (omega arith)
    first_is (x ∷ xs) v h = rw v

records_again : (n : ℕ) (s : List ℕ) (at : ℕ) → at + record_length * n ≤ length s → ((k : ℕ) → get_or s k 0 < 256) → records_bytes (records_from n s at) ≡ take (record_length * n) (drop at s)
unfolding records_from records_bytes
records_again zero s at h b = refl
records_again (suc n) s at h b =
    rw (read_then_write s at (omega arith) b, records_again n s (at + record_length) (omega arith) b)
    (pieces s at record_length (record_length * n) (at + record_length) (record_length * suc n) refl (omega arith))

-- a listing that passed the check is its records, written
pub read_is_written : (s : List ℕ) (n : ℕ) → Accepted s n → ((k : ℕ) → get_or s k 0 < 256) → listing_bytes (records_from n s front_length) ≡ s
unfolding listing_bytes
read_is_written s n a b =
    let r = record_length * n in
    let rest : take r (drop front_length s) ≡ drop front_length s = take_all r (drop front_length s) (omega (arith, length-drop front_length s, a.fills)) in
    let first : front n ≡ take front_length s = rw a.count (front_again s a.front b) in
    rw (length_records n s front_length, records_again n s front_length (omega (arith, a.fills)) b, rest)
    (ap (λ (l : List ℕ). l ++ drop front_length s) first ∙ take-append-drop front_length s)
