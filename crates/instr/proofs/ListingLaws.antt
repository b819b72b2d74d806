-- Listings: the front, all records, and the view of one.
use Prim.Native.Nat.{ℕ, zero, suc, ◌+◌, ◌-◌, ◌*◌, ◌/◌, ◌%◌, ◌≤◌, ◌<◌}
use mathlib.Core.Path.{◌≡◌, refl, ap, sym, ◌∙◌}
use mathlib.Core.Bool.{Bool, true, false, cond, ◌&&◌, and-false, and-eq-true_iff, true≢false}
use mathlib.Core.List.{List, [], ◌∷◌, ◌++◌}
use native.Mathlib.Omega.{arith}
use native.Mathlib.Nat.{div-add-mod'}
use lib.Dec.{leb, ltb, eqb}
use lib.ListN.{length, get_or, take, drop, set}
use borrow.Author.Tests.{le-leb, lt-leb, lt-ltb, le-ltb, eq-eqb, ne_eqb, leb-true, leb-false, ltb-true, eqb-true}
use Rattle.definitions.specs.Answer.{Result, made, refusal, onward, checked}
use Rattle.definitions.specs.Bytes.{number, bytes}
use Rattle.definitions.specs.Instr.{Instr, record_length, record_at, good_record}
use Rattle.definitions.specs.Listing.{front_length, listing_length, listing_front, count_of, records_from, records_of, all_good, read_listing, view, part_of, record_limit}
use Rattle.std.specs.Prelude.{Option, Some, None, Ok, Err, is_err}
use Rattle.std.specs.Bool.{then_some}
use Rattle.std.specs.Prelude as std
use Rattle.instr.specs.declared.refusals.Refusal as refusals
use Rattle.instr.specs.Refusals.{answer, number_of}
use Rattle.instr.specs.Values.{stored, front_fits, front_written, counted, front_is, viewed_is}

-- 1. The front

-- it is written where the count and the part allow it
pub front_room : (n : ℕ) (s : List ℕ) → n ≤ record_limit → front_length ≤ length s → true ≡ front_fits n s
unfolding front_fits
front_room n s m h = rw (le-leb n record_limit m, le-leb front_length (length s) h)

pub front_over : (n : ℕ) (s : List ℕ) → record_limit < n → false ≡ front_fits n s
unfolding front_fits
front_over n s m = rw (lt-leb n record_limit m)

pub front_tight : (n : ℕ) (s : List ℕ) → length s < front_length → false ≡ front_fits n s
unfolding front_fits
front_tight n s h = rw (lt-leb front_length (length s) h) (sym (and-false (leb n record_limit)))

pub front_none : (n : ℕ) (s : List ℕ) → false ≡ front_fits n s → s ≡ front_written n s
unfolding front_written
front_none n s e = rw (← e)

put_front : (s : List ℕ) (v : ℕ) → front_length ≤ length s → stored 1 4 v (set s 0 1) ≡ 1 ∷ bytes 4 v ++ drop front_length s
unfolding bytes
put_front [] v h = absurd (omega arith)
put_front (x ∷ xs) v h = refl

pub front_put : (n : ℕ) (s : List ℕ) {t : List ℕ} → true ≡ front_fits n s → front_length ≤ length s → t ≡ stored 1 4 (record_length * n) (set s 0 1) → t ≡ front_written n s
unfolding front_written
front_put n s e h d = rw (← e) (d ∙ put_front s (record_length * n) h)

module _ (s : List ℕ) where
  pub front_short : length s < front_length → None ≡ front_is s
  unfolding front_is listing_front
  front_short h = rw (lt-leb front_length (length s) h)

  pub front_version : front_length ≤ length s → (get_or s 0 0 ≡ 1 → ⊥) → None ≡ front_is s
  unfolding front_is listing_front
  front_version h v = rw (le-leb front_length (length s) h, ne_eqb (get_or s 0 0) 1 v)

  module _ (n : ℕ) (h : front_length ≤ length s) (v : get_or s 0 0 ≡ 1) (e : n ≡ number 4 s 1) where
    pub front_length_law : (n ≡ length s - front_length → ⊥) → None ≡ front_is s
    unfolding front_is listing_front
    front_length_law l = rw (le-leb front_length (length s) h, eq-eqb (get_or s 0 0) 1 v, ne_eqb (front_length + number 4 s 1) (length s) (λ q. l (omega arith)))

    module _ (l : n ≡ length s - front_length) where
      same : front_length + number 4 s 1 ≡ length s
      same = omega arith

      pub front_part : ((length s - front_length) % record_length ≡ 0 → ⊥) → None ≡ front_is s
      unfolding front_is listing_front
      front_part m = rw (le-leb front_length (length s) h, eq-eqb (get_or s 0 0) 1 v, eq-eqb (front_length + number 4 s 1) (length s) same, ne_eqb ((length s - front_length) % record_length) 0 m)

      pub front_many : (length s - front_length) % record_length ≡ 0 → record_limit < (length s - front_length) / record_length → None ≡ front_is s
      unfolding front_is listing_front count_of
      front_many m k = rw (le-leb front_length (length s) h, eq-eqb (get_or s 0 0) 1 v, eq-eqb (front_length + number 4 s 1) (length s) same, eq-eqb ((length s - front_length) % record_length) 0 m, lt-leb ((length s - front_length) / record_length) record_limit k)

      pub front_good_law : (length s - front_length) % record_length ≡ 0 → (length s - front_length) / record_length ≤ record_limit → Some ((length s - front_length) / record_length) ≡ front_is s
      unfolding front_is listing_front count_of
      front_good_law m k = rw (le-leb front_length (length s) h, eq-eqb (get_or s 0 0) 1 v, eq-eqb (front_length + number 4 s 1) (length s) same, eq-eqb ((length s - front_length) % record_length) 0 m, le-leb ((length s - front_length) / record_length) record_limit k)

      -- so many records, if they are not too many
      pub front_counted : (length s - front_length) % record_length ≡ 0 → then_some (leb ((length s - front_length) / record_length) record_limit) ((length s - front_length) / record_length) ≡ front_is s
      front_counted m = counted_by (leb ((length s - front_length) / record_length) record_limit) refl
        where
          counted_by : (b : Bool) → leb ((length s - front_length) / record_length) record_limit ≡ b → then_some b ((length s - front_length) / record_length) ≡ front_is s
          counted_by true e = front_good_law m (leb-true ((length s - front_length) / record_length) record_limit e)
          counted_by false e = front_many m (leb-false ((length s - front_length) / record_length) record_limit e)

-- what a good front says
pub whole : (s : List ℕ) → listing_front s ≡ true → listing_length (count_of s) ≡ length s
unfolding listing_front count_of
whole s e =
    let a = leb front_length (length s) in
    let b = eqb (get_or s 0 0) 1 in
    let c = eqb (front_length + number 4 s 1) (length s) in
    let d = eqb ((length s - front_length) % record_length) 0 in
    let r = ((and-eq-true_iff (a && b && c && d) (leb (count_of s) record_limit)).0 e).0 in
    let q = (and-eq-true_iff (a && b && c) d).0 r in
    let h : front_length ≤ length s = leb-true front_length (length s) ((and-eq-true_iff a b).0 ((and-eq-true_iff (a && b) c).0 q.0).0).0 in
    let m : (length s - front_length) % record_length ≡ 0 = eqb-true ((length s - front_length) % record_length) 0 q.1 in
    omega (arith, h, m, div-add-mod' (length s - front_length) record_length)

-- its version, and the length that it tells
pub front_says : (s : List ℕ) → listing_front s ≡ true → (get_or s 0 0 ≡ 1) × (front_length + number 4 s 1 ≡ length s)
unfolding listing_front
front_says s e =
    let a = leb front_length (length s) in
    let b = eqb (get_or s 0 0) 1 in
    let c = eqb (front_length + number 4 s 1) (length s) in
    let d = eqb ((length s - front_length) % record_length) 0 in
    let r = ((and-eq-true_iff (a && b && c && d) (leb (count_of s) record_limit)).0 e).0 in
    let q = (and-eq-true_iff (a && b) c).0 ((and-eq-true_iff (a && b && c) d).0 r).0 in
    (eqb-true (get_or s 0 0) 1 ((and-eq-true_iff a b).0 q.0).1, eqb-true (front_length + number 4 s 1) (length s) q.1)

pub few : (s : List ℕ) → listing_front s ≡ true → count_of s ≤ record_limit
unfolding listing_front
few s e =
    let front = leb front_length (length s) && eqb (get_or s 0 0) 1 && eqb (front_length + number 4 s 1) (length s) && eqb ((length s - front_length) % record_length) 0 in
    leb-true (count_of s) record_limit ((and-eq-true_iff front (leb (count_of s) record_limit)).0 e).1

pub fits_whole : (s : List ℕ) (n : ℕ) → listing_front s ≡ true → n ≡ count_of s → listing_length n ≤ length s
fits_whole s n f e = let h : listing_length n ≡ length s = rw e (whole s f) in omega arith

picked : (b : Bool) (n m : ℕ) → Some n ≡ cond b (Some m) None → (b ≡ true) × (n ≡ m)
picked true n m e = (refl, cc)
picked false n m e = let z : ◌≡◌ {A = ℕ} 0 1 = cc in absurd (omega arith)

pub front_is_good : (s : List ℕ) (n : ℕ) → Some n ≡ front_is s → (listing_front s ≡ true) × (n ≡ count_of s)
unfolding front_is
front_is_good s n e = picked (listing_front s) n (count_of s) e

unpicked : (b : Bool) (m : ℕ) → None ≡ cond b (Some m) None → b ≡ false
unpicked true m e = let z : ◌≡◌ {A = ℕ} 0 1 = cc in absurd (omega arith)
unpicked false m e = refl

pub front_is_bad : (s : List ℕ) → None ≡ front_is s → listing_front s ≡ false
unfolding front_is
front_is_bad s e = unpicked (listing_front s) (count_of s) e

-- 2. All records

records_step : (s : List ℕ) (left at : ℕ) → 0 < left →
    all_good (records_from left s at) ≡ (good_record (record_at s at) && all_good (records_from (left - 1) s (at + record_length)))
unfolding all_good records_from
records_step s zero at h = absurd (omega arith)
records_step s (suc n) at h = let e : suc n - 1 ≡ n = omega arith in rw e

-- one turn of the check, with the record that was looked at
pub bad_at : (s : List ℕ) (left at : ℕ) {all g : Bool} → 0 < left → all ≡ all_good (records_from left s at) → g ≡ good_record (record_at s at) → g ≡ false → false ≡ all
bad_at s left at h a f b = let q : good_record (record_at s at) ≡ false = sym f ∙ b in rw (a, records_step s left at h, q)

pub good_at : (s : List ℕ) (left at rest next : ℕ) {all g : Bool} → rest + 1 ≡ left → at + record_length ≡ next → all ≡ all_good (records_from left s at) → g ≡ good_record (record_at s at) → g ≡ true → all ≡ all_good (records_from rest s next)
good_at s left at rest next l n a f b =
    let q : good_record (record_at s at) ≡ true = sym f ∙ b in
    let d : left - 1 ≡ rest = omega arith in
    rw (a, records_step s left at (omega arith), q, d, n)

pub records_end : (s : List ℕ) (left at : ℕ) → left ≡ 0 → true ≡ all_good (records_from left s at)
unfolding all_good records_from
records_end s left at e = rw e

pub length_records : (n : ℕ) (s : List ℕ) (at : ℕ) → length (records_from n s at) ≡ n
unfolding records_from
length_records zero s at = refl
length_records (suc n) s at = ap suc (length_records n s (at + record_length))

-- 3. The check

pub listing_good : (s : List ℕ) (n : ℕ) → listing_front s ≡ true → n ≡ count_of s → all_good (records_from n s front_length) ≡ true → answer (Ok n) ≡ counted (read_listing s)
unfolding answer counted read_listing checked
listing_good s n f e g =
    let good : all_good (records_of s) ≡ true = rw e at g in
    rw (f, good, length_records (count_of s) s front_length) (ap made e)

pub listing_front_law : (s : List ℕ) → listing_front s ≡ false → refusal 30 0 0 ≡ counted (read_listing s)
unfolding counted read_listing checked
listing_front_law s f = rw f

pub listing_records : (s : List ℕ) (n : ℕ) → listing_front s ≡ true → n ≡ count_of s → all_good (records_from n s front_length) ≡ false → refusal 30 0 0 ≡ counted (read_listing s)
unfolding counted read_listing checked
listing_records s n f e g = let bad : all_good (records_of s) ≡ false = rw e at g in rw (f, bad)

-- 4. The view

-- a refusal stays
pub stays : {A : Type 0} (l : Result (List Instr)) (f : List Instr → Result A) (n p x : ℕ) → refusal n p x ≡ counted l → refusal n p x ≡ onward l f
unfolding counted onward
stays (made is) f n p x e = let z : ◌≡◌ {A = ℕ} 0 1 = cc in absurd (omega arith)
stays (refusal m q y) f n p x e = cc

pub view_bad : (s : List ℕ) (n : ℕ) (q : refusals.Refusal) → answer {A = ℕ} (Err q) ≡ counted (read_listing s) → viewed_is (Err q) s n ≡ view s n
unfolding answer viewed_is view
view_bad s n q e = stays (read_listing s) _ (number_of q.reason) q.place q.extra e

-- what the viewer does with a listing's records
abbrev shown : (part : List ℕ) (n : ℕ) → List Instr → Result (List ℕ)
shown part n is = checked (ltb n (length is)) 22 n 0 (made part)

seen : (l : Result (List Instr)) (part : List ℕ) (n m : ℕ) → made m ≡ counted l → n < m → made part ≡ onward l (shown part n)
unfolding counted onward checked
seen (made is) part n m e h = let q : m ≡ length is = cc in rw (lt-ltb n (length is) (omega arith))
seen (refusal a p x) part n m e h = let z : ◌≡◌ {A = ℕ} 0 1 = cc in absurd (omega arith)

past : (l : Result (List Instr)) (part : List ℕ) (n m : ℕ) → made m ≡ counted l → m ≤ n → refusal 22 n 0 ≡ onward l (shown part n)
unfolding counted onward checked
past (made is) part n m e h = let q : m ≡ length is = cc in rw (le-ltb n (length is) (omega arith))
past (refusal a p x) part n m e h = let z : ◌≡◌ {A = ℕ} 0 1 = cc in absurd (omega arith)

pub view_seen : (s : List ℕ) (n m : ℕ) → answer (Ok m) ≡ counted (read_listing s) → n < m → viewed_is (Ok tt) s n ≡ view s n
unfolding answer viewed_is view
view_seen s n m e h = seen (read_listing s) (take record_length (drop (listing_length n) s)) n m e h

pub view_past : (s : List ℕ) (n m : ℕ) → answer (Ok m) ≡ counted (read_listing s) → m ≤ n → refusal 22 n 0 ≡ view s n
unfolding answer view
view_past s n m e h = past (read_listing s) (take record_length (drop (listing_length n) s)) n m e h

-- a record that is seen stands inside the listing
chosen : (b : Bool) (a p x : ℕ) (t u : List ℕ) → made t ≡ checked b a p x (made u) → b ≡ true
unfolding checked
chosen true a p x t u e = refl
chosen false a p x t u e = let z : ◌≡◌ {A = ℕ} 0 1 = cc in absurd (omega arith)

inside : (b : Bool) (is : List Instr) (n : ℕ) (t u : List ℕ) → made t ≡ onward (checked b 30 0 0 (made is)) (shown u n) → (b ≡ true) × (n < length is)
unfolding onward checked
inside true is n t u e = (refl, ltb-true n (length is) (chosen (ltb n (length is)) 22 n 0 t u e))
inside false is n t u e = let z : ◌≡◌ {A = ℕ} 0 1 = cc in absurd (omega arith)

pub view_inside : (s part : List ℕ) (n : ℕ) → made part ≡ view s n → listing_length n + record_length ≤ length s
unfolding view read_listing
view_inside s part n e =
    let q = inside (listing_front s && all_good (records_of s)) (records_of s) n part (take record_length (drop (listing_length n) s)) e in
    let h : n < count_of s = rw (length_records (count_of s) s front_length) at q.1 in
    omega (arith, h, whole s ((and-eq-true_iff (listing_front s) (all_good (records_of s))).0 q.0).0)

-- 5. What the viewer gives

module _ (s : List ℕ) (n : ℕ) where
  pub seen_inside : (r : std.Result (Unit {0}) refusals.Refusal) → is_err r ≡ false → viewed_is r s n ≡ view s n → listing_length n + record_length ≤ length s
  unfolding viewed_is
  seen_inside (Ok u) h e = view_inside s (take record_length (drop (listing_length n) s)) n e
  seen_inside (Err q) h e = absurd (true≢false h)

  pub seen_part : (r : std.Result (Unit {0}) refusals.Refusal) → is_err r ≡ false → viewed_is r s n ≡ view s n → take (listing_length n + record_length - listing_length n) (drop (listing_length n) s) ≡ part_of (view s n)
  unfolding viewed_is part_of
  seen_part (Ok u) h e = let w : listing_length n + record_length - listing_length n ≡ record_length = omega arith in rw (w, ← e)
  seen_part (Err q) h e = absurd (true≢false h)

  pub unseen : (r : std.Result (Unit {0}) refusals.Refusal) → is_err r ≡ true → viewed_is r s n ≡ view s n → [] ≡ part_of (view s n)
  unfolding viewed_is part_of
  unseen (Ok u) h e = absurd (true≢false (sym h))
  unseen (Err q) h e = rw (← e)
