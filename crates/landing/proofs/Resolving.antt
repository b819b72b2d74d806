-- Resolving by marks is filling in distances, where every label that is carried is marked.
use Prim.Native.Nat.{ℕ, suc, ◌+◌}
use mathlib.Core.Path.{◌≡◌, refl, ◌∙◌}
use mathlib.Core.Logic.{◌≢◌, inl, inr}
use mathlib.Core.List.{List, [], ◌∷◌}
use mathlib.Core.Bool.{Bool, true, false, cond, ◌&&◌}
use mathlib.Core.Option.{none, some}
use borrow.Author.Tests.{ne_eqb}
use lib.ListN.{get_or}
use lib.IntN.{ℤ, sub_ℕ}
use Rattle.definitions.specs.Answer.{Result, made, onward, checked}
use Rattle.definitions.specs.Tag.{row_of}
use Rattle.definitions.specs.Instr.{Instr, size}
use Rattle.definitions.specs.Code.{unmarked}
use Rattle.definitions.specs.Resolve.{in_range, word, distance_of, resolve_field, resolve_record, resolve_records}
use Rattle.landing.specs.Landed.{filled_field, filled, Far, or_else, far_field, first_far, far_distance, first_out, unless_far, all_near, is_made, CarriedIn, Carried}
use Rattle.landing.proofs.Pieces.{also, carried}
use Rattle.landing.proofs.Starts.{distances, left_also}

-- 1. A field

-- the mark of each label
abbrev mark_in : (marks : List ℕ) → ℕ → ℕ
mark_in marks l = get_or marks l unmarked

range_far : (k x : ℕ) (d : ℤ) (b : Bool) → checked b 32 k x (made (word d)) ≡ unless_far (cond b none (some (record { place = k; extra = x; distance = d }))) (word d)
unfolding checked unless_far
range_far k x d true = refl
range_far k x d false = refl

field_resolves : (b : Bool) (marks : List ℕ) (o k x l : ℕ) (ds : List ℤ) → ((j : ℕ) → CarriedIn b j l → mark_in marks j ≢ unmarked) →
    resolve_field b marks o k x l ≡ unless_far (far_field b k x (also b (sub_ℕ (mark_in marks l) o) ds)) (filled_field b l (also b (sub_ℕ (mark_in marks l) o) ds))
unfolding resolve_field distance_of far_field filled_field also CarriedIn checked unless_far
field_resolves true marks o k x l ds h =
    rw (ne_eqb (mark_in marks l) unmarked (h l refl), checked) (range_far k x (sub_ℕ (mark_in marks l) o) (in_range (sub_ℕ (mark_in marks l) o)))
field_resolves false marks o k x l ds h = refl

-- 2. One after another

far_first : {A B : Type 0} (p q : Far) (a : A) (b : B) (f : A → Result B) → f a ≡ unless_far q b → onward (unless_far p a) f ≡ unless_far (or_else p q) b
unfolding onward unless_far or_else
far_first none q a b f e = e
far_first (some p) q a b f e = refl

far_last : {A B : Type 0} (p : Far) (a : A) (b : B) (f : A → Result B) → f a ≡ made b → onward (unless_far p a) f ≡ unless_far p b
unfolding onward unless_far
far_last none a b f e = e
far_last (some p) a b f e = refl

or_assoc : (p q r : Far) → or_else (or_else p q) r ≡ or_else p (or_else q r)
unfolding or_else
or_assoc none q r = refl
or_assoc (some p) q r = refl

-- a record
record_resolves : (marks : List ℕ) (o k : ℕ) (i : Instr) (ds : List ℤ) →
    ((j : ℕ) → CarriedIn (row_of i.tag).first j i.first → mark_in marks j ≢ unmarked) → ((j : ℕ) → CarriedIn (row_of i.tag).second j i.second → mark_in marks j ≢ unmarked) →
    let f = (row_of i.tag).first in
    let s = (row_of i.tag).second in
    let es = also s (sub_ℕ (mark_in marks i.second) o) ds in
    let all = also f (sub_ℕ (mark_in marks i.first) o) es in
    resolve_record marks o k i ≡ unless_far (or_else (far_field f k 0 all) (far_field s k 1 es))
    (record { tag = i.tag; small = i.small; first = filled_field f i.first all; second = filled_field s i.second es; line = i.line; flags = i.flags; value = i.value; node = i.node })
unfolding resolve_record
record_resolves marks o k i ds h g =
    let f = (row_of i.tag).first in
    let s = (row_of i.tag).second in
    let es = also s (sub_ℕ (mark_in marks i.second) o) ds in
    rw (field_resolves f marks o k 0 i.first es h, field_resolves s marks o k 1 i.second ds g)
    (far_first _ (far_field s k 1 es) _ _ _ (far_last (far_field s k 1 es) _ _ _ refl))

-- 3. All records

pub resolves_filled : (marks : List ℕ) (o k : ℕ) (is : List Instr) → ((j : ℕ) → Carried j is → mark_in marks j ≢ unmarked) →
    resolve_records marks o k is ≡ unless_far (first_far k is (distances (mark_in marks) o is)) (filled is (distances (mark_in marks) o is))
unfolding resolve_records first_far filled distances carried Carried unless_far
resolves_filled marks o k [] h = refl
resolves_filled marks o k (i ∷ is) h =
    let M = mark_in marks in
    let ds = distances M (o + size i) is in
    let f = (row_of i.tag).first in
    let s = (row_of i.tag).second in
    let es = also s (sub_ℕ (M i.second) o) ds in
    rw (
      left_also f (sub_ℕ (M i.first) o) es,
      left_also s (sub_ℕ (M i.second) o) ds,
      record_resolves marks o k i ds (λ j c. h j (inl c)) (λ j c. h j (inr (inl c))),
      resolves_filled marks (o + size i) (suc k) is (λ j c. h j (inr (inr c))),
      ← or_assoc (far_field f k 0 (also f (sub_ℕ (M i.first) o) es)) (far_field s k 1 es) (first_far (suc k) is ds),
    )
    (far_first _ (first_far (suc k) is ds) _ _ _ (far_last (first_far (suc k) is ds) (filled is ds) _ _ refl))

-- 4. Near or far

is_near : Far → Bool
is_near none = true
is_near (some p) = false

near_or : (p q : Far) → is_near (or_else p q) ≡ is_near p && is_near q
unfolding is_near or_else
near_or none q = refl
near_or (some p) q = refl

made_near : {A : Type 0} (p : Far) (a : A) → is_made (unless_far p a) ≡ is_near p
unfolding is_made unless_far is_near
made_near none a = refl
made_near (some p) a = refl

-- a field and what is left
near_field : (b : Bool) (k x : ℕ) (d : ℤ) (ds : List ℤ) → is_near (far_field b k x (also b d ds)) && all_near ds ≡ all_near (also b d ds)
unfolding far_field also all_near is_near
near_field true k x d ds = go (in_range d)
  where
    go : (b : Bool) → is_near (cond b none (some (record { place = k; extra = x; distance = d }))) && all_near ds ≡ b && all_near ds
    go true = refl
    go false = refl
near_field false k x d ds = refl

near_all : (M : ℕ → ℕ) (o k : ℕ) (is : List Instr) → is_near (first_far k is (distances M o is)) ≡ all_near (distances M o is)
unfolding first_far distances carried is_near all_near
near_all M o k [] = refl
near_all M o k (i ∷ is) =
    let ds = distances M (o + size i) is in
    let f = (row_of i.tag).first in
    let s = (row_of i.tag).second in
    let d = sub_ℕ (M i.first) o in
    let e = sub_ℕ (M i.second) o in
    let es = also s e ds in
    rw (
      left_also f d es,
      left_also s e ds,
      near_or (far_field f k 0 (also f d es)) (or_else (far_field s k 1 es) (first_far (suc k) is ds)),
      near_or (far_field s k 1 es) (first_far (suc k) is ds),
      near_all M (o + size i) (suc k) is,
      near_field s k 1 e ds,
      near_field f k 0 d es,
    )

-- a listing resolves exactly if each of its distances fits
pub resolves_near : (M : ℕ → ℕ) (is : List Instr) → is_made (unless_far (first_far 0 is (distances M 0 is)) (filled is (distances M 0 is))) ≡ all_near (distances M 0 is)
resolves_near M is = made_near _ _ ∙ near_all M 0 0 is

-- 5. The first that is too far

-- of a field, before what is left
out_field : (b : Bool) (k x : ℕ) (d : ℤ) (ds : List ℤ) (rest : Far) → far_distance rest ≡ first_out ds → far_distance (or_else (far_field b k x (also b d ds)) rest) ≡ first_out (also b d ds)
unfolding far_field also or_else first_out far_distance
out_field true k x d ds rest e = go (in_range d)
  where
    go : (b : Bool) → far_distance (or_else (cond b none (some (record { place = k; extra = x; distance = d }))) rest) ≡ cond b (first_out ds) (some d)
    go true = e
    go false = refl
out_field false k x d ds rest e = e

pub first_out_law : (M : ℕ → ℕ) (o k : ℕ) (is : List Instr) → far_distance (first_far k is (distances M o is)) ≡ first_out (distances M o is)
unfolding first_far distances carried far_distance first_out
first_out_law M o k [] = refl
first_out_law M o k (i ∷ is) =
    let ds = distances M (o + size i) is in
    let f = (row_of i.tag).first in
    let s = (row_of i.tag).second in
    let d = sub_ℕ (M i.first) o in
    let e = sub_ℕ (M i.second) o in
    rw (left_also f d (also s e ds), left_also s e ds)
    (out_field f k 0 d (also s e ds) _ (out_field s k 1 e ds (first_far (suc k) is ds) (first_out_law M (o + size i) (suc k) is)))
