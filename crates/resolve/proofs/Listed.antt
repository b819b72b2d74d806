-- A RESOLVED LISTING IS A LISTING: of good records that fit their bytes, resolving makes good records that fit them. Assumes nothing.
use Prim.Native.Nat.{ℕ, zero, suc, ◌+◌, ◌<◌, ◌≤◌, ◌^◌}
use mathlib.Core.Path.{◌≡◌, refl, ap, sym, ◌∙◌}
use mathlib.Core.Bool.{Bool, true, false, not, and-eq-true_iff}
use mathlib.Core.List.{List, [], ◌∷◌}
use native.Mathlib.Omega.{arith}
use lib.Dec.{eqb}
use lib.ListN.{length, get_or}
use lib.IntN.{ℤ, pos, negsuc, sub_ℕ}
use borrow.Author.Tests.{ltb-true}
use Rattle.definitions.specs.Answer.{Result, made, checked}
use Rattle.definitions.specs.Tag.{row_of}
use Rattle.definitions.specs.Instr.{Instr, size, record_length, record_at, unused0, good_record}
use Rattle.definitions.specs.Code.{unmarked}
use Rattle.definitions.specs.Listing.{front_length, count_of, record_limit, records_from, records_of, all_good, read_listing, listing_bytes}
use Rattle.definitions.specs.Resolve.{in_range, word, distance_of, resolve_field, resolve_record, resolve_records, fitting, resolve}
use Rattle.laws.proofs.Inversion.{refusal_not_made}
use Rattle.laws.proofs.Results.{made_is, onward_is}
use Rattle.laws.proofs.Widths.{Within, AllWithin, number_fits}
use Rattle.instr.specs.Refusals.{answer}
use Rattle.instr.specs.Values.{counted}
use Rattle.instr.proofs.WholeLaws.{accepted, read_is_written}
use Rattle.landing.specs.Walk.{Bytes}

-- a check that was passed
pub checked_is_law : {A : Type 0} (b : Bool) (n p x : ℕ) (r : Result A) {a : A} → checked b n p x r ≡ made a → r ≡ made a
unfolding checked
checked_is_law true n p x r e = e
checked_is_law false n p x r e = refusal_not_made e

-- sixteen bits
pub word_fits : (d : ℤ) → in_range d ≡ true → word d < 256 ^ 2
unfolding in_range word
word_fits (pos n) e = let h = ltb-true n 32768 e in omega arith
word_fits (negsuc n) e = let h = ltb-true n 32768 e in omega arith

distance_fits : (a b : Bool) (d : ℤ) (k x f : ℕ) → in_range d ≡ b → checked a 31 k x (checked b 32 k x (made (word d))) ≡ made f → f < 256 ^ 2
unfolding checked
distance_fits true true d k x f h e = rw (← (made_is e)) (word_fits d h)
distance_fits true false d k x f h e = refusal_not_made e
distance_fits false b d k x f h e = refusal_not_made e

-- a field that carries a label is used, and any other stays
pub record FieldFits (carries : Bool) (label f : ℕ) : Type 0 where
  pub width : f < 256 ^ 2
  pub alike : unused0 carries f ≡ unused0 carries label

field_fits : (b : Bool) (marks : List ℕ) (o k x l f : ℕ) → resolve_field b marks o k x l ≡ made f → l < 256 ^ 2 → FieldFits b l f
unfolding resolve_field distance_of unused0
field_fits true marks o k x l f e h =
    let d = sub_ℕ (get_or marks l unmarked) o in
    record { width = distance_fits (not (eqb (get_or marks l unmarked) unmarked)) (in_range d) d k x f refl e; alike = refl }
field_fits false marks o k x l f e h = rw (← (made_is e)) (record { width = h; alike = refl })

record_fits : (marks : List ℕ) (o k : ℕ) (i r : Instr) → resolve_record marks o k i ≡ made r → Within i → Within r × (good_record r ≡ good_record i)
unfolding resolve_record good_record
record_fits marks o k i r e w =
    let a = onward_is (resolve_field (row_of i.tag).first marks o k 0 i.first) _ e in
    let b = onward_is (resolve_field (row_of i.tag).second marks o k 1 i.second) _ a.2 in
    let f = field_fits (row_of i.tag).first marks o k 0 i.first a.0 a.1 w.first in
    let s = field_fits (row_of i.tag).second marks o k 1 i.second b.0 b.1 w.second in
    rw (← (made_is b.2)) (
      record { tag = w.tag; small = w.small; first = f.width; second = s.width; line = w.line; flags = w.flags; value = w.value; node = w.node },
      rw (f.alike, s.alike),
    )

pub records_listed : (marks : List ℕ) (o k : ℕ) (is rs : List Instr) → resolve_records marks o k is ≡ made rs → AllWithin is → all_good is ≡ true → AllWithin rs × (all_good rs ≡ true)
unfolding resolve_records all_good
records_listed marks o k [] rs e w g = rw (← (made_is e)) (tt, refl)
records_listed marks o k (i ∷ is) rs e w g =
    let a = onward_is (resolve_record marks o k i) _ e in
    let b = onward_is (resolve_records marks (o + size i) (suc k) is) _ a.2 in
    let h = (and-eq-true_iff (good_record i) (all_good is)).0 g in
    let r = record_fits marks o k i a.0 a.1 w.0 in
    let rest = records_listed marks (o + size i) (suc k) is b.0 b.1 w.1 h.1 in
    rw (← (made_is b.2)) ((r.0, rest.0), rw (r.1, h.0, rest.1))

-- as many as there were
pub resolved_length : (marks : List ℕ) (o k : ℕ) (is rs : List Instr) → resolve_records marks o k is ≡ made rs → length rs ≡ length is
unfolding resolve_records
resolved_length marks o k [] rs e = let z : rs ≡ [] = cc in rw z
resolved_length marks o k (i ∷ is) rs e =
    let a = onward_is (resolve_record marks o k i) _ e in
    let b = onward_is (resolve_records marks (o + size i) (suc k) is) _ a.2 in
    let z : rs ≡ a.0 ∷ b.0 = cc b.2 in
    rw z (ap suc (resolved_length marks (o + size i) (suc k) is b.0 b.1))

-- the records in a list of bytes fit theirs
record_within : (s : List ℕ) → Bytes s → (at : ℕ) → Within (record_at s at)
unfolding record_at
record_within s b at = record {
  tag = number_fits 1 s at b;
  small = number_fits 1 s (at + 1) b;
  first = number_fits 2 s (at + 2) b;
  second = number_fits 2 s (at + 4) b;
  line = number_fits 2 s (at + 6) b;
  flags = number_fits 2 s (at + 8) b;
  value = number_fits 8 s (at + 10) b;
  node = number_fits 4 s (at + 18) b;
}

records_within : (s : List ℕ) → Bytes s → (n at : ℕ) → AllWithin (records_from n s at)
unfolding records_from
records_within s b zero at = tt
records_within s b (suc n) at = (record_within s b at, records_within s b n (at + record_length))

-- a listing that is read: its records fit their bytes, a listing may hold them, and written again they are the listing
pub record Read (s : List ℕ) (is : List Instr) : Type 0 where
  pub within : AllWithin is
  pub good : all_good is ≡ true
  pub few : length is ≤ record_limit
  pub written : listing_bytes is ≡ s

pub listing_read : (s : List ℕ) (is : List Instr) → Bytes s → read_listing s ≡ made is → Read s is
unfolding answer counted
listing_read s is b e =
    let k = accepted s (length is) (sym (ap counted e)) in
    let same : is ≡ records_of s = made_is (sym e ∙ k.reads) in
    record {
      within = rw same (records_within s b (count_of s) front_length);
      good = rw same k.good;
      few = k.few;
      written = rw same (read_is_written s (count_of s) (rw k.count at k) b);
    }

-- whatever listing is resolved: what comes is one
pub record Resolved (rs : List Instr) : Type 0 where
  pub within : AllWithin rs
  pub good : all_good rs ≡ true
  pub few : length rs ≤ record_limit

pub resolved_listing : (s marks : List ℕ) (space : ℕ) (rs : List Instr) → Bytes s → resolve s marks space ≡ made rs → Resolved rs
unfolding resolve
resolved_listing s marks space rs b e =
    let a = onward_is (read_listing s) _ e in
    let c = onward_is (resolve_records marks 0 0 a.0) (fitting space) a.2 in
    let l = listing_read s a.0 b a.1 in
    let same : c.0 ≡ rs = made_is (checked_is_law _ 20 0 0 (made c.0) c.2) in
    let r = records_listed marks 0 0 a.0 c.0 c.1 l.within l.good in
    rw (← same) (record { within = r.0; good = r.1; few = omega (arith, resolved_length marks 0 0 a.0 c.0 c.1, l.few) })
