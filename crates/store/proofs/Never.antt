-- THE RESOLVED LISTING OF A UNIT IS NEVER REFUSED WITH 33: a distance ahead has room for what is taken off, and only a Jump goes back, never below -32,764.
use Prim.Native.Nat.{ℕ, zero, suc, ◌+◌, ◌-◌, ◌≤◌, ◌<◌}
use mathlib.Core.Path.{◌≡◌, refl, sym, ap, ◌∙◌}
use mathlib.Core.Bool.{Bool, true, false, cond, and-eq-true_iff}
use mathlib.Core.List.{List, [], ◌∷◌}
use mathlib.Core.Option.{none, some}
use native.Mathlib.Omega.{arith}
use native.Mathlib.Nat.{add-zero}
use native.Mathlib.Decide.{dec_lt}
use lib.Dec.{ltb, eqb}
use lib.ListN.{length, get_or, take}
use lib.IntN.{ℤ, pos, negsuc, sub_ℕ}
use borrow.Author.Tests.{ltb-true, lt-ltb, eqb-true}
use Rattle.definitions.specs.Answer.{ok, made, onward, checked}
use Rattle.definitions.specs.Tag.{row_of, Jump}
use Rattle.definitions.specs.Tree.{Script}
use Rattle.definitions.specs.Read.{parse_unit}
use Rattle.definitions.specs.Instr.{Instr}
use Rattle.definitions.specs.Code.{State}
use Rattle.definitions.specs.Lower.{lower}
use Rattle.definitions.specs.Listing.{listing_bytes, record_limit}
use Rattle.definitions.specs.Resolve.{in_range, word, resolve_records, fitting, resolve}
use Rattle.definitions.specs.Stage.{labelled, lower_into, listed, lower_to, coded, resolve_to, stage}
use Rattle.definitions.specs.Stored.{there, Less, lesses, less_in, less_of, move_field, move_record, move_records, store}
use Rattle.laws.proofs.Inversion.{refusal_not_made}
use Rattle.laws.proofs.Results.{made_is, onward_is}
use Rattle.instr.proofs.WholeLaws.{written_is_read}
use Rattle.ir.proofs.UnitPlaces.{unit_at}
use Rattle.landing.specs.Distance.{distances_of}
use Rattle.landing.specs.Walk.{Bytes}
use Rattle.landing.specs.Landed.{Far, first_far, unless_far, with_distances, is_made, left, filled_field, filled, all_near, NotBelow, Each, Forward, FieldAhead, OnlyJumpsBack}
use Rattle.landing.proofs.Theorem.{signed_word, landing, bounded, backward, jumps_back}
use Rattle.landing.proofs.Emitted.{listing_records}
use Rattle.resolve.specs.Values.{relabelled}
use Rattle.resolve.specs.Delivered.{listing_in}
use Rattle.resolve.proofs.Listed.{checked_is_law, records_listed, resolved_length}
use Rattle.resolve.proofs.Delivered.{labelled_is, delivers_stage}
use Rattle.store.specs.Trips.{into}
use Rattle.store.proofs.Moved.{there_back, records_moved}
use Rattle.store.proofs.Trips.{coded_is, fitting_into, moved_again}

-- 1. Numbers

-- what is taken off: 3 of a Jump, and 11 at most
jump_less : (t : ℕ) → t ≡ Jump → ((less_of t).first ≤ 3) × ((less_of t).second ≤ 3)
unfolding lesses less_in
jump_less t e = rw e (omega arith, omega arith)

-- a distance that may be one back: so much may be taken off it
record Room (d : ℤ) (off : ℕ) : Type 0 where
  near : in_range d ≡ true
  low : NotBelow d
  little : off ≤ 11
  ahead : (off ≤ 3 → ⊥) → Forward (some d)

sub_near : (n m : ℕ) → n < 32768 → m ≤ 11 → in_range (sub_ℕ n m) ≡ true
unfolding in_range
sub_near n m h l = go (ltb n m) refl
  where
    go : (b : Bool) → ltb n m ≡ b → in_range (cond b (negsuc (m - suc n)) (pos (n - m))) ≡ true
    go true e = lt-ltb (m - suc n) 32768 (omega arith)
    go false e = lt-ltb (n - m) 32768 (omega arith)

limit : (ls : List Less) → Each (λ l. (l.first ≤ 11) × (l.second ≤ 11)) ls → (t : ℕ) → ((less_in ls t).first ≤ 11) × ((less_in ls t).second ≤ 11)
unfolding less_in
limit [] h t = (omega arith, omega arith)
limit (l ∷ ls) h t = go (eqb l.tag t) (limit ls h.1 t)
  where
    go : (b : Bool) → ((less_in ls t).first ≤ 11) × ((less_in ls t).second ≤ 11) → ((cond b l (less_in ls t)).first ≤ 11) × ((cond b l (less_in ls t)).second ≤ 11)
    go true r = h.0
    go false r = r

less_limit : (t : ℕ) → ((less_of t).first ≤ 11) × ((less_of t).second ≤ 11)
unfolding lesses
less_limit t =
    limit lesses ((omega arith, omega arith), ((omega arith, omega arith), ((omega arith, omega arith), ((omega arith, omega arith), ((omega arith, omega arith), ((omega arith, omega arith), ((omega arith, omega arith), ((omega arith, omega arith), ((omega arith, omega arith), tt))))))))) t

near_there : (d : ℤ) (off : ℕ) → Room d off → in_range (there d off) ≡ true
unfolding there in_range NotBelow Forward
near_there (pos n) zero r = rw (add-zero n) r.near
near_there (pos n) (suc m) r = sub_near n (suc m) (ltb-true n 32768 r.near) r.little
near_there (negsuc n) zero r = rw (lt-ltb 0 (suc n) (omega arith)) (lt-ltb (suc n - 1) 32768 (omega (arith, r.low)))
near_there (negsuc n) (suc m) r = elim (dec_lt 3 (suc m)) [
  | yes h ↦ absurd (r.ahead (λ l. absurd (omega arith)))
  | no h ↦ lt-ltb (suc (n + m)) 32768 (omega (arith, r.low))
]

-- 2. Distances

near_first : (ds : List ℤ) → all_near ds ≡ true → in_range (get_or ds 0 (pos 0)) ≡ true
unfolding all_near in_range
near_first [] e = refl
near_first (d ∷ ds) e = ((and-eq-true_iff (in_range d) (all_near ds)).0 e).0

low_first : (ds : List ℤ) → Each NotBelow ds → NotBelow (get_or ds 0 (pos 0))
unfolding NotBelow
low_first [] h = tt
low_first (d ∷ ds) h = h.0

near_left : (b : Bool) (ds : List ℤ) → all_near ds ≡ true → all_near (left b ds) ≡ true
unfolding all_near left
near_left true [] e = e
near_left true (d ∷ ds) e = ((and-eq-true_iff (in_range d) (all_near ds)).0 e).1
near_left false ds e = e

low_left : (b : Bool) (ds : List ℤ) → Each NotBelow ds → Each NotBelow (left b ds)
unfolding left
low_left true [] h = tt
low_left true (d ∷ ds) h = h.1
low_left false ds h = h

far_made : {A : Type 0} (far : Far) (a b : A) → unless_far far a ≡ made b → b ≡ a
unfolding unless_far
far_made none a b e = sym (made_is e)
far_made (some f) a b e = refusal_not_made e

-- 3. Fields and records

field_made : (b j : Bool) (off k x l : ℕ) (ds : List ℤ) → off ≤ 11 → (j ≡ true → off ≤ 3) → FieldAhead b j ds → all_near ds ≡ true → Each NotBelow ds
    → (f : ℕ) × (move_field there b off k x (filled_field b l ds) ≡ made f)
unfolding move_field filled_field FieldAhead checked
field_made false j off k x l ds h g a n w = (l, refl)
field_made true j off k x l ds h g a n w =
    let d = get_or ds 0 (pos 0) in
    let s = signed_word d (near_first ds n) in
    let r = near_there d off (record { near = near_first ds n; low = low_first ds w; little = h; ahead = go j g a }) in
    (word (there d off), rw (s, r))
  where
    go : (j : Bool) → (j ≡ true → off ≤ 3) → FieldAhead true j ds → (off ≤ 3 → ⊥) → Forward (some (get_or ds 0 (pos 0)))
    go true g a z = absurd (z (g refl))
    go false g a z = a

records_made : (k : ℕ) (is : List Instr) (ds : List ℤ) → OnlyJumpsBack is ds → all_near ds ≡ true → Each NotBelow ds → (rs : List Instr) × (move_records there k (filled is ds) ≡ made rs)
unfolding OnlyJumpsBack filled move_records move_record onward
records_made k [] ds h n w = ([], refl)
records_made k (i ∷ is) ds h n w =
    let t = i.tag in
    let b = (row_of t).first in
    let c = (row_of t).second in
    let es = left b ds in
    let lim = less_limit t in
    let jl : eqb t Jump ≡ true → ((less_of t).first ≤ 3) × ((less_of t).second ≤ 3) = λ e. jump_less t (eqb-true t Jump e) in
    let f = field_made b (eqb t Jump) (less_of t).first k 0 i.first ds lim.0 (λ e. (jl e).0) h.0 n w in
    let g = field_made c (eqb t Jump) (less_of t).second k 1 i.second es lim.1 (λ e. (jl e).1) h.1 (near_left b ds n) (low_left b ds w) in
    let r = records_made (suc k) is (left c es) h.2 (near_left c es (near_left b ds n)) (low_left c es (low_left b ds w)) in
    (relabelled i f.0 g.0 ∷ r.0, rw (f.1, g.1, r.1))

-- 4. The theorem

fits_back : (u : Script) (t : State) (s : List ℕ) (next : ℕ) → parse_unit s ≡ ok u next → lower u ≡ made t → (rs : List Instr) → resolve_records t.marks 0 0 t.instrs ≡ made rs
    → (ss : List Instr) × (move_records there 0 rs ≡ made ss)
unfolding with_distances unless_far is_made
fits_back u t s next read e rs d =
    let l = landing s u next read t e in
    let n : all_near (distances_of u) ≡ true = sym l.near ∙ ap is_made d in
    let w = (backward s u next read t e).reach n in
    let m = records_made 0 t.instrs (distances_of u) (jumps_back u t e) n w in
    let q : rs ≡ filled t.instrs (distances_of u) = far_made (first_far 0 t.instrs (distances_of u)) (filled t.instrs (distances_of u)) rs (sym l.resolves ∙ d) in
    (m.0, ap (λ (y : List Instr). move_records there 0 y) q ∙ m.1)

-- of the definition's stage
stage_stored : (s : List ℕ) → Bytes s → (rs : List Instr) → stage s ≡ made rs
    → (ss : List Instr) × (length ss ≡ length rs) × ((space : ℕ) → store (listing_bytes rs) space ≡ fitting space ss)
unfolding stage
stage_stored s bytes rs e =
    let a = onward_is (labelled s) _ e in
    let b = labelled_is (parse_unit s) a.0 a.1 in
    let t = a.0 in
    let u = b.0 in
    let w = listing_records s u b.1 bytes b.2 t b.3 in
    let r = records_listed t.marks 0 0 t.instrs rs a.2 w.0 w.1 in
    let few : length rs ≤ record_limit = omega (arith, resolved_length t.marks 0 0 t.instrs rs a.2, (bounded s u b.1 b.2 t b.3).records, (unit_at s u b.1 b.2).short) in
    let m = fits_back u t s b.1 b.2 b.3 rs a.2 in
    (m.0, (records_moved there_back 0 rs m.0 m.1 r.0 r.1).2, λ space. moved_again there (listing_bytes rs) rs m.0 space (written_is_read rs r.0 r.1 few) m.1)

-- of what the entries leave: whatever lowering listed and resolving answered with records, storing takes it, into whatever buffer is long enough
pub never_33 : (s o m : List ℕ) → Bytes s → (total k n : ℕ) (out marks : List ℕ) → lower_to (lower_into s (length o) (length m)) o m ≡ listed total k n out marks →
    (w p : List ℕ) → take k w ≡ take k marks → (c : ℕ) (code : List ℕ) → resolve_to (resolve (listing_in n out) w (length p)) p ≡ coded c code →
    (t : List ℕ) × ((q : List ℕ) → resolve_to (store (listing_in c code) (length q)) q ≡ into c t q)
never_33 s o m bytes total k n out marks e w p h c code d =
    let x = coded_is (resolve (listing_in n out) w (length p)) p c code d in
    let a = onward_is (stage s) _ (sym (delivers_stage s o m bytes total k n out marks e w (length p) h) ∙ x.is) in
    let rs : a.0 ≡ x.records = made_is (checked_is_law _ 20 0 0 (made a.0) a.2) in
    let b = stage_stored s bytes a.0 a.1 in
    let l : listing_in c code ≡ listing_bytes a.0 = x.listing ∙ ap listing_bytes (sym rs) in
    (listing_bytes b.0, λ q. ap (λ (y : List ℕ). resolve_to (store y (length q)) q) l ∙ ap (λ y. resolve_to y q) (b.2 (length q)) ∙ fitting_into b.0 c q (b.1 ∙ ap length rs ∙ x.count))
