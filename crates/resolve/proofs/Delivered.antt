-- WHERE EVERY JUMP OF WHAT IS SHIPPED LANDS: whatever `lower` lists, `resolve` answers as the landing table says. Assumes nothing.
use Prim.Native.Nat.{ℕ, suc, ◌+◌, ◌≤◌}
use mathlib.Core.Path.{◌≡◌, refl, ap, sym, ◌∙◌}
use mathlib.Core.Bool.{Bool, true, false, cond, ◌&&◌}
use mathlib.Core.List.{List, [], ◌∷◌}
use mathlib.Core.Logic.{inl, inr}
use mathlib.Core.Option.{none, some}
use native.Mathlib.Omega.{arith}
use lib.Dec.{leb}
use lib.ListN.{length, get_or, take}
use borrow.Author.Tests.{le-leb}
use lib.Seq.{take_at, get_or-take}
use lib.IntN.{ℤ}
use Rattle.definitions.specs.Answer.{Answer, ok, refused, Result, made, refusal, onward, checked}
use Rattle.definitions.specs.Tag.{row_of}
use Rattle.definitions.specs.Tree.{Script}
use Rattle.definitions.specs.Read.{parse_unit}
use Rattle.definitions.specs.Instr.{Instr, size}
use Rattle.definitions.specs.Code.{State, unmarked}
use Rattle.definitions.specs.Lower.{lower}
use Rattle.definitions.specs.Listing.{listing_length, listing_bytes, read_listing}
use Rattle.definitions.specs.Resolve.{distance_of, resolve_field, resolve_record, resolve_records, fitting, resolve}
use Rattle.definitions.specs.Stage.{lowered, labelled, lower_into, over, listed, lower_to, coded, unresolved, resolve_to, stage}
use Rattle.laws.proofs.Inversion.{impossible, refusal_not_made}
use Rattle.laws.proofs.Results.{made_is, onward_is}
use Rattle.instr.proofs.WholeLaws.{length_listing, written_is_read}
use Rattle.ir.proofs.UnitPlaces.{unit_at}
use Rattle.landing.specs.Distance.{distances_of}
use Rattle.landing.specs.Landed.{Far, filled, first_far, unless_far, with_distances, all_near, is_made, CarriedIn, Carried}
use Rattle.landing.specs.Walk.{Bytes}
use Rattle.landing.proofs.Theorem.{landing, bounded}
use Rattle.landing.proofs.Emitted.{listing_records}
use Rattle.landing.proofs.Nodes.{emitting_nodes, filled_nodes}
use Rattle.resolve.proofs.Listed.{checked_is_law}
use Rattle.resolve.specs.Delivered.{delivers, is_coded, Only, listing_in, Delivered}

-- 1. Table words past the labels are not looked at: only the marks of labels that are carried count

field_same : (b : Bool) (v w : List ℕ) (o k x l : ℕ) → ((j : ℕ) → CarriedIn b j l → get_or v j unmarked ≡ get_or w j unmarked) → resolve_field b v o k x l ≡ resolve_field b w o k x l
unfolding resolve_field distance_of CarriedIn
field_same true v w o k x l h = rw (h l refl)
field_same false v w o k x l h = refl

records_same : (v w : List ℕ) (o k : ℕ) (is : List Instr) → ((j : ℕ) → Carried j is → get_or v j unmarked ≡ get_or w j unmarked) → resolve_records v o k is ≡ resolve_records w o k is
unfolding resolve_records resolve_record Carried
records_same v w o k [] h = refl
records_same v w o k (i ∷ is) h =
    rw (
      field_same (row_of i.tag).first v w o k 0 i.first (λ j c. h j (inl c)),
      field_same (row_of i.tag).second v w o k 1 i.second (λ j c. h j (inr (inl c))),
      records_same v w (o + size i) (suc k) is (λ j c. h j (inr (inr c))),
    )

-- 2. What is written, and what is lent

over_front : (w b : List ℕ) (n : ℕ) → length w ≡ n → take n (over w b) ≡ w
unfolding over
over_front w b n e = take_at w _ n e

pub listing_front_law : (is : List Instr) (o : List ℕ) (n : ℕ) → length is ≡ n → listing_in n (over (listing_bytes is) o) ≡ listing_bytes is
listing_front_law is o n e = over_front (listing_bytes is) o (listing_length n) (length_listing is ∙ ap listing_length e)

filled_length : (is : List Instr) (ds : List ℤ) → length (filled is ds) ≡ length is
unfolding filled
filled_length [] ds = refl
filled_length (i ∷ is) ds = ap suc (filled_length is _)

-- 3. From an answer of lowering to the unit that was read and lowered

pub labelled_is : (x : Answer Script) (t : State) → lowered x ≡ made t → (u : Script) × (next : ℕ) × (x ≡ ok u next) × (lower u ≡ made t)
unfolding lowered
labelled_is (ok u next) t e = (u, next, refl, e)
labelled_is (refused n p x) t e = refusal_not_made e

pub lowered_is : (s : List ℕ) (a b : ℕ) (t : State) → lower_into s a b ≡ made t → labelled s ≡ made t
unfolding lower_into
lowered_is s a b t e =
    let c = onward_is (labelled s) _ e in
    let d = checked_is_law _ 21 0 0 (made c.0) (checked_is_law _ 20 0 0 _ c.2) in
    c.1 ∙ d

record Listed (r : Result State) (o m : List ℕ) (k n : ℕ) (out marks : List ℕ) : Type 0 where
  state : State
  is : r ≡ made state
  labels : length state.marks ≡ k
  records : length state.instrs ≡ n
  out_is : out ≡ over (listing_bytes state.instrs) o
  marks_is : marks ≡ over state.marks m

listed_is : (r : Result State) (o m : List ℕ) (total k n : ℕ) (out marks : List ℕ) → lower_to r o m ≡ listed total k n out marks → Listed r o m k n out marks
unfolding lower_to
listed_is (made t) o m total k n out marks e = record { state = t; is = refl; labels = cc; records = cc; out_is = cc; marks_is = cc }
listed_is (refusal a p x) o m total k n out marks e = impossible (cc)

-- 4. Resolving by the table

far_delivers : (far : Far) (n : ℕ) (code : List Instr) (p : List ℕ) → length code ≡ n → resolve_to (onward (unless_far far code) (fitting (length p))) p ≡ delivers far n code p
unfolding unless_far onward checked delivers resolve_to
far_delivers (some f) n code p e = refl
far_delivers none n code p e = rw (← e) (go (leb (listing_length (length code)) (length p)))
  where
    go : (b : Bool) → resolve_to (checked b 20 0 0 (made code)) p ≡ cond b (coded (length code) (over (listing_bytes code) p)) (unresolved 20 0 0 p)
    go true = refl
    go false = refl

far_coded : (far : Far) (n : ℕ) (code : List Instr) (p : List ℕ) → is_coded (delivers far n code p) ≡ is_made (unless_far far code) && leb (listing_length n) (length p)
unfolding delivers is_coded unless_far is_made
far_coded (some f) n code p = refl
far_coded none n code p = go (leb (listing_length n) (length p))
  where
    go : (b : Bool) → is_coded (cond b (coded n (over (listing_bytes code) p)) (unresolved 20 0 0 p)) ≡ b
    go true = refl
    go false = refl

far_numbers : (far : Far) (n : ℕ) (code : List Instr) (p : List ℕ) → Only 32 20 (delivers far n code p)
unfolding delivers Only
far_numbers (some f) n code p = inl refl
far_numbers none n code p = go (leb (listing_length n) (length p))
  where
    go : (b : Bool) → Only 32 20 (cond b (coded n (over (listing_bytes code) p)) (unresolved 20 0 0 p))
    go true = tt
    go false = inr refl

-- 5. The theorem

module _ (s : List ℕ) (bytes : Bytes s) (u : Script) (next : ℕ) (read : parse_unit s ≡ ok u next) (t : State) (e : lower u ≡ made t) where
  abbrev ds : List ℤ
  ds = distances_of u

  abbrev code : List Instr
  code = filled t.instrs ds

  reads_again : read_listing (listing_bytes t.instrs) ≡ made t.instrs
  reads_again =
      let r = listing_records s u next bytes read t e in
      written_is_read t.instrs r.0 r.1 (omega (arith, (bounded s u next read t e).records, (unit_at s u next read).short))

  marks_same : (w : List ℕ) → take (length t.marks) w ≡ t.marks → resolve_records w 0 0 t.instrs ≡ resolve_records t.marks 0 0 t.instrs
  marks_same w h = records_same w t.marks 0 0 t.instrs (λ j c. sym (get_or-take (length t.marks) w j unmarked ((landing s u next read t e).marked j c).0) ∙ ap (λ v. get_or v j unmarked) h)

  answers : (w p : List ℕ) → take (length t.marks) w ≡ t.marks → resolve_to (resolve (listing_bytes t.instrs) w (length p)) p ≡ delivers (first_far 0 t.instrs ds) (length t.instrs) code p
  unfolding resolve onward with_distances
  answers w p h =
      rw (reads_again, marks_same w h, (landing s u next read t e).resolves) (far_delivers (first_far 0 t.instrs ds) (length t.instrs) code p (filled_length t.instrs ds))

  coded_near : is_made (unless_far (first_far 0 t.instrs ds) code) ≡ all_near ds
  unfolding with_distances
  coded_near = let l = landing s u next read t e in ap is_made (sym l.resolves) ∙ l.near

  -- resolving what is listed is the stage, up to the room that is lent
  stages : (w : List ℕ) (space : ℕ) → take (length t.marks) w ≡ t.marks → resolve (listing_bytes t.instrs) w space ≡ onward (stage s) (fitting space)
  unfolding resolve stage lowered onward
  stages w space h = rw (reads_again, marks_same w h, read, lowered, e, onward)

-- what lowering lists: a script, its listing and its marks
record Known (s : List ℕ) (k n : ℕ) (out marks : List ℕ) : Type 0 where
  script : Script
  next : ℕ
  reads : parse_unit s ≡ ok script next
  state : State
  lowers : lower script ≡ made state
  count : length state.instrs ≡ n
  listing : listing_in n out ≡ listing_bytes state.instrs
  table : (w : List ℕ) → take k w ≡ take k marks → take (length state.marks) w ≡ state.marks

known : (s o m : List ℕ) (total k n : ℕ) (out marks : List ℕ) → lower_to (lower_into s (length o) (length m)) o m ≡ listed total k n out marks → Known s k n out marks
known s o m total k n out marks e =
    let d = listed_is (lower_into s (length o) (length m)) o m total k n out marks e in
    let t = d.state in
    let x = labelled_is (parse_unit s) t (lowered_is s (length o) (length m) t d.is) in
    record {
      script = x.0;
      next = x.1;
      reads = x.2;
      state = t;
      lowers = x.3;
      count = d.records;
      listing = ap (λ y. take (listing_length n) y) d.out_is ∙ listing_front_law t.instrs o n d.records;
      table = λ w h. rw d.labels (h ∙ ap (λ y. take k y) d.marks_is ∙ over_front t.marks m k d.labels);
    }

-- of every list of bytes, and whatever the lent buffers o and m hold: if lowering lists, this is what it lists and what resolving makes of it
pub delivered : (s o m : List ℕ) → Bytes s → (total k n : ℕ) (out marks : List ℕ) → lower_to (lower_into s (length o) (length m)) o m ≡ listed total k n out marks → Delivered s k n out marks
delivered s o m bytes total k n out marks e =
    let d = known s o m total k n out marks e in
    let u = d.script in
    let t = d.state in
    let l = landing s u d.next d.reads t d.lowers in
    let far = first_far 0 t.instrs (distances_of u) in
    let code = filled t.instrs (distances_of u) in
    let resolves : (w p : List ℕ) → take k w ≡ take k marks → resolve_to (resolve (listing_in n out) w (length p)) p ≡ delivers far n code p =
    λ w p h. ap (λ y. resolve_to (resolve y w (length p)) p) d.listing ∙ answers s bytes u d.next d.reads t d.lowers w p (d.table w h) ∙ ap (λ y. delivers far y code p) d.count in
    record {
      script = u;
      reads = d.reads ∙ ap (λ y. ok u y) (unit_at s u d.next d.reads).ends;
      instrs = t.instrs;
      holds = ap read_listing d.listing ∙ reads_again s bytes u d.next d.reads t d.lowers;
      resolves = resolves;
      refused_for = l.refused_for;
      near = λ w p h. ap is_coded (resolves w p h) ∙ far_coded far n code p ∙ ap (λ y. y && leb (listing_length n) (length p)) (coded_near s bytes u d.next d.reads t d.lowers);
      numbers = λ w p h. rw (resolves w p h) (far_numbers far n code p);
      all = l.all;
      lands = l.lands;
      nodes = (emitting_nodes u t d.lowers, filled_nodes u t.instrs (distances_of u) (emitting_nodes u t d.lowers));
    }

-- so resolving what lowering left is the definition's stage, and 20 where the room is short
pub delivers_stage : (s o m : List ℕ) → Bytes s → (total k n : ℕ) (out marks : List ℕ) → lower_to (lower_into s (length o) (length m)) o m ≡ listed total k n out marks →
    (w : List ℕ) (space : ℕ) → take k w ≡ take k marks → resolve (listing_in n out) w space ≡ onward (stage s) (fitting space)
delivers_stage s o m bytes total k n out marks e w space h =
    let d = known s o m total k n out marks e in
    ap (λ y. resolve y w space) d.listing ∙ stages s bytes d.script d.next d.reads d.state d.lowers w space (d.table w h)

-- 6. Of a unit whose script and labelled listing are known

module _ (s : List ℕ) (bytes : Bytes s) (u : Script) (next : ℕ) (read : parse_unit s ≡ ok u next) (t : State) (e : lower u ≡ made t) (o m : List ℕ) where
  -- with room it is listed
  pub lists : listing_length (length t.instrs) ≤ length o → length t.marks ≤ length m →
      lower_to (lower_into s (length o) (length m)) o m ≡ listed t.offset (length t.marks) (length t.instrs) (over (listing_bytes t.instrs) o) (over t.marks m)
  unfolding lower_to lower_into lowered onward checked
  lists h l = rw (read, lowered, e, onward, le-leb (listing_length (length t.instrs)) (length o) h, le-leb (length t.marks) (length m) l)

  -- and the theorem speaks of that script and of these records
  pub named : (k n : ℕ) (marks : List ℕ) → length t.instrs ≡ n → Delivered s k n (over (listing_bytes t.instrs) o) marks → (w p : List ℕ) → take k w ≡ take k marks →
      resolve_to (resolve (listing_in n (over (listing_bytes t.instrs) o)) w (length p)) p ≡ delivers (first_far 0 t.instrs (distances_of u)) n (filled t.instrs (distances_of u)) p
  named k n marks c d w p h =
      let script : d.script ≡ u = cc (d.reads, read) in
      let instrs : d.instrs ≡ t.instrs = made_is (sym d.holds ∙ ap read_listing (listing_front_law t.instrs o n c) ∙ reads_again s bytes u next read t e) in
      d.resolves w p h ∙ rw (script, instrs)
