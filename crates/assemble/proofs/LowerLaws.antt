-- The whole of `lower`: from what the reader and the walk ensure, of a sink that keeps nothing and of a lent buffer. Assumes nothing.
use Prim.Native.Nat.{ℕ, suc, ◌+◌, min, ◌-◌, ◌/◌, ◌≤◌, ◌<◌}
use mathlib.Core.Path.{◌≡◌, refl, sym, ap, ◌∙◌}
use mathlib.Core.Bool.{Bool, true, false}
use mathlib.Core.List.{List, [], ◌∷◌, ◌++◌, append_assoc}
use native.Mathlib.Omega.{arith}
use lib.Dec.{leb}
use lib.ListN.{length, get_or, take, drop, length-append}
use lib.Seq.{length-take-le, drop_at}
use borrow.Author.Tests.{le-leb, lt-leb, leb-true}
use Rattle.definitions.specs.Answer.{Answer, ok, refused, Result, made, refusal, onward, checked}
use Rattle.definitions.specs.Instr.{Instr, record_length, size}
use Rattle.definitions.specs.Tree.{Script}
use Rattle.definitions.specs.Read.{filling, parse_stmt, parse_unit}
use Rattle.definitions.specs.Code.{State, start, label_limit}
use Rattle.definitions.specs.Lower.{outside}
use Rattle.definitions.specs.Lower as Lower
use Rattle.definitions.specs.Listing.{front_length, listing_length, records_bytes, listing_bytes, record_limit}
use Rattle.definitions.specs.Stage.{labelled, lowered, lower_into, measure, over, lower_to}
use Rattle.instr.specs.Values.{front, front_fits, front_written}
use Rattle.instr.proofs.WholeLaws.{length_listing}
use Rattle.std.specs.Prelude.{Ok, Err}
use Rattle.std.proofs.Math.Nat.{min-le_left, min-le_right}
use Rattle.std.specs.Prelude as std
use Rattle.instr.specs.declared.refusals.Refusal.{Refusal}
use Rattle.instr.specs.declared.refusals.Reason.TheVariants.{Room, TableRoom}
use Rattle.instr.specs.Refusals.{number_of}
use Rattle.ir.specs.declared.Class.TheVariants.{Statement}
use Rattle.ir.proofs.UnitPlaces.{unit_at}
use Rattle.std.specs.Borrow.{MutBor}
use Rattle.steps.specs.Running.{Sinks, Cells, run, puts}
use Rattle.steps.specs.Lent.{put_lent}
use Rattle.steps.specs.declared.sinks.Listing.{Listing}
use Rattle.steps.specs.Walked.{Accepted, after, fill_code, ran, target_of, span_of, Did}
use Rattle.scan.specs.Scanned.{Fits}
use Rattle.assemble.specs.Walk.{sink_after, Walked}
use Rattle.assemble.specs.Whole.{unit_code, zeros, Lowers, answer, measuring}
use Rattle.landing.specs.Walk.{Bytes}
use Rattle.landing.proofs.Emitted.{listing_records}
use Rattle.landing.proofs.Theorem.{bounded}
use Rattle.steps.specs.declared.counters.Counters.{Counters}
use Rattle.walk.proofs.StmtCode.{block_code}
use Rattle.walk.proofs.MidLaws.{code_is}
use Rattle.laws.proofs.Inversion.{refusal_not_made}
use Rattle.laws.proofs.Results.{made_is, onward_is}
use Rattle.assemble.proofs.MeasureLaws.{measured_state, measured_refusal}
use Rattle.assemble.proofs.WholeLaws.{unit_stopped, unit_totals, unit_gave, given_whole, puts_all}

-- 1. A unit is a run of statements

pub record UnitHere (s : List ℕ) : Type 0 where
  pub head : 10 ≤ length s
  pub reads : Accepted (filling (parse_stmt 200 s) (length s) 10)
  pub code : unit_code s ≡ fill_code Statement 200 s (length s) 10 (outside (get_or s 5 0))

pub unit_here : (s : List ℕ) → Accepted (parse_unit s) → UnitHere s
unit_here s acc =
    let k = unit_at s acc.0 acc.1 acc.2 in
    record {
      head = k.run.head;
      reads = (k.body, length s, k.run.reads);
      code = code_is (λ u. Lower.code_of u) (parse_unit s) acc.0 acc.1 acc.2 ∙ ap (λ u. Lower.code_of u) k.tree ∙ sym (block_code 200 s (length s) 10 (outside (get_or s 5 0)) k.body (length s) k.run.reads);
    }

pub walked_as : {S : Type 0} {K : Sinks S} (s : List ℕ) (returns : ℕ) {A : Type 0} (r : std.Result A Refusal) (c : Counters) (o : S) (m : List ℕ) (o' : S) (m' : List ℕ) → Accepted (parse_unit s) → returns ≡ get_or s 5 0 →
    Did K (fill_code Statement 200 s (length s) 10 (span_of (record { break_target = std.None; continue_target = std.None; returns = returns }))) (record { offset = 0; labels = 0; count = 0 }) o m r c o' m' →
    ran (after r c) o' m' ≡ run K (unit_code s) (zeros o m)
unfolding ran onward span_of target_of
walked_as {K = K} s returns r c o m o' m' acc e d =
    d.same ∙ ap (λ n. run K (fill_code Statement 200 s (length s) 10 (outside n)) (zeros o m)) e ∙ ap (λ c. run K c (zeros o m)) (sym (unit_here s acc).code)

-- WHATEVER THE SINK AND THE MARKS
module _ (s : List ℕ) (bytes : Bytes s) (acc : Accepted (parse_unit s)) {S : Type 0} (K : Sinks S) (o : S) (m : List ℕ) where
  same_code : unit_code s ≡ Lower.code_of acc.0
  same_code = code_is (λ u. Lower.code_of u) (parse_unit s) acc.0 acc.1 acc.2

  pub walked : (r : std.Result Counters Refusal) (o' : S) (m' : List ℕ) → ran r o' m' ≡ run K (unit_code s) (zeros o m) → Walked K s o m r o' m'
  unfolding Walked ran over
  walked (Err q) o' m' w = unit_stopped s acc.0 acc.1 acc.2 K o m (number_of q.reason) q.place q.extra (ap (λ c. run K c (zeros o m)) (sym same_code) ∙ sym w)
  walked (Ok c) o' m' w =
      let d : Cells S = record { offset = c.offset; labels = c.labels; count = c.count; sink = o'; marks = m' } in
      let x : run K (Lower.code_of acc.0) (zeros o m) ≡ made d = ap (λ c. run K c (zeros o m)) (sym same_code) ∙ sym w in
      let z = unit_totals s acc.0 acc.1 acc.2 K o m d x in
      let g = unit_gave s acc.0 acc.1 acc.2 K o m d x z in
      let within = (listing_records s acc.0 acc.1 bytes acc.2 z.state z.walks_to).0 in
      record {
        state = z.state;
        whole = z.whole;
        offset = z.offset;
        labels = z.labels;
        count = z.count;
        gave = g.sink ∙ given_whole K 0 0 z.state.instrs o within;
        table = g.marks;
      }

-- a listing is its buffer
abbrev listing_of : MutBor (List ℕ) → List ℕ → Listing
listing_of b o = record { out = record { ref_ptr = b.ref_ptr; ghost_name = b.ghost_name; now = o } }

abbrev lists : Sinks Listing
lists s offset number i = record { out = put_lent s.out number i }

given_listed : (b : MutBor (List ℕ)) (x n : ℕ) (is : List Instr) → sink_after lists x n is (record { out = b }) ≡ listing_of b (sink_after puts x n is b.now)
unfolding sink_after
given_listed b x n [] = refl
given_listed b x n (i ∷ is) = given_listed (put_lent b n i) (x + size i) (suc n) is

-- what a walk into a listing leaves in the buffer that was lent for it, where the listing still has it
pub listed_as : (s : List ℕ) (b : MutBor (List ℕ)) (m : List ℕ) (r : std.Result Counters Refusal) (t : Listing) (m' x : List ℕ) →
    Walked lists s (record { out = b }) m r t m' → (b.ghost_name ≡ t.out.ghost_name → x ≡ t.out.now) → Walked puts s b.now m r x m'
unfolding Walked
listed_as s b m (Ok c) t m' x w h =
    let k = w.gave ∙ given_listed b 0 0 w.state.instrs in
    record {
      state = w.state;
      whole = w.whole;
      offset = w.offset;
      labels = w.labels;
      count = w.count;
      gave = h (sym (ap (λ (z : Listing). z.out.ghost_name) k)) ∙ ap (λ (z : Listing). z.out.now) k;
      table = w.table;
    }
listed_as s b m (Err q) t m' x w h = w

-- 2. The listing

over_is : (w b : List ℕ) (n : ℕ) → length w ≡ n → over w b ≡ w ++ drop n b
unfolding over
over_is w b n e = ap (λ k. w ++ drop k b) e

front_is_law : (n : ℕ) (o : List ℕ) → n ≤ record_limit → front_length ≤ length o → front_written n o ≡ front n ++ drop front_length o
unfolding front_written front_fits
front_is_law n o m h = rw (front_written, front_fits, le-leb n record_limit m, le-leb front_length (length o) h)

listing_is : (is : List Instr) → listing_bytes is ≡ front (length is) ++ records_bytes is
unfolding listing_bytes
listing_is is = refl

front_over : (n : ℕ) (is : List Instr) (o o₂ : List ℕ) → n ≡ length is → length is ≤ record_limit → listing_length (length is) ≤ length o →
    o₂ ≡ (take front_length o ++ records_bytes is) ++ drop (listing_length (length is)) o → front_written n o₂ ≡ over (listing_bytes is) o
front_over n is o o₂ e few h q =
    let five : length (take front_length o) ≡ front_length = length-take-le front_length o (omega (arith, h)) in
    let D = drop (listing_length (length is)) o in
    let R = records_bytes is in
    let F : List ℕ = front (length is) in
    let z : o₂ ≡ take front_length o ++ (R ++ D) = q ∙ append_assoc (take front_length o) R D in
    let long : front_length ≤ length o₂ = omega (arith, ap length z, length-append (take front_length o) (R ++ D), five) in
    let d : drop front_length o₂ ≡ R ++ D = ap (drop front_length) z ∙ drop_at (take front_length o) (R ++ D) front_length five in
    front_is_law n o₂ (omega (arith, e, few)) long ∙ ap {B = List ℕ} (λ k. front k ++ drop front_length o₂) e ∙ ap (λ y. F ++ y) d ∙ sym (append_assoc F R D)
    ∙ ap (λ y. y ++ D) (sym (listing_is is)) ∙ sym (over_is (listing_bytes is) o _ (length_listing is))

-- 3. What `lower` answers

abbrev room : (bytes words : ℕ) → State → Result State
room a b l = checked (leb (listing_length (length l.instrs)) a) 20 0 0 (checked (leb (length l.marks) b) 21 0 0 (made l))

refused_is : (s : List ℕ) (a b n p x : ℕ) → labelled s ≡ refusal n p x → lower_into s a b ≡ refusal n p x
unfolding lower_into onward
refused_is s a b n p x e = ap {B = Result State} (λ y. onward y (room a b)) e

room_is : (s : List ℕ) (a b : ℕ) (t : State) → labelled s ≡ made t → lower_into s a b ≡ room a b t
unfolding lower_into onward
room_is s a b t e = ap {B = Result State} (λ y. onward y (room a b)) e

stopped_answer : (n : Refusal) (x : Result State) (o m : List ℕ) → x ≡ refusal (number_of n.reason) n.place n.extra → answer (Err n) o m ≡ lower_to x o m
unfolding answer lower_to
stopped_answer n x o m e = rw e

done_answer : (d : Counters) (t : State) (x : Result State) (o m o₃ m₂ : List ℕ) → x ≡ made t → d.offset ≡ t.offset → d.labels ≡ length t.marks → d.count ≡ length t.instrs →
    o₃ ≡ over (listing_bytes t.instrs) o → m₂ ≡ over t.marks m → answer (Ok d) o₃ m₂ ≡ lower_to x o m
unfolding answer lower_to
done_answer d t x o m o₃ m₂ e a b c f g = rw (e, a, b, c, f, g)

-- nothing refuses the unit, and the buffers have room: taken apart, and put together
passed : {A : Type 0} (b : Bool) (n p x : ℕ) (r : Result A) {a : A} → checked b n p x r ≡ made a → (b ≡ true) × (r ≡ made a)
unfolding checked
passed true n p x r e = (refl, e)
passed false n p x r e = refusal_not_made e

lowers_is : (s : List ℕ) (a b : ℕ) (t : State) → lower_into s a b ≡ made t → (labelled s ≡ made t) × (listing_length (length t.instrs) ≤ a) × (length t.marks ≤ b)
unfolding lower_into
lowers_is s a b t e =
    let k = onward_is (labelled s) (room a b) e in
    let p = passed (leb (listing_length (length k.0.instrs)) a) 20 0 0 _ k.2 in
    let q = passed (leb (length k.0.marks) b) 21 0 0 _ p.1 in
    rw (← (made_is q.1)) (k.1, leb-true _ _ p.0, leb-true _ _ q.0)

lowers_of : (s : List ℕ) (a b : ℕ) (t : State) → labelled s ≡ made t → listing_length (length t.instrs) ≤ a → length t.marks ≤ b → lower_into s a b ≡ made t
unfolding checked
lowers_of s a b t e h l = room_is s a b t e ∙ rw (le-leb (listing_length (length t.instrs)) a h, le-leb (length t.marks) b l)

-- such a unit was read
pub lowers_accepted : (s : List ℕ) (a b : ℕ) → Lowers s a b → Accepted (parse_unit s)
unfolding lowered
lowers_accepted s a b f = go (parse_unit s) refl (lowers_is s a b f.0 f.1).0
  where
    go : (x : Answer Script) → parse_unit s ≡ x → lowered x ≡ made f.0 → Accepted (parse_unit s)
    go (ok u n) i e = (u, n, i)
    go (refused n p x) i e = refusal_not_made e

-- what a scan found to fit so much room is such a unit
pub fits_lowers : (s : List ℕ) (a b left most : ℕ) → (front_length ≤ a) × (left ≡ a - front_length) → most ≡ min b 65536 → Fits s (left / record_length) most → Lowers s a b
unfolding lowered label_limit
fits_lowers s a b left most h m f =
    let within : most ≤ 65536 = rw m (min-le_right b 65536) in
    let words : most ≤ b = rw m (min-le_left b 65536) in
    let r = f.tame.runs start (omega (arith, within)) in
    (r.0, lowers_of s a b r.0 (rw (f.reads, lowered) r.1) (omega (arith, r.2, h.0, h.1)) (omega (arith, r.3, words)))

-- the walk over a unit that is lowered into these buffers
module _ (s o m : List ℕ) (f : Lowers s (length o) (length m)) (o₂ m₂ : List ℕ) where
  pub fill_never : (q : Refusal) → Walked puts s o m (Err q) o₂ m₂ → {X : Type 0} → X
  unfolding Walked
  fill_never q w = refusal_not_made (sym (sym (lowers_is s (length o) (length m) f.0 f.1).0 ∙ w))

  pub fill_done : (d : Counters) (o₃ : List ℕ) → Walked puts s o m (Ok d) o₂ m₂ → o₃ ≡ front_written d.count o₂ → answer (Ok d) o₃ m₂ ≡ lower_to (lower_into s (length o) (length m)) o m
  unfolding Walked lowered
  fill_done d o₃ w e =
      let k = lowers_is s (length o) (length m) f.0 f.1 in
      let u : f.0 ≡ w.state = made_is (sym k.0 ∙ w.whole) in
      let g : listing_length (length w.state.instrs) ≤ length o = rw u at k.1 in
      let acc = lowers_accepted s (length o) (length m) f in
      let whole : lowered (parse_unit s) ≡ made w.state = w.whole in
      let few : length w.state.instrs ≤ record_limit = omega (arith, (bounded s acc.0 acc.1 acc.2 w.state (rw acc.2 at whole)).records, (unit_at s acc.0 acc.1 acc.2).short) in
      let n : o₃ ≡ over (listing_bytes w.state.instrs) o = e ∙ front_over d.count w.state.instrs o o₂ w.count few g (w.gave ∙ puts_all w.state.instrs o g) in
      done_answer d w.state (lower_into s (length o) (length m)) o m o₃ m₂ (rw u at f.1) w.offset w.labels w.count n (w.table (rw u at k.2))

-- 4. What a measure says of lowering

module _ (s o m : List ℕ) where
  pub lower_refused : (q : Refusal) → measuring (Err q) ≡ measure s → answer (Err q) o m ≡ lower_to (lower_into s (length o) (length m)) o m
  lower_refused q e = stopped_answer q (lower_into s (length o) (length m)) o m (refused_is s (length o) (length m) _ _ _ (measured_refusal s q e))

  pub lower_room : (c : Counters) → measuring (Ok c) ≡ measure s → length o < listing_length c.count → answer (Err (record { reason = Room; place = 0; extra = 0 })) o m ≡ lower_to (lower_into s (length o) (length m)) o m
  unfolding checked
  lower_room c e h =
      let t = measured_state s c e in
      let g : length o < listing_length (length t.0.instrs) = omega (arith, h, t.3) in
      stopped_answer _ (lower_into s (length o) (length m)) o m (room_is s (length o) (length m) t.0 t.1 ∙ rw (lt-leb (listing_length (length t.0.instrs)) (length o) g))

  pub lower_table : (c : Counters) → measuring (Ok c) ≡ measure s → listing_length c.count ≤ length o → length m < c.labels → answer (Err (record { reason = TableRoom; place = 0; extra = 0 })) o m ≡ lower_to (lower_into s (length o) (length m)) o m
  unfolding checked
  lower_table c e h l =
      let t = measured_state s c e in
      let g : listing_length (length t.0.instrs) ≤ length o = omega (arith, h, t.3) in
      let f : length m < length t.0.marks = omega (arith, l, t.2) in
      stopped_answer _ (lower_into s (length o) (length m)) o m (room_is s (length o) (length m) t.0 t.1 ∙ rw (le-leb (listing_length (length t.0.instrs)) (length o) g, lt-leb (length t.0.marks) (length m) f))

  pub lower_fits : (c : Counters) → measuring (Ok c) ≡ measure s → listing_length c.count ≤ length o → c.labels ≤ length m → Lowers s (length o) (length m)
  lower_fits c e h l =
      let t = measured_state s c e in
      (t.0, lowers_of s (length o) (length m) t.0 t.1 (omega (arith, h, t.3)) (omega (arith, l, t.2)))
