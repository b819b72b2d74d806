-- THE LANDING THEOREM: of every unit that is read and lowered, the listing resolves to the distances of document 01's landing table,
-- which is computed from the tree alone. Assumes nothing.
use Prim.Native.Nat.{ℕ, ◌-◌, ◌<◌, ◌≤◌}
use mathlib.Core.Path.{◌≡◌, refl, sym, ◌∙◌, ap}
use mathlib.Core.List.{List, [], ◌∷◌}
use mathlib.Core.Bool.{Bool, true, false, cond, ◌&&◌, true≢false}
use mathlib.Core.Option.{some}
use native.Mathlib.Omega.{arith}
use lib.Dec.{T}
use lib.ListN.{length}
use lib.IntN.{ℤ, pos, negsuc}
use borrow.Author.Tests.{ltb-true, lt-ltb, le-ltb}
use Rattle.definitions.specs.Answer.{ok, made, onward}
use Rattle.definitions.specs.Tree.{Script}
use Rattle.definitions.specs.Read.{parse_unit}
use Rattle.definitions.specs.Code.{State, unmarked, label_limit}
use Rattle.definitions.specs.Lower.{lower}
use Rattle.definitions.specs.Resolve.{in_range, word, signed}
use Rattle.definitions.specs.Stage.{total_size, lowered, stage}
use Rattle.landing.specs.Distance.{size_of, distances_of}
use Rattle.landing.specs.Landed.{with_distances, all_near, is_made, Carried, Landed, Bounded, NotBelow, Each, first_out, Forward, Backward, OnlyJumpsBack}
use Rattle.landing.specs.Walk.{actions_of}
use Rattle.landing.proofs.Pieces.{Agrees, Backs}
use Rattle.landing.proofs.Runs.{whole, mark_of, labels_made, labels_limit, listing, offset, agrees}
use Rattle.landing.proofs.Starts.{distances, distances_count, size_total, records_of, unit_distances, unit_lands, unit_jumps, unit_marked}
use Rattle.landing.proofs.Resolving.{resolves_filled, first_out_law, resolves_near}
use Rattle.landing.proofs.Paid.{unit_paid}

-- 1. The theorem

module _ (s : List ℕ) (u : Script) (next : ℕ) (read : parse_unit s ≡ ok u next) (t : State) (e : lower u ≡ made t) where
  -- the listing that is named by the actions
  unit_landed : t.instrs ≡ records_of u → Landed u t
  unfolding with_distances unmarked
  unit_landed same =
      let M : ℕ → ℕ = mark_of t in
      let a : Agrees M 0 (actions_of u) = agrees u t e in
      let paid = unit_paid s u next read in
      let d : distances M 0 (records_of u) ≡ distances_of u = unit_distances u M a in
      let marked : (k : ℕ) → Carried k (records_of u) → (k < length t.marks) × (M k ≤ size_of u) × (M k < unmarked) =
      (λ k c. let m = unit_marked u M a k c in (omega (arith, m.0, labels_made u t e), m.1, omega (arith, m.1, paid.size, paid.bytes))) in
      let filled = resolves_filled t.marks 0 0 (records_of u) (λ k c z. absurd (omega (arith, (marked k c).2))) in
      rw same (record {
        resolves = rw d at filled;
        refused_for = rw d at (first_out_law M 0 0 (records_of u));
        near = ap is_made filled ∙ resolves_near M (records_of u) ∙ ap all_near d;
        all = sym (ap length d) ∙ distances_count M 0 (records_of u);
        lands = unit_lands u M a;
        marked = marked;
      })

-- for every list of bytes that is read, and whose walk does not refuse
pub landing : (s : List ℕ) (u : Script) (next : ℕ) → parse_unit s ≡ ok u next → (t : State) → lower u ≡ made t → Landed u t
landing s u next read t e = unit_landed s u next read t e (listing u t e)

-- so does the whole stage
pub staged : (s : List ℕ) (u : Script) (next : ℕ) → parse_unit s ≡ ok u next → (t : State) → lower u ≡ made t → stage s ≡ with_distances t.instrs (distances_of u)
unfolding stage lowered onward
staged s u next read t e = rw (read, lowered, e, onward) (landing s u next read t e).resolves

-- 2. Bounds

pub bounded : (s : List ℕ) (u : Script) (next : ℕ) → parse_unit s ≡ ok u next → (t : State) → lower u ≡ made t → Bounded s u t
unfolding label_limit
bounded s u next read t e =
    let M : ℕ → ℕ = mark_of t in
    let w = whole M u in
    let a = agrees u t e in
    let paid = unit_paid s u next read in
    let same = listing u t e in
    let total : total_size t.instrs ≡ size_of u = ap total_size same ∙ size_total (actions_of u) ∙ w.sized a in
    let count : length t.instrs ≡ length (records_of u) = ap length same in
    record {
      total = total;
      offset = omega (arith, offset u t e, w.sized a);
      bytes = paid.size;
      size = omega (arith, paid.size, paid.bytes);
      records = omega (arith, count, w.counted a, paid.count);
      labels = labels_limit u t e;
    }

-- 3. Distances back

-- one that is far enough back to be out of range is below -32,764
in_range_law : (n : ℕ) → NotBelow (negsuc n) → in_range (negsuc n) ≡ true
unfolding NotBelow in_range
in_range_law n h = lt-ltb n 32768 (omega arith)

first_forward : (ds : List ℤ) → Backs ds → Forward (first_out ds)
unfolding Backs first_out Forward
first_forward [] h = tt
first_forward (d ∷ ds) h = go d (in_range d) refl h.0 (λ t. first_forward ds (h.1 t))
  where
    go : (d : ℤ) (b : Bool) → in_range d ≡ b → NotBelow d → (T b → Forward (first_out ds)) → Forward (cond b (first_out ds) (some d))
    go d true e h k = k tt
    go (pos n) false e h k = tt
    go (negsuc n) false e h k = true≢false (sym (in_range_law n h) ∙ e)

each_near : (ds : List ℤ) → Backs ds → all_near ds ≡ true → Each NotBelow ds
unfolding Backs all_near
each_near [] h e = tt
each_near (d ∷ ds) h e = go (in_range d) h.1 (λ k. each_near ds k) e
  where
    go : (b : Bool) → (T b → Backs ds) → (Backs ds → all_near ds ≡ true → Each NotBelow ds) → b && all_near ds ≡ true → NotBelow d × Each NotBelow ds
    go true k more e = (h.0, more (k tt) e)
    go false k more e = absurd (true≢false (sym e))

pub backward : (s : List ℕ) (u : Script) (next : ℕ) → parse_unit s ≡ ok u next → (t : State) → lower u ≡ made t → Backward u
backward s u next read t e =
    let b = (whole (mark_of t) u).backs (agrees u t e) (omega arith) in
    record { forward = first_forward (distances_of u) b; reach = each_near (distances_of u) b }

-- a distance back is that of a Jump
pub jumps_back : (u : Script) (t : State) → lower u ≡ made t → OnlyJumpsBack t.instrs (distances_of u)
jumps_back u t e = rw (listing u t e) (unit_jumps u (mark_of t) (agrees u t e))

-- 4. The sixteen bits of a distance in range stand for that distance

pub signed_word : (d : ℤ) → in_range d ≡ true → signed (word d) ≡ d
unfolding signed word in_range
signed_word (pos n) e = rw (e, signed)
signed_word (negsuc n) e =
    let lt = ltb-true n 32768 e in
    rw (le-ltb (65535 - n) 32768 (omega arith), signed) (ap negsuc (omega arith))
