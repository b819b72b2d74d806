-- EACH UNDOES THE OTHER ON ALL IT TAKES: of what storing leaves in a buffer the way back makes the listing that was handed in, byte for byte, and the
-- other way round. For every list of bytes and whatever the lent buffers hold.
use Prim.Native.Nat.{ℕ}
use mathlib.Core.Path.{◌≡◌, refl, ap, sym, ◌∙◌}
use mathlib.Core.Bool.{Bool, true, false, cond}
use mathlib.Core.List.{List}
use native.Mathlib.Omega.{arith}
use lib.Dec.{leb}
use lib.ListN.{length, take}
use Rattle.definitions.specs.Answer.{Result, made, refusal, onward, checked}
use Rattle.definitions.specs.Instr.{Instr}
use Rattle.definitions.specs.Listing.{listing_length, listing_bytes, read_listing}
use Rattle.definitions.specs.Resolve.{fitting}
use Rattle.definitions.specs.Stage.{over, coded, unresolved, resolve_to}
use Rattle.definitions.specs.Stored.{Way, move_records, move, store, restore}
use Rattle.laws.proofs.Inversion.{impossible}
use Rattle.laws.proofs.Results.{made_is, onward_is}
use Rattle.instr.proofs.WholeLaws.{length_listing, written_is_read}
use Rattle.landing.specs.Walk.{Bytes}
use Rattle.resolve.specs.Delivered.{listing_in}
use Rattle.resolve.proofs.Listed.{checked_is_law, listing_read}
use Rattle.resolve.proofs.Delivered.{listing_front_law}
use Rattle.store.specs.Trips.{into}
use Rattle.store.proofs.Moved.{Undoes, there_back, back_there, records_moved}

-- 1. What an entry leaves

-- the records whose listing stands in the buffer
pub record Coded (r : Result (List Instr)) (n : ℕ) (out : List ℕ) : Type 0 where
  pub records : List Instr
  pub is : r ≡ made records
  pub count : length records ≡ n
  pub listing : listing_in n out ≡ listing_bytes records

pub coded_is : (r : Result (List Instr)) (o : List ℕ) (n : ℕ) (out : List ℕ) → resolve_to r o ≡ coded n out → Coded r n out
unfolding resolve_to
coded_is (made rs) o n out e =
    let c : length rs ≡ n = cc in
    let l : out ≡ over (listing_bytes rs) o = cc in
    record { records = rs; is = refl; count = c; listing = ap (λ (y : List ℕ). take (listing_length n) y) l ∙ listing_front_law rs o n c }
coded_is (refusal a p x) o n out e = impossible (cc)

pub fitting_into : (is : List Instr) (n : ℕ) (o : List ℕ) → length is ≡ n → resolve_to (fitting (length o) is) o ≡ into n (listing_bytes is) o
unfolding resolve_to into checked
fitting_into is n o e = rw (length_listing is, ← e) (go (leb (listing_length (length is)) (length o)))
  where
    go : (b : Bool) → resolve_to (checked b 20 0 0 (made is)) o ≡ cond b (coded (length is) (over (listing_bytes is) o)) (unresolved 20 0 0 o)
    go true = refl
    go false = refl

-- 2. One way, then the other

pub moved_again : (yaw : Way) (s : List ℕ) (rs is : List Instr) (space : ℕ) → read_listing s ≡ made rs → move_records yaw 0 rs ≡ made is → move yaw s space ≡ fitting space is
unfolding move onward
moved_again yaw s rs is space e f = rw (e, f)

-- the records that the way back makes of what was moved
record Again (yaw : Way) (s : List ℕ) (rs : List Instr) : Type 0 where
  records : List Instr
  count : length records ≡ length rs
  written : listing_bytes records ≡ s
  again : (space : ℕ) → move yaw (listing_bytes rs) space ≡ fitting space records

module _ {way yaw : Way} (u : Undoes way yaw) where
  moved_back : (s : List ℕ) (space : ℕ) (rs : List Instr) → Bytes s → move way s space ≡ made rs → Again yaw s rs
  unfolding move
  moved_back s space rs bytes e =
      let a = onward_is (read_listing s) _ e in
      let b = onward_is (move_records way 0 a.0) _ a.2 in
      let q : b.0 ≡ rs = made_is (checked_is_law _ 20 0 0 (made b.0) b.2) in
      let l = listing_read s a.0 bytes a.1 in
      let m = records_moved u 0 a.0 b.0 b.1 l.within l.good in
      let r = written_is_read b.0 m.0 m.1 (omega (arith, m.2, l.few)) in
      record {
        records = a.0;
        count = sym m.2 ∙ ap length q;
        written = l.written;
        again = λ space. ap (λ (y : List Instr). move yaw (listing_bytes y) space) (sym q) ∙ moved_again yaw (listing_bytes b.0) b.0 a.0 space r m.3;
      }

  undone : (s o : List ℕ) → Bytes s → (n : ℕ) (out : List ℕ) → resolve_to (move way s (length o)) o ≡ coded n out →
      (p : List ℕ) → resolve_to (move yaw (listing_in n out) (length p)) p ≡ into n s p
  undone s o bytes n out e p =
      let c = coded_is (move way s (length o)) o n out e in
      let d = moved_back s (length o) c.records bytes c.is in
      ap (λ (y : List ℕ). resolve_to (move yaw y (length p)) p) c.listing ∙ ap (λ y. resolve_to y p) (d.again (length p)) ∙ fitting_into d.records n p (d.count ∙ c.count) ∙ ap (λ (y : List ℕ). into n y p) d.written

-- 3. The theorems

pub stored_restored : (s o : List ℕ) → Bytes s → (n : ℕ) (out : List ℕ) → resolve_to (store s (length o)) o ≡ coded n out →
    (p : List ℕ) → resolve_to (restore (listing_in n out) (length p)) p ≡ into n s p
stored_restored = undone there_back

pub restored_stored : (s o : List ℕ) → Bytes s → (n : ℕ) (out : List ℕ) → resolve_to (restore s (length o)) o ≡ coded n out →
    (p : List ℕ) → resolve_to (store (listing_in n out) (length p)) p ≡ into n s p
restored_stored = undone back_there
