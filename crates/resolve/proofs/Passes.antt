-- A pass over the records of a listing, record by record, whatever is done with each: what is done so far and what is left give what all records
-- give. Assumes nothing.
use Prim.Native.Nat.{ℕ, suc, ◌+◌, ◌-◌, ◌*◌, ◌≤◌, ◌<◌}
use mathlib.Core.Path.{◌≡◌, refl, ap, sym, ◌∙◌}
use mathlib.Core.List.{List, [], ◌∷◌, ◌++◌, append_assoc, append-nil}
use native.Mathlib.Omega.{arith}
use native.Mathlib.Numerals.{add-one}
use lib.ListN.{length, get_or, take, drop, length-append, length-drop}
use lib.Seq.{take-append-add, append_snoc}
use borrow.Author.Tests.{le-leb, lt-leb}
use Rattle.std.specs.Prelude.{Ok, Err}
use Rattle.definitions.specs.Answer.{Result, made, refusal, onward, checked}
use Rattle.definitions.specs.Bytes.{bytes}
use Rattle.definitions.specs.Tag.{tag_size}
use Rattle.definitions.specs.Instr.{Instr, size, record_length, record_bytes, record_at}
use Rattle.definitions.specs.Listing.{front_length, listing_length, count_of, records_from, records_of, record_limit, read_listing, records_bytes, listing_bytes}
use Rattle.definitions.specs.Resolve.{fitting}
use Rattle.definitions.specs.Stage.{over, coded, resolve_to}
use Rattle.laws.proofs.Inversion.{refusal_not_made}
use Rattle.laws.proofs.Results.{made_is, onward_made, onward_assoc, onward_same, onward_is}
use Rattle.laws.proofs.Sizes.{size_limit}
use Rattle.instr.specs.declared.refusals.Refusal.{Refusal}
use Rattle.instr.specs.declared.refusals.Reason.TheVariants.{Room}
use Rattle.instr.specs.Refusals.{answer}
use Rattle.instr.specs.Values.{counted, front, stored}
use Rattle.instr.proofs.NumberLaws.{length_bytes}
use Rattle.instr.proofs.ListingLaws.{length_records}
use Rattle.instr.proofs.RecordLaws.{skip}
use Rattle.instr.proofs.WholeLaws.{records_snoc, Accepted, accepted, length_records_bytes, length_listing, read_is_written}
use Rattle.resolve.specs.Mapping.{Mapped, relabelled, map_record, map_records, try_records, rewrite}
use Rattle.resolve.specs.Values.{resolving}

-- 1. A listing that passed its check

pub few_records : (s : List ℕ) (n : ℕ) → answer (Ok n) ≡ counted (read_listing s) → n ≤ record_limit
few_records s n e = (accepted s n e).few

pub whole_listing : (s : List ℕ) (n : ℕ) → answer (Ok n) ≡ counted (read_listing s) → listing_length n ≡ length s
whole_listing s n e = (accepted s n e).fills

-- 2. What is done with each record: it becomes another, or it is refused

pub record Pass : Type 0 where
  pub one : (start n : ℕ) → Instr → Result Instr
  pub all : (start n : ℕ) → List Instr → Result (List Instr)
  pub none : (start n : ℕ) → all start n [] ≡ made []
  pub more : (start n : ℕ) (i : Instr) (is : List Instr) → all start n (i ∷ is) ≡ onward (one start n i) (λ r. onward (all (start + size i) (suc n) is) (λ rs. made (r ∷ rs)))

-- whether all records are passed
abbrev pub tried : Pass → List Instr → Result (Unit {0})
tried P is = onward (P.all 0 0 is) (λ rs. made tt)

-- the listing that comes of it
abbrev pub passed : Pass → (s : List ℕ) (space : ℕ) → Result (List Instr)
passed P s space = onward (read_listing s) (λ is. onward (P.all 0 0 is) (λ rs. fitting space rs))

-- 3. Records one by one

-- n records are done, and these are they; the next begins at offset `start`
pub record Gone (P : Pass) (s : List ℕ) (count n start : ℕ) (done : List Instr) : Type 0 where
  pub few : n ≤ count
  pub low : start ≤ 17 * n
  pub many : length done ≡ n
  pub goes_on : P.all 0 0 (records_of s) ≡
      onward (P.all start n (records_from (count - n) s (listing_length n))) (λ rs. made (done ++ rs))

pub gone_start : (P : Pass) (s : List ℕ) (count : ℕ) → Accepted s count → Gone P s count 0 0 []
gone_start P s count a =
    let e : count - 0 ≡ count = omega arith in
    record { few = omega arith; low = omega arith; many = refl; goes_on = rw (e, a.count) (sym (onward_made (P.all 0 0 (records_of s)))) }

records_next : (s : List ℕ) (count n at : ℕ) → n < count → records_from (count - n) s at ≡ record_at s at ∷ records_from (count - (n + 1)) s (at + record_length)
unfolding records_from
records_next s count n at h = let e : count - n ≡ suc (count - (n + 1)) = omega arith in rw e

records_none : (s : List ℕ) (count n at : ℕ) → count ≤ n → records_from (count - n) s at ≡ []
unfolding records_from
records_none s count n at h = let e : count - n ≡ 0 = omega arith in rw e

-- the record that is next
abbrev pub next_of : (s : List ℕ) (n : ℕ) → Instr
next_of s n = record_at s (listing_length n)

module _ {P : Pass} {s : List ℕ} {count n start : ℕ} {done : List Instr} (g : Gone P s count n start done) where
  module _ (h : n < count) where
    -- the whole, with the next record in front of what is left
    split : P.all 0 0 (records_of s) ≡
        onward (P.one start n (next_of s n)) (λ j. onward (P.all (start + size (next_of s n)) (suc n) (records_from (count - (n + 1)) s (listing_length n + record_length))) (λ rs. made (done ++ j ∷ rs)))
    unfolding onward
    split =
        let i = next_of s n in
        let rest = P.all (start + size i) (suc n) (records_from (count - (n + 1)) s (listing_length n + record_length)) in
        rw (g.goes_on, records_next s count n (listing_length n) h, P.more start n i (records_from (count - (n + 1)) s (listing_length n + record_length)), onward_assoc (P.one start n i))
        (onward_same (P.one start n i) _ _ (λ j _. onward_assoc rest (λ rs. made (j ∷ rs)) (λ rs. made (done ++ rs))))

    pub gone_next : (j : Instr) (z : ℕ) → made j ≡ P.one start n (next_of s n) → z ≡ tag_size (next_of s n).tag → Gone P s count (n + 1) (start + z) (done ++ (j ∷ []))
    unfolding onward size
    gone_next j z d l =
        let a : listing_length n + record_length ≡ listing_length (n + 1) = omega arith in
        let R = P.all (start + z) (n + 1) (records_from (count - (n + 1)) s (listing_length (n + 1))) in
        record {
          few = omega arith;
          low = omega (arith, g.low, size_limit (next_of s n).tag);
          many = omega (arith, length-append done (j ∷ []), g.many);
          goes_on = split ∙ rw (← d, a, ← l, ← add-one n) (onward_same R _ _ (λ rs _. ap made (sym (append_snoc done j rs))));
        }

    gone_refused : (q : Refusal) → answer {A = Instr} (Err q) ≡ P.one start n (next_of s n) → P.all 0 0 (records_of s) ≡ answer (Err q)
    unfolding answer onward
    gone_refused q d = split ∙ rw (← d)

  pub gone_end : count ≤ n → (P.all 0 0 (records_of s) ≡ made done) × (length done ≡ count)
  unfolding onward
  gone_end h = (rw (g.goes_on, records_none s count n (listing_length n) h, P.none start n, append-nil), omega (arith, g.few, g.many))

-- 4. The check of all records

module _ {P : Pass} {s : List ℕ} {count n start : ℕ} {done : List Instr} (g : Gone P s count n start done) where
  pub pass_refused : n < count → (q : Refusal) → answer {A = Instr} (Err q) ≡ P.one start n (next_of s n) → answer {A = Unit {0}} (Err q) ≡ tried P (records_of s)
  unfolding answer onward
  pass_refused h q d = rw (gone_refused g h q d)

  pub pass_end : count ≤ n → answer (Ok tt) ≡ tried P (records_of s)
  unfolding answer onward
  pass_end h = let e = gone_end g h in rw e.0

-- 5. The pass that writes

-- a number stored behind the front of a list
stored_behind : (p q : List ℕ) (at k w v : ℕ) → length p ≡ at → stored (at + k) w v (p ++ q) ≡ p ++ stored k w v q
stored_behind p q at k w v l =
    let e : at + k + w ≡ at + (k + w) = omega arith in
    rw (e, skip p q at (k + w) l, ← l, take-append-add p q k) (append_assoc p (take k q) (bytes w v ++ drop (k + w) q))

-- the first and the second of a record
put_first : (i : Instr) (r : List ℕ) (f : ℕ) → stored 2 2 f (record_bytes i ++ r) ≡ record_bytes (relabelled i f i.second) ++ r
unfolding record_bytes bytes
put_first i r f = refl

put_second : (i : Instr) (r : List ℕ) (g : ℕ) → stored 4 2 g (record_bytes i ++ r) ≡ record_bytes (relabelled i i.first g) ++ r
unfolding record_bytes bytes
put_second i r g = refl

-- n records stand behind the front of the buffer that was `o` when the pass began, and then those that are left, as they were
pub record Coding (P : Pass) (s : List ℕ) (count n start : ℕ) (o out : List ℕ) : Type 0 where
  pub done : List Instr
  pub gone : Gone P s count n start done
  pub long : length out ≡ length o
  pub wrote : out ≡ (front count ++ records_bytes done) ++ (records_bytes (records_from (count - n) s (listing_length n)) ++ drop (listing_length count) o)

over_listing : (is : List Instr) (b : List ℕ) → over (listing_bytes is) b ≡ (front (length is) ++ records_bytes is) ++ drop (listing_length (length is)) b
unfolding over listing_bytes
over_listing is b = ap (λ k. listing_bytes is ++ drop k b) (length_listing is)

regroup : (a b c d : List ℕ) → (a ++ b) ++ (c ++ d) ≡ (a ++ (b ++ c)) ++ d
regroup a b c d = simp append_assoc

spread : (a b c : List ℕ) → (a ++ b) ++ c ≡ (a ++ []) ++ (b ++ c)
spread a b c = rw (append-nil a) (append_assoc a b c)

-- a listing that was copied to the front of a buffer, before the first record
pub coding_start : (P : Pass) (s : List ℕ) (count : ℕ) → Accepted s count → ((k : ℕ) → get_or s k 0 < 256) → (o : List ℕ) → length s ≤ length o → Coding P s count 0 0 o (over s o)
unfolding over records_bytes
coding_start P s count a b o room =
    let is = records_from count s front_length in
    let all : s ++ drop (length s) o ≡ (front count ++ records_bytes is) ++ drop (listing_length count) o =
    rw (length_records count s front_length, read_is_written s count a b) at (over_listing is o) in
    let e : count - 0 ≡ count = omega arith in
    record {
      done = [];
      gone = gone_start P s count a;
      long = omega (arith, a.fills, length-append s (drop (length s) o), length-drop (length s) o);
      wrote = rw e (all ∙ spread (front count) (records_bytes is) (drop (listing_length count) o));
    }

module _ {P : Pass} {s : List ℕ} {count n start : ℕ} {o out : List ℕ} (c : Coding P s count n start o out) where
  -- what stands before the next record, and behind it
  abbrev before : List ℕ
  before = front count ++ records_bytes c.done

  abbrev behind_it : List ℕ
  behind_it = records_bytes (records_from (count - (n + 1)) s (listing_length (n + 1))) ++ drop (listing_length count) o

  before_long : length before ≡ listing_length n
  before_long = omega (arith, length-append (bytes 4 (record_length * count)) (records_bytes c.done), length_bytes 4 (record_length * count), length_records_bytes c.done, c.gone.many)

  module _ (h : n < count) where
    here : out ≡ before ++ (record_bytes (next_of s n) ++ behind_it)
    unfolding records_bytes
    here =
        let a : listing_length n + record_length ≡ listing_length (n + 1) = omega arith in
        c.wrote ∙ rw (records_next s count n (listing_length n) h, a) (ap (λ (l : List ℕ). before ++ l) (append_assoc (record_bytes (next_of s n)) (records_bytes (records_from (count - (n + 1)) s (listing_length (n + 1)))) (drop (listing_length count) o)))

    -- the next record is j, and stands in its place
    next : (j : Instr) (z : ℕ) → made j ≡ P.one start n (next_of s n) → z ≡ tag_size (next_of s n).tag →
        (out' : List ℕ) → length out' ≡ length out → out' ≡ before ++ (record_bytes j ++ behind_it) → Coding P s count (n + 1) (start + z) o out'
    next j z d l out' same w = record {
      done = c.done ++ (j ∷ []);
      gone = gone_next c.gone h j z d l;
      long = same ∙ c.long;
      wrote = w ∙ rw (records_snoc c.done j) (regroup (front count) (records_bytes c.done) (record_bytes j) behind_it);
    }

    -- it carries nothing, and nothing is stored
    pub coding_plain : (z : ℕ) → made (next_of s n) ≡ P.one start n (next_of s n) → z ≡ tag_size (next_of s n).tag → Coding P s count (n + 1) (start + z) o out
    coding_plain z d l = next (next_of s n) z d l out refl here

    -- its fields are stored
    pub coding_fields : (f e : ℕ) → made (relabelled (next_of s n) f e) ≡ P.one start n (next_of s n) → (z : ℕ) → z ≡ tag_size (next_of s n).tag →
        (out₁ out₂ : List ℕ) → length out₂ ≡ length out → out₁ ≡ stored (listing_length n + 2) 2 f out → out₂ ≡ stored (listing_length n + 4) 2 e out₁ →
        Coding P s count (n + 1) (start + z) o out₂
    coding_fields f e d z l out₁ out₂ same w v =
        let i = next_of s n in
        let j = relabelled i f i.second in
        let one : out₁ ≡ before ++ (record_bytes j ++ behind_it) =
        w ∙ rw here (stored_behind before (record_bytes i ++ behind_it) (listing_length n) 2 2 f before_long ∙ ap (λ (l : List ℕ). before ++ l) (put_first i behind_it f)) in
        let two : out₂ ≡ before ++ (record_bytes (relabelled i f e) ++ behind_it) =
        v ∙ rw one (stored_behind before (record_bytes j ++ behind_it) (listing_length n) 4 2 e before_long ∙ ap (λ (l : List ℕ). before ++ l) (put_second j behind_it e)) in
        next (relabelled i f e) z d l out₂ same two

    -- where all have been checked, it is not refused
    pub pass_never : {X : Type 0} → answer (Ok tt) ≡ tried P (records_of s) → (q : Refusal) → answer {A = Instr} (Err q) ≡ P.one start n (next_of s n) → X
    unfolding answer onward
    pass_never all q d = refusal_not_made (rw (gone_refused c.gone h q d) at (sym all))

  -- all records are done
  pub coding_end : count ≤ n → coded count out ≡ resolve_to (P.all 0 0 (records_of s)) o
  unfolding resolve_to records_bytes
  coding_end h =
      let e = gone_end c.gone h in
      let w : out ≡ (front count ++ records_bytes c.done) ++ drop (listing_length count) o = rw (records_none s count n (listing_length n) h) at c.wrote in
      rw (e.0, over_listing c.done o, e.1) (ap (coded count) w)

-- 6. What a function answers that checks a listing, then all of its records, then the room, and then writes

all_length : (P : Pass) (start k : ℕ) (is rs : List Instr) → P.all start k is ≡ made rs → length rs ≡ length is
all_length P start k [] rs e = let z : rs ≡ [] = made_is (sym e ∙ P.none start k) in rw z
all_length P start k (i ∷ is) rs e =
    let a = onward_is (P.one start k i) _ (sym (P.more start k i is) ∙ e) in
    let b = onward_is (P.all (start + size i) (suc k) is) _ a.2 in
    let z : rs ≡ a.0 ∷ b.0 = sym (made_is b.2) in
    rw z (ap suc (all_length P (start + size i) (suc k) is b.0 b.1))

refused_is : {A : Type 0} (r : Result (List Instr)) (f : List Instr → A) (q : Refusal) → answer {A = A} (Err q) ≡ onward r (λ is. made (f is)) → r ≡ answer (Err q)
unfolding answer onward
refused_is (made is) f q e = refusal_not_made e
refused_is (refusal a b c) f q e = cc

counted_refused : (r : Result (List Instr)) (q : Refusal) → answer {A = ℕ} (Err q) ≡ counted r → r ≡ answer (Err q)
unfolding answer counted
counted_refused (made is) q e = refusal_not_made e
counted_refused (refusal a b c) q e = cc

pub answer_30 : (P : Pass) (s : List ℕ) (space : ℕ) (o : List ℕ) (q : Refusal) → answer {A = ℕ} (Err q) ≡ counted (read_listing s) → resolving (Err q) o ≡ resolve_to (passed P s space) o
unfolding answer resolving resolve_to onward
answer_30 P s space o q e = rw (counted_refused (read_listing s) q e)

module _ (P : Pass) (s : List ℕ) (n : ℕ) (good : answer (Ok n) ≡ counted (read_listing s)) where
  abbrev a : Accepted s n
  a = accepted s n good

  passed_is : (space : ℕ) → passed P s space ≡ onward (P.all 0 0 (records_of s)) (fitting space)
  unfolding onward
  passed_is space = rw a.reads

  pub answer_labels : (space : ℕ) (o : List ℕ) (q : Refusal) → answer {A = Unit {0}} (Err q) ≡ tried P (records_of s) → resolving (Err q) o ≡ resolve_to (passed P s space) o
  unfolding answer resolving resolve_to onward
  answer_labels space o q e = rw (passed_is space, refused_is (P.all 0 0 (records_of s)) (λ _. tt) q e)

  module _ (e : answer (Ok tt) ≡ tried P (records_of s)) where
    -- as many as the listing has
    made_all : (rs : List Instr) × (P.all 0 0 (records_of s) ≡ made rs) × (length rs ≡ n)
    unfolding answer
    made_all =
        let c = onward_is (P.all 0 0 (records_of s)) (λ rs. made tt) (sym e) in
        (c.0, c.1, all_length P 0 0 (records_of s) c.0 c.1 ∙ length_records (count_of s) s front_length ∙ sym a.count)

    pub answer_20 : (o : List ℕ) → length o < length s → resolving (Err (record { reason = Room; place = 0; extra = 0 })) o ≡ resolve_to (passed P s (length o)) o
    unfolding resolving resolve_to onward checked
    answer_20 o h = let r = made_all in rw (passed_is (length o), r.1, r.2, lt-leb (listing_length n) (length o) (rw a.fills h))

    pub answer_done : (o out : List ℕ) → length s ≤ length o → coded n out ≡ resolve_to (P.all 0 0 (records_of s)) o → resolving (Ok n) out ≡ resolve_to (passed P s (length o)) o
    unfolding resolving onward checked
    answer_done o out h d = let r = made_all in d ∙ rw (passed_is (length o), r.1, r.2, le-leb (listing_length n) (length o) (rw a.fills h))

-- 7. The passes that map fields

pub map_none : (m : Mapped) (start n : ℕ) → map_records m start n [] ≡ made []
unfolding map_records
map_none m start n = refl

pub map_more : (m : Mapped) (start n : ℕ) (i : Instr) (is : List Instr) →
    map_records m start n (i ∷ is) ≡ onward (map_record m start n i) (λ r. onward (map_records m (start + size i) (suc n) is) (λ rs. made (r ∷ rs)))
unfolding map_records
map_more m start n i is = refl

abbrev pub mapping : Mapped → Pass
mapping m = record { one = map_record m; all = map_records m; none = map_none m; more = map_more m }

module _ (m : Mapped) {s : List ℕ} {count n start : ℕ} {done : List Instr} (g : Gone (mapping m) s count n start done) where
  pub checked_refused : n < count → (q : Refusal) → answer {A = Instr} (Err q) ≡ map_record m start n (next_of s n) → answer {A = Unit {0}} (Err q) ≡ try_records m 0 0 (records_of s)
  unfolding try_records
  checked_refused h q d = pass_refused g h q d

  pub checked_end : count ≤ n → answer (Ok tt) ≡ try_records m 0 0 (records_of s)
  unfolding try_records
  checked_end h = pass_end g h

pub coding_refused : (m : Mapped) {s : List ℕ} {count n start : ℕ} {o out : List ℕ} → Coding (mapping m) s count n start o out → n < count → {X : Type 0} →
    answer (Ok tt) ≡ try_records m 0 0 (records_of s) → (q : Refusal) → answer {A = Instr} (Err q) ≡ map_record m start n (next_of s n) → X
unfolding try_records
coding_refused m c h all q d = pass_never c h all q d

pub rewrite_30 : (m : Mapped) (s : List ℕ) (space : ℕ) (o : List ℕ) (q : Refusal) → answer {A = ℕ} (Err q) ≡ counted (read_listing s) → resolving (Err q) o ≡ resolve_to (rewrite m s space) o
unfolding rewrite
rewrite_30 m s space o q e = answer_30 (mapping m) s space o q e

module _ (m : Mapped) (s : List ℕ) (n : ℕ) (good : answer (Ok n) ≡ counted (read_listing s)) where
  pub rewrite_labels : (space : ℕ) (o : List ℕ) (q : Refusal) → answer {A = Unit {0}} (Err q) ≡ try_records m 0 0 (records_of s) → resolving (Err q) o ≡ resolve_to (rewrite m s space) o
  unfolding rewrite try_records
  rewrite_labels space o q e = answer_labels (mapping m) s n good space o q e

  module _ (e : answer (Ok tt) ≡ try_records m 0 0 (records_of s)) where
    pub rewrite_20 : (o : List ℕ) → length o < length s → resolving (Err (record { reason = Room; place = 0; extra = 0 })) o ≡ resolve_to (rewrite m s (length o)) o
    unfolding rewrite try_records
    rewrite_20 o h = answer_20 (mapping m) s n good e o h

    pub rewrite_done : (o out : List ℕ) → length s ≤ length o → coded n out ≡ resolve_to (map_records m 0 0 (records_of s)) o → resolving (Ok n) out ≡ resolve_to (rewrite m s (length o)) o
    unfolding rewrite try_records
    rewrite_done o out h d = answer_done (mapping m) s n good e o out h d
