-- One step of the walk after another. Assumes nothing.
use Rattle.std.proofs.Common.{◌≡◌, ℕ, zero, suc, ◌+◌, ◌-◌, ◌%◌, ◌^◌, ◌<◌, ◌≤◌, Bool, true, false, cond, leb, List, [], ◌∷◌, ◌++◌, length, take, drop, set, sym, refl, ap, ◌∙◌, append-nil, arith, length-drop, length-set, drop_of_length-le, take_all, drop-drop, le-ltb, lt-ltb, le-leb, leb-false, leb-true}
use borrow.Author.Tests.{lt-leb}
use borrow.Rule.Slice.PartMut.{put_mid}
use Rattle.std.specs.Prelude as std
use Rattle.definitions.specs.Tag.{tag_size, row_of, WeakRefToRef, Nop}
use Rattle.definitions.specs.Instr.{Instr, record_length, size, plain}
use Rattle.definitions.specs.Listing.{listing_length}
use Rattle.definitions.specs.Code.{Code, done, ◌then◌, label, Action, mark, new, emit, refuse, label_limit, act}
use Rattle.definitions.specs.Lower.{require, jump_to, jump, instr, weak_to_ref, nops}
use Rattle.instr.specs.Values.{written, row_marks}
use Rattle.instr.specs.declared.tables.Row.{Row}
use Rattle.instr.proofs.TableLaws.{uses, uses_mark}
use Rattle.definitions.specs.Answer.{onward, checked}
use Rattle.laws.proofs.Sizes.{size_is}
use Rattle.laws.proofs.Results.{onward_assoc, onward_made, onward_same}
use Rattle.instr.specs.declared.refusals.Reason as reasons
use Rattle.instr.specs.declared.refusals.Reason.TheVariants as reason
use Rattle.instr.specs.declared.refusals.Refusal.{Refusal}
use Rattle.instr.specs.Refusals.{number_of}
use Rattle.std.proofs.lemmas.Result.{err_from_is_err_and}
use Rattle.steps.specs.Running.{Sinks, Cells, cut, put, set_made, move, run, Note, noted}
use Rattle.steps.specs.Counting.{emitted_of, labelled_of, unmarked_at, marked_at}
use Rattle.steps.specs.Walked.{group_label, open_code, mark_if, Made, Opened, MarksIf, after, ran, labels_of, target_of, checked_as, JumpsTo, Ran, Emits, EmittedFrom, LabelledFrom, LeftFrom, Left, Walk}
use Rattle.steps.specs.declared.counters.Counters.{Counters}
use Rattle.steps.proofs.SinkLaws.{map_cells, carried, pour, from_notes, anywhere}

-- 1. Single steps

-- a walk that has stopped does nothing
pub stays : {S : Type 0} {K : Sinks S} (code : Code) (w : Walk) (o : S) (m : List ℕ) (n : _) → w ≡ std.Err n → Ran K code w o m w o m
unfolding ran onward
stays code w o m n e = rw e (record { same = refl; marked = refl })

pub emit_stays : {S : Type 0} {K : Sinks S} (code : Code) (w : Walk) (o : S) (n : _) → w ≡ std.Err n → EmittedFrom K code w o w o
emit_stays code w o n e = record { did = λ m. stays code w o m n e }

pub label_stays : (code : Code) (w : Walk) (m : List ℕ) (n : _) → w ≡ std.Err n → LabelledFrom code w m w m
label_stays code w m n e = record { did = stays code w [] m n e }

abbrev cells : {S : Type 0} → Counters → S → List ℕ → Cells S
cells k o m = record { offset = k.offset; labels = k.labels; count = k.count; sink = o; marks = m }

-- an action, of a walk that is going
acts : {S : Type 0} {K : Sinks S} (a : Action) (w : Walk) (k : Counters) (o : S) (m : List ℕ) (r : Walk) (o' : S) (m' : List ℕ) → w ≡ std.Ok k →
    ran r o' m' ≡ move K a (cells k o m) → length m' ≡ length m → Ran K (act a) w o m r o' m'
unfolding ran onward run
acts a w k o m r o' m' e q v = rw e (record { same = q; marked = v })

-- nothing was to be done
pub nothing : {S : Type 0} {K : Sinks S} {w : Walk} {o : S} {m : List ℕ} → Ran K done w o m w o m
unfolding run
nothing {w = w} {o = o} {m = m} = record { same = sym (onward_made (ran w o m)); marked = refl }

pub mark_did : (k : Counters) (m : List ℕ) (l : ℕ) (m' : List ℕ) → m' ≡ marked_at k l m → length m' ≡ length m → LabelledFrom (act (mark l)) (std.Ok k) m (std.Ok k) m'
unfolding ran move
mark_did k m l m' q u = record { did = acts _ _ k [] m (std.Ok k) [] m' refl (rw q) u }

-- below the limit the sum is the definition's
pub new_made : (at : ℕ) (k d : Counters) (m m' : List ℕ) → k.labels < 65536 → d ≡ labelled_of k → m' ≡ unmarked_at k m → Made at k m (std.Ok k.labels) d m'
unfolding ran move label_limit checked
new_made at k d m m' h f q =
    let n : (k.labels + 1) % 2 ^ 32 ≡ k.labels + 1 = omega arith in
    record {
      did = record { did = acts _ _ k [] m _ [] m' refl (rw (f, q, n, move, lt-ltb k.labels 65536 h, checked)) (ap length q ∙ simp length-set) };
      number = refl;
      few = h;
    }

pub new_refused : (at : ℕ) (k : Counters) (m : List ℕ) → 65536 ≤ k.labels → Made at k m (std.Err (record { reason = reason.Labels; place = at; extra = 0 })) k m
unfolding ran move label_limit checked
new_refused at k m h = record { did = record { did = acts _ _ k [] m _ [] m refl (rw (move, le-ltb k.labels 65536 h, checked)) refl }; number = tt; few = tt }

-- the label of a group that is open, and of one that is not
pub group_open : (group : std.Option ℕ) (at : ℕ) (k : Counters) (m : List ℕ) (l : ℕ) → group ≡ std.Some l → Opened group at k m (std.Ok l) k m
unfolding open_code group_label
group_open group at k m l e = rw e (record { did = record { did = nothing }; number = refl })

pub group_opened : (group : std.Option ℕ) (at : ℕ) (k : Counters) (m : List ℕ) (r : std.Result ℕ _) (d : Counters) (m' : List ℕ) → group ≡ std.None → Made at k m r d m' → Opened group at k m r d m'
unfolding open_code group_label labels_of
group_opened group at k m r d m' e a = rw e (record { did = a.did; number = a.number })

-- a mark, where it is to be made
pub marks_some : (here l : ℕ) (k : Counters) (m m' : List ℕ) → (here ≡ 0 → ⊥) → m' ≡ marked_at k l m → length m' ≡ length m → MarksIf here l k m m'
unfolding mark_if
marks_some zero l k m m' h q u = absurd (h refl)
marks_some (suc n) l k m m' h q u = mark_did k m l m' q u

pub marks_none : (here l : ℕ) (k : Counters) (m : List ℕ) → here ≡ 0 → MarksIf here l k m m
unfolding mark_if
marks_none here l k m e = rw e (record { did = nothing })

pub refuse_did : (k : Counters) (r : reasons.Reason) (p x : ℕ) → LeftFrom (act (refuse (number_of r) p x)) (std.Ok k) (std.Err (record { reason = r; place = p; extra = x }))
unfolding ran move
refuse_did k r p x = record { did = λ m. acts _ _ k [] m _ [] m refl refl refl }

-- the counters and the sink after a record
pub emitted_is : (k : Counters) (i : Instr) (size offset count : ℕ) → size ≡ tag_size i.tag → offset ≡ (k.offset + size) % 2 ^ 32 → count ≡ (k.count + 1) % 2 ^ 32 →
    record { offset = offset; labels = k.labels; count = count } ≡ emitted_of k i
emitted_is k i size offset count g h n = rw (h, n, g, size_is i)

pub given_is : {S : Type 0} (K : Sinks S) {o o' : S} {x n : ℕ} (i : Instr) {j : Instr} → j ≡ cut i → o' ≡ K o x n j → o' ≡ K o x n (cut i)
given_is K i q p = rw (p, q)

-- an emitted record, by another name
pub emit_did : {S : Type 0} {K : Sinks S} (i : Instr) {k d : Counters} {o o' : S} {j : Instr} → (d ≡ emitted_of k j) × (o' ≡ K o k.offset k.count (cut j)) → j ≡ i → EmittedFrom K (act (emit i)) (std.Ok k) o (std.Ok d) o'
unfolding ran move
emit_did i {k = k} {d = d} {o = o} {o' = o'} {j = j} h e = record { did = λ m. acts _ _ k o m _ o' m refl (rw (h.0, h.1, e)) refl }

take_drop_all : (n : ℕ) (l : List ℕ) → take n l ++ drop n l ≡ l
take_drop_all zero l = refl
take_drop_all (suc n) [] = refl
take_drop_all (suc n) (x ∷ l) = ap (λ r. x ∷ r) (take_drop_all n l)

-- a record, where it fits and where it does not
pub put_out : (o : List ℕ) (k : ℕ) (i : Instr) → length o < listing_length k → o ≡ put o k i
unfolding put
put_out o k i h = rw (put, lt-leb (listing_length (k + 1)) (length o) (omega arith))

pub put_in : (o : List ℕ) (k : ℕ) (i : Instr) (p : List ℕ) → listing_length k ≤ length o → p ≡ written i (take (length o - listing_length k) (drop (listing_length k) o)) →
    put_mid (listing_length k) (length o - listing_length k) o p ≡ put o k i
unfolding put written
put_in o k i p h e =
    let all : take (length o - listing_length k) (drop (listing_length k) o) ≡ drop (listing_length k) o = take_all (length o - listing_length k) (drop (listing_length k) o) (simp length-drop (omega arith)) in
    let none : drop (length o - listing_length k) (drop (listing_length k) o) ≡ [] = drop_of_length-le (drop (listing_length k) o) {i = length o - listing_length k} (simp length-drop (omega arith)) in
    let long : length (drop (listing_length k) o) ≡ length o - listing_length k = simp length-drop in
    go (leb (listing_length (k + 1)) (length o)) refl (rw all at e) none long
  where
    go : (b : Bool) → leb (listing_length (k + 1)) (length o) ≡ b → p ≡ written i (drop (listing_length k) o) → drop (length o - listing_length k) (drop (listing_length k) o) ≡ [] → length (drop (listing_length k) o) ≡ length o - listing_length k
        → take (listing_length k) o ++ (p ++ drop (length o - listing_length k) (drop (listing_length k) o)) ≡ put o k i
    go true f q none long =
        let z : record_length ≤ length (drop (listing_length k) o) = omega (arith, long, leb-true (listing_length (k + 1)) (length o) f) in
        let w : listing_length k + record_length ≡ listing_length (k + 1) = omega arith in
        let v : drop record_length (drop (listing_length k) o) ≡ drop (listing_length (k + 1)) o = drop-drop record_length (listing_length k) o ∙ ap (λ x. drop x o) w in
        rw (none, append-nil p, put, f, q, written, le-leb record_length (length (drop (listing_length k) o)) z, v)
    go false f q none long =
        let z : length (drop (listing_length k) o) < record_length = omega (arith, long, leb-false (listing_length (k + 1)) (length o) f) in
        rw (none, append-nil p, put, f, q, written, lt-leb record_length (length (drop (listing_length k) o)) z) (take_drop_all (listing_length k) o)

-- 2. Steps in a row

-- the same code by another name
pub recode : {S : Type 0} {K : Sinks S} {code code' : Code} {w : Walk} {o : S} {m : List ℕ} {r : Walk} {o' : S} {m' : List ℕ} → code' ≡ code → Ran K code w o m r o' m' → Ran K code' w o m r o' m'
recode e d = record { same = rw e d.same; marked = d.marked }

-- a piece after another
pub both : {S : Type 0} {K : Sinks S} {p q : Code} {w : Walk} {o : S} {m : List ℕ} {r : Walk} {o' : S} {m' : List ℕ} {z : Walk} {o'' : S} {m'' : List ℕ} →
    Ran K p w o m r o' m' → Ran K q r o' m' z o'' m'' → Ran K (p then q) w o m z o'' m''
unfolding run
both {K = K} {p = p} {q = q} {w = w} {o = o} {m = m} a b = record {
  same = b.same ∙ ap (λ x. onward x (run K q)) a.same ∙ onward_assoc (ran w o m) (run K p) (run K q);
  marked = b.marked ∙ a.marked;
}

pub fresh_same : {S : Type 0} (K : Sinks S) (at : ℕ) (k : ℕ → Code) (w : Walk) (o : S) (m : List ℕ) (l : ℕ) → l ≡ labels_of w →
    onward (onward (ran w o m) (run K (act (new at)))) (run K (k l)) ≡ onward (ran w o m) (run K (label at k))
unfolding ran onward labels_of run
fresh_same K at k (std.Ok c) o m l e = rw e
fresh_same K at k (std.Err q) o m l e = refl

-- a fresh label, and the code that has it
pub fresh : {S : Type 0} {K : Sinks S} (at : ℕ) (k : ℕ → Code) {w : Walk} {o : S} {m : List ℕ} {l : ℕ} {w₁ : Walk} {o₁ : S} {m₁ : List ℕ} {w₂ : Walk} {o₂ : S} {m₂ : List ℕ} →
    l ≡ labels_of w → Ran K (act (new at)) w o m w₁ o₁ m₁ → Ran K (k l) w₁ o₁ m₁ w₂ o₂ m₂ → Ran K (label at k) w o m w₂ o₂ m₂
fresh {K = K} at k {w = w} {o = o} {m = m} {l = l} e a b = record {
  same = b.same ∙ ap (λ x. onward x (run K (k l))) a.same ∙ fresh_same K at k w o m l e;
  marked = b.marked ∙ a.marked;
}

-- a refusal, and the code after it
pub halt : {S : Type 0} {K : Sinks S} {p : Code} {w : Walk} {o : S} {m : List ℕ} {e : Refusal} {o' : S} {m' : List ℕ} → Ran K p w o m (std.Err e) o' m' → (q : Code) → Ran K (p then q) w o m (std.Err e) o' m'
halt d q = both d (stays q (std.Err _) _ _ _ refl)

pub fresh_halt : {S : Type 0} {K : Sinks S} (at : ℕ) (k : ℕ → Code) {w : Walk} {o : S} {m : List ℕ} {e : Refusal} {o' : S} {m' : List ℕ} → Ran K (act (new at)) w o m (std.Err e) o' m' → Ran K (label at k) w o m (std.Err e) o' m'
fresh_halt at k {w = w} d = fresh at k {w = w} refl d (stays (k (labels_of w)) (std.Err _) _ _ _ refl)

pub left : {S : Type 0} {K : Sinks S} {code : Code} {w r : Walk} {o : S} {m : List ℕ} → LeftFrom code w r → Ran K code w o m r o m
left d = anywhere (d.did _)

pub emitted : {S : Type 0} {K : Sinks S} {code : Code} {w r : Walk} {o o' : S} {m : List ℕ} → EmittedFrom K code w o r o' → Ran K code w o m r o' m
emitted d = d.did _

pub labelled : {S : Type 0} {K : Sinks S} {code : Code} {w r : Walk} {o : S} {m m' : List ℕ} → LabelledFrom code w m r m' → Ran K code w o m r o m'
labelled d = anywhere d.did

-- a label that is made, and the code that has it; or that is refused
pub made : {S : Type 0} {K : Sinks S} (at : ℕ) (k : ℕ → Code) {c : Counters} {o : S} {m : List ℕ} {l : ℕ} {d : Counters} {m₁ : List ℕ} {w₂ : Walk} {o₂ : S} {m₂ : List ℕ} →
    Made at c m (std.Ok l) d m₁ → Ran K (k l) (std.Ok d) o m₁ w₂ o₂ m₂ → Ran K (label at k) (std.Ok c) o m w₂ o₂ m₂
unfolding labels_of
made at k a b = fresh at k a.number (labelled a.did) b

pub unmade : {S : Type 0} {K : Sinks S} (at : ℕ) (k : ℕ → Code) {c : Counters} {o : S} {m : List ℕ} {e : Refusal} {d : Counters} {m₁ : List ℕ} → Made at c m (std.Err e) d m₁ → Ran K (label at k) (std.Ok c) o m (std.Err e) o m₁
unmade at k a = fresh_halt at k (labelled a.did)

pub numbered : {l : ℕ} (c : Counters) → l ≡ c.labels → l ≡ labels_of (std.Ok c)
unfolding labels_of
numbered c e = e

-- a label that lands
pub marked : {S : Type 0} {K : Sinks S} {k : Counters} {o : S} {m : List ℕ} {l : ℕ} {m' : List ℕ} → m' ≡ marked_at k l m → length m' ≡ length m → Ran K (act (mark l)) (std.Ok k) o m (std.Ok k) o m'
marked q u = labelled (mark_did _ _ _ _ q u)

-- what a `?` hands on, with whatever counters
module _ {A : Type 0} (r : std.Result A Refusal) (q : Refusal) (h : std.IsErrAnd r (λ e. e ≡ q)) (k : Counters) where
  handed : after r k ≡ std.Err q
  handed = let p = err_from_is_err_and r h in rw (p.1, p.2)

  pub exit : {S : Type 0} {K : Sinks S} {code : Code} {w : Walk} {o : S} {m : List ℕ} {o' : S} {m' : List ℕ} → Ran K code w o m (std.Err q) o' m' → Ran K code w o m (after r k) o' m'
  exit d = rw handed d

  pub emit_exit : {S : Type 0} {K : Sinks S} {code : Code} {w : Walk} {o : S} {o' : S} → EmittedFrom K code w o (std.Err q) o' → EmittedFrom K code w o (after r k) o'
  emit_exit d = rw handed d

  pub label_exit : {code : Code} {w : Walk} {m : List ℕ} {m' : List ℕ} → LabelledFrom code w m (std.Err q) m' → LabelledFrom code w m (after r k) m'
  label_exit d = rw handed d

  pub left_exit : {code : Code} {w : Walk} → LeftFrom code w (std.Err q) → LeftFrom code w (after r k)
  left_exit d = rw handed d

-- a check
pub require_passed : (w : Walk) (b : Bool) (n p x : ℕ) → b ≡ true → LeftFrom (require b n p x) w w
unfolding require
require_passed w b n p x e = rw e (record { did = λ m. nothing })

pub require_failed : (w r : Walk) (b : Bool) (n p x : ℕ) → b ≡ false → LeftFrom (act (refuse n p x)) w r → LeftFrom (require b n p x) w r
unfolding require
require_failed w r b n p x e d = rw e d

-- as the definition's code has it
pub required : (b : Bool) (m : reasons.Reason) (p x : ℕ) (q : Refusal) (r : std.Result (Unit {0}) Refusal) → q ≡ record { reason = m; place = p; extra = x } → r ≡ checked_as b q → Left (require b (number_of m) p x) r
unfolding checked_as
required true m p x q r h e = λ k. rw e (require_passed (std.Ok k) true (number_of m) p x refl)
required false m p x q r h e = λ k. rw (e, h) (require_failed (std.Ok k) _ false (number_of m) p x refl (refuse_did k m p x))

-- a jump to a label, and the refusal where there is none
pub jump_did : {S : Type 0} {K : Sinks S} {w : Walk} {o : S} {r : Walk} {o' : S} (number at : ℕ) (t : std.Option ℕ) (l : ℕ) → t ≡ std.Some l → EmittedFrom K (jump at 0x1F l) w o r o' → EmittedFrom K (jump_to number at (target_of t)) w o r o'
unfolding jump_to target_of
jump_did number at t l e d = rw e d

pub no_jump : {S : Type 0} {K : Sinks S} {w r : Walk} (o : S) (number at : ℕ) (t : std.Option ℕ) → t ≡ std.None → LeftFrom (act (refuse number at 0)) w r → EmittedFrom K (jump_to number at (target_of t)) w o r o
unfolding jump_to target_of
no_jump o number at t e d = rw e (record { did = λ m. left d })

-- a jump to a target, as the definition's code has it
pub jumps_to : {S : Type 0} {K : Sinks S} (c c' : Counters) (o o' : S) (at : ℕ) (t : std.Option ℕ) (m : reasons.Reason) (q : Refusal) (r : std.Result (Unit {0}) Refusal) → q ≡ record { reason = m; place = at; extra = 0 } → JumpsTo K at t q c o r c' o' → Emits K (jump_to (number_of m) at (target_of t)) c o r c' o'
unfolding JumpsTo
jumps_to c c' o o' at std.None m q r e d = rw (d.0, d.2, e) (no_jump o _ at std.None refl (refuse_did c m at 0))
jumps_to c c' o o' at (std.Some l) m q r e d = rw d.0 (jump_did _ at (std.Some l) l refl d.1)

pub set_out : (m : List ℕ) (l v : ℕ) → length m ≤ l → set m l v ≡ m
set_out [] l v h = refl
set_out (x ∷ m) zero v h = absurd (omega arith)
set_out (x ∷ m) (suc l) v h = ap (λ r. x ∷ r) (set_out m l v (omega arith))

-- leaves

pub weak_none : {S : Type 0} {K : Sinks S} (at n : ℕ) (w : Walk) (o : S) → n ≡ 0 → EmittedFrom K (weak_to_ref at n) w o w o
unfolding weak_to_ref
weak_none at n w o e = rw e (record { did = λ m. nothing })

pub weak_some : {S : Type 0} {K : Sinks S} {w r : Walk} {o o' : S} (at n : ℕ) → (n ≡ 0 → ⊥) → EmittedFrom K (instr at WeakRefToRef 0) w o r o' → EmittedFrom K (weak_to_ref at n) w o r o'
unfolding weak_to_ref
weak_some at zero h d = absurd (h refl)
weak_some at (suc n) h d = d

pub plain_is : (at t n v m x : ℕ) (row : Row) → row ≡ row_marks (row_of t) → m ≡ cond (uses row.small) n 0 → x ≡ cond (uses row.value) v 0 →
    ◌≡◌ {A = Instr} (record { tag = t; small = m; first = 0; second = 0; line = 0; flags = 0; value = x; node = at }) (plain at t n v)
plain_is at t n v m x row e f g =
    let r = row_of t in
    rw (f, g, e, uses_mark r.small 255 (omega arith), uses_mark r.value 18446744073709551615 (omega arith))

pub emitted_both : {S : Type 0} {K : Sinks S} {p q : Code} {w r z : Walk} {o o' o'' : S} → EmittedFrom K p w o r o' → EmittedFrom K q r o' z o'' → EmittedFrom K (p then q) w o z o''
emitted_both a b = record { did = λ m. both (a.did m) (b.did m) }

-- two records that are cut alike, of the same size, are emitted alike
alike : {S : Type 0} (K : Sinks S) (i j : Instr) (w : Walk) (o : S) (m : List ℕ) → cut j ≡ cut i → tag_size j.tag ≡ tag_size i.tag → onward (ran w o m) (run K (act (emit j))) ≡ onward (ran w o m) (run K (act (emit i)))
unfolding ran onward run move
alike K i j (std.Ok c) o m e f = rw (e, size_is j, size_is i, f)
alike K i j (std.Err q) o m e f = refl

pub emit_alike : {S : Type 0} {K : Sinks S} {i j : Instr} {w r : Walk} {o o' : S} → cut j ≡ cut i → tag_size j.tag ≡ tag_size i.tag → EmittedFrom K (act (emit j)) w o r o' → EmittedFrom K (act (emit i)) w o r o'
emit_alike {K = K} {i = i} {j = j} {w = w} {o = o} e f d = record { did = λ m. record { same = (d.did m).same ∙ alike K i j w o m e f; marked = (d.did m).marked } }

-- groups

-- NopsFrom

-- `left` of n are left
pub record NopsRest {S : Type 0} (K : Sinks S) (at n : ℕ) (w : Walk) (o : S) (left : ℕ) (v : Walk) (o' : S) : Type 0 where
  pub goes : (ps : List ℕ) → length ps ≡ n → (qs : List ℕ) × (length qs ≡ left) × ((m : List ℕ) → onward (ran v o' m) (run K (nops at qs)) ≡ onward (ran w o m) (run K (nops at ps)))

nops_on : {S : Type 0} {K : Sinks S} (at left : ℕ) (v z : Walk) (o o' : S) (qs : List ℕ) → 0 < left → length qs ≡ left → EmittedFrom K (instr at Nop 0) v o z o' →
    (rs : List ℕ) × (length rs ≡ left - 1) × ((m : List ℕ) → onward (ran z o' m) (run K (nops at rs)) ≡ onward (ran v o m) (run K (nops at qs)))
unfolding nops run
nops_on {K = K} at left v z o o' [] h e d = absurd (omega (arith, e))
nops_on {K = K} at left v z o o' (q ∷ rs) h e d =
    (rs, omega (arith, e), λ m. ap (λ x. onward x (run K (nops at rs))) (d.did m).same ∙ onward_assoc (ran v o m) (run K (instr at Nop 0)) (run K (nops at rs)))

pub nops_next : {S : Type 0} {K : Sinks S} {at n : ℕ} {w : Walk} {o : S} {left : ℕ} {v z : Walk} {o₁ o₂ : S} → NopsRest K at n w o left v o₁ → 0 < left → EmittedFrom K (instr at Nop 0) v o₁ z o₂ → NopsRest K at n w o (left - 1) z o₂
nops_next {at = at} {left = left} {v = v} {z = z} {o₁ = o₁} {o₂ = o₂} r h d = record {
  goes = λ ps e. let k = r.goes ps e in let j = nops_on at left v z o₁ o₂ k.0 h k.1 d in (j.0, j.1, λ m. j.2 m ∙ k.2 m);
}

no_nops : (at : ℕ) (qs : List ℕ) → length qs ≡ 0 → nops at qs ≡ done
unfolding nops
no_nops at [] e = refl
no_nops at (q ∷ qs) e = absurd (omega (arith, e))

pub nops_end : {S : Type 0} {K : Sinks S} {at n : ℕ} {w : Walk} {o : S} {left : ℕ} {v : Walk} {o₁ : S} → NopsRest K at n w o left v o₁ → left ≤ 0 → (ps : List ℕ) → length ps ≡ n → EmittedFrom K (nops at ps) w o v o₁
unfolding run
nops_end {K = K} {at = at} {v = v} {o₁ = o₁} r h ps e = record {
  did = λ m. let k = r.goes ps e in
      let z : nops at k.0 ≡ done = no_nops at k.0 (omega (arith, k.1)) in
      let y : onward (ran v o₁ m) (run K done) ≡ onward _ (run K (nops at ps)) = ap (λ c. onward (ran v o₁ m) (run K c)) (sym z) ∙ k.2 m in
      record { same = sym (onward_made (ran v o₁ m)) ∙ y; marked = refl };
}

pub made_set : (m : List ℕ) (l v n : ℕ) {m' : List ℕ} → l < n → m' ≡ set m l v → m' ≡ set_made m l v n
unfolding set_made
made_set m l v n h e = rw (lt-ltb l n h) e

pub made_not : (m : List ℕ) (l v n : ℕ) → n ≤ l → m ≡ set_made m l v n
unfolding set_made
made_not m l v n h = rw (le-ltb l n h)

pub none_emitted : {S : Type 0} {K : Sinks S} {w : Walk} {o : S} → EmittedFrom K done w o w o
none_emitted = record { did = λ m. nothing }

-- 3. Codes that run alike: into a sink that notes, and so into any

pub record SameRun (p q : Code) : Type 0 where
  pub alike : (c : Cells (List Note)) → run noted p c ≡ run noted q c

pub same_assoc : (p q r : Code) → SameRun (p then (q then r)) ((p then q) then r)
unfolding run
same_assoc p q r = record { alike = λ c. sym (onward_assoc (run noted p c) (run noted q) (run noted r)) }

pub same_right : (p : Code) {q q' : Code} → SameRun q q' → SameRun (p then q) (p then q')
unfolding run
same_right p {q} {q'} h = record { alike = λ c. onward_same (run noted p c) (run noted q) (run noted q') (λ a _. h.alike a) }

pub same_left : {p p' : Code} → SameRun p p' → (q : Code) → SameRun (p then q) (p' then q)
unfolding run
same_left h q = record { alike = λ c. ap (λ x. onward x (run noted q)) (h.alike c) }

pub same_on : {p q r : Code} → SameRun p q → SameRun q r → SameRun p r
same_on a b = record { alike = λ c. a.alike c ∙ b.alike c }

pub same_back : {p q : Code} → SameRun p q → SameRun q p
same_back a = record { alike = λ c. sym (a.alike c) }

pub same_code : {p q : Code} → p ≡ q → SameRun p q
same_code e = record { alike = λ c. ap (λ x. run noted x c) e }

pub same_done : (p : Code) → SameRun p (done then p)
unfolding run onward
same_done p = record { alike = λ c. refl }

pub same_end : (p : Code) → SameRun (p then done) p
unfolding run
same_end p = record { alike = λ c. onward_made (run noted p c) }

-- into any sink
pub same_any : {S : Type 0} (K : Sinks S) {p q : Code} → SameRun p q → (c : Cells S) → run K p c ≡ run K q c
unfolding run pour
same_any K {p} {q} h c =
    let z = from_notes K c.sink p (map_cells (λ _. []) c) in
    let y = from_notes K c.sink q (map_cells (λ _. []) c) in
    z ∙ ap (λ x. onward x (carried (pour K c.sink))) (h.alike (map_cells (λ _. []) c)) ∙ sym y

pub rerun : {S : Type 0} {K : Sinks S} {p q : Code} {w : Walk} {o : S} {m : List ℕ} {r : Walk} {o' : S} {m' : List ℕ} → SameRun p q → Ran K p w o m r o' m' → Ran K q w o m r o' m'
rerun {K = K} {p = p} {q = q} {w = w} {o = o} {m = m} h d = record { same = d.same ∙ onward_same (ran w o m) (run K p) (run K q) (λ c _. same_any K h c); marked = d.marked }
