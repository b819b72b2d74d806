-- WHAT IS FORESEEN of a unit is what resolving its listing gives. Assumes nothing.
use Rattle.std.proofs.Common.{◌≡◌, ℕ, suc, ◌+◌, Bool, true, false, cond, not, ltb, List, [], ◌∷◌, sym, refl, ap, ◌∙◌, arith}
use mathlib.Core.Logic.{inl, inr}
use lib.IntN.{ℤ, pos, negsuc, sub_ℕ}
use lib.Signed.{lt_z}
use mathlib.Core.Bool.{true≢false}
use borrow.Author.Tests.{ne_eqb, le-ltb, lt-ltb, ltb-true, ltb-false}
use Rattle.std.proofs.lemmas.Result.{err_from_is_err_and}
use Rattle.std.specs.Prelude.{Option, Some, None, Ok, Err, get_or}
use Rattle.std.specs.Option.{is_some}
use Rattle.std.specs.Prelude as std
use Rattle.definitions.specs.Answer.{Answer, ok, refused, Result, made, refusal, onward, checked}
use Rattle.definitions.specs.Code.{State, unmarked}
use Rattle.definitions.specs.Instr.{Instr, size}
use Rattle.definitions.specs.Read.{parse_unit}
use Rattle.definitions.specs.Resolve.{in_range, word, distance_of, resolve_field, resolve_record, resolve_records}
use Rattle.definitions.specs.Stage.{labelled, lowered, measure}
use Rattle.definitions.specs.Tag.{row_of}
use Rattle.definitions.specs.Tree.{Script}
use Rattle.instr.specs.declared.refusals.Refusal.{Refusal}
use Rattle.instr.specs.Refusals.{answer}
use Rattle.landing.specs.Landed.{Carried, CarriedIn}
use Rattle.landing.proofs.Theorem.{landing}
use Rattle.laws.proofs.Inversion.{refusal_not_made}
use Rattle.laws.proofs.Results.{onward_assoc}
use Rattle.steps.specs.declared.counters.Counters.{Counters}
use Rattle.assemble.specs.Walk.{sink_after}
use Rattle.assemble.specs.Whole.{measuring}
use Rattle.assemble.proofs.MeasureLaws.{measured_state, measured_refusal}
use Rattle.foresee.specs.Distances.{distance_if, distances_of}
use Rattle.foresee.specs.Looks.{Seen, seen_all, seen_of}
use Rattle.foresee.specs.Far.{is_far, far_of, first_found, too_far_in, first_too_far}
use Rattle.foresee.specs.declared.distances.Distances.{Distances}
use Rattle.foresee.specs.declared.far.Far.{Far}
use Rattle.foresee.specs.declared.far.FirstFar.{FirstFar}

-- 1. What is too far

past : (n : ℕ) → ltb 32767 n ≡ not (ltb n 32768)
past n = go (ltb 32767 n) refl
  where
    go : (z : Bool) → ltb 32767 n ≡ z → z ≡ not (ltb n 32768)
    go true e = let h = ltb-true 32767 n e in rw (le-ltb n 32768 (omega (arith, h)))
    go false e = let h = ltb-false 32767 n e in rw (lt-ltb n 32768 (omega (arith, h)))

pub far_none : (o : Option ℤ) → o ≡ None → false ≡ is_far o
unfolding is_far
far_none o e = rw e

pub far_back : (o : Option ℤ) (d z : ℤ) → o ≡ Some d → z ≡ d → lt_z z (negsuc 32767) ≡ true → lt_z z (negsuc 32767) ≡ is_far o
unfolding is_far in_range
far_back o d z e f h = rw (e, f) (go d (rw f at h))
  where
    go : (d : ℤ) → lt_z d (negsuc 32767) ≡ true → lt_z d (negsuc 32767) ≡ not (in_range d)
    go (pos n) h = absurd (true≢false (sym h))
    go (negsuc n) h = past n

pub far_ahead : (o : Option ℤ) (d z : ℤ) → o ≡ Some d → z ≡ d → lt_z z (negsuc 32767) ≡ false → lt_z (pos 32767) z ≡ is_far o
unfolding is_far in_range
far_ahead o d z e f h = rw (e, f) (go d (rw f at h))
  where
    go : (d : ℤ) → lt_z d (negsuc 32767) ≡ false → lt_z (pos 32767) d ≡ not (in_range d)
    go (pos n) h = past n
    go (negsuc n) h = sym h ∙ past n

-- 2. What is remembered

abbrev looks : Seen FirstFar
looks s offset number i distances = record { found = first_found s.found number distances }

pub looks_now : (f g : Option Far) (n : ℕ) (d : Distances) → is_some f ≡ false → g ≡ far_of n d → ◌≡◌ {A = FirstFar} (record { found = g }) (record { found = first_found f n d })
unfolding first_found
looks_now (Some h) g n d e f = absurd (true≢false e)
looks_now None g n d e f = rw f

-- what was found stays
pub looks_on : (s : FirstFar) (n : ℕ) (d : Distances) → is_some s.found ≡ true → s ≡ record { found = first_found s.found n d }
unfolding first_found
looks_on s n d h = ap (λ f. record { found = f }) (go s.found h)
  where
    go : (f : Option Far) → is_some f ≡ true → f ≡ first_found f n d
    go (Some f) h = refl
    go None h = absurd (true≢false (sym h))

found_stays : (marks : List ℕ) (x n : ℕ) (is : List Instr) (f : Far) → seen_all looks marks x n is (record { found = Some f }) ≡ record { found = Some f }
unfolding sink_after first_found
found_stays marks x n [] f = refl
found_stays marks x n (i ∷ is) f = found_stays marks (x + size i) (suc n) is f

-- 3. A field, a record, all records

abbrev Marked : (marks : List ℕ) → ℕ → Type 0
Marked marks l = get_or marks l unmarked ≡ unmarked → ⊥

field_told : {B : Type 0} (b : Bool) (marks : List ℕ) (x n e l : ℕ) (k : ℕ → Result B) (rest : Result B) → ((v : ℕ) → k v ≡ rest) → ((j : ℕ) → CarriedIn b j l → Marked marks j) →
    onward (resolve_field b marks x n e l) k ≡ cond (is_far (distance_if b marks x l)) (refusal 32 n e) rest
unfolding resolve_field distance_of distance_if is_far CarriedIn onward checked
field_told false marks x n e l k rest h c = h l
field_told true marks x n e l k rest h c =
    rw (ne_eqb (get_or marks l unmarked) unmarked (c l refl), checked) (go (sub_ℕ (get_or marks l unmarked) x) (in_range (sub_ℕ (get_or marks l unmarked) x)))
  where
    go : (d : ℤ) (b : Bool) → onward (checked b 32 n e (made (word d))) k ≡ cond (not b) (refusal 32 n e) rest
    go d true = h (word d)
    go d false = refl

abbrev nothing_of : {A : Type 0} → Result A → Result (Unit {0})
nothing_of r = onward r (λ a. made tt)

record_told : {B : Type 0} (marks : List ℕ) (x n : ℕ) (i : Instr) (k : Instr → Result B) (rest : Result B) → ((r : Instr) → k r ≡ rest) →
    ((j : ℕ) → CarriedIn (row_of i.tag).first j i.first → Marked marks j) → ((j : ℕ) → CarriedIn (row_of i.tag).second j i.second → Marked marks j) →
    onward (resolve_record marks x n i) k ≡ cond (is_far (distances_of marks x i).first) (refusal 32 n 0) (cond (is_far (distances_of marks x i).second) (refusal 32 n 1) rest)
unfolding resolve_record onward
record_told marks x n i k rest h c d =
    onward_assoc (resolve_field (row_of i.tag).first marks x n 0 i.first) _ k
    ∙ field_told (row_of i.tag).first marks x n 0 i.first _ _ (λ f. onward_assoc (resolve_field (row_of i.tag).second marks x n 1 i.second) _ k ∙ field_told (row_of i.tag).second marks x n 1 i.second _ rest (λ s. h _) d) c

-- what is told of a distance that is too far: 32, of its record and its operand
unfoldable told : Option Far → Result (Unit {0})
told None = made tt
told (Some f) = refusal 32 f.number f.operand

-- the first of a record, and then what comes after it
then_told : (marks : List ℕ) (x n : ℕ) (is : List Instr) (m : ℕ) (a b : Bool) →
    cond a (refusal 32 m 0) (cond b (refusal 32 m 1) (told (seen_all looks marks x n is (record { found = None })).found)) ≡
    told (seen_all looks marks x n is (record { found = cond a (Some (record { number = m; operand = 0 })) (cond b (Some (record { number = m; operand = 1 })) None) })).found
unfolding told
then_told marks x n is m true b = rw (found_stays marks x n is (record { number = m; operand = 0 })) refl
then_told marks x n is m false true = rw (found_stays marks x n is (record { number = m; operand = 1 })) refl
then_told marks x n is m false false = refl

records_told : (marks : List ℕ) (x n : ℕ) (is : List Instr) → ((j : ℕ) → Carried j is → Marked marks j) → nothing_of (resolve_records marks x n is) ≡ told (seen_all looks marks x n is (record { found = None })).found
unfolding resolve_records sink_after first_found far_of Carried onward told
records_told marks x n [] c = refl
records_told marks x n (i ∷ is) c =
    onward_assoc (resolve_record marks x n i) _ _
    ∙ record_told marks x n i _ (told (seen_all looks marks (x + size i) (suc n) is (record { found = None })).found)
    (λ r. onward_assoc (resolve_records marks (x + size i) (suc n) is) _ _ ∙ records_told marks (x + size i) (suc n) is (λ j d. c j (inr (inr d))))
    (λ j d. c j (inl d)) (λ j d. c j (inr (inl d)))
    ∙ then_told marks (x + size i) (suc n) is n (is_far (distances_of marks x i).first) (is_far (distances_of marks x i).second)

told_is : {A : Type 0} (r : Result A) (f : Option Far) → nothing_of r ≡ told f → too_far_in r ≡ f
unfolding told too_far_in onward
told_is (made a) None e = refl
told_is (made a) (Some f) e = refusal_not_made (sym e)
told_is (refusal n p x) None e = refusal_not_made e
told_is (refusal n p x) (Some f) e =
    let a : n ≡ 32 = cc in
    let b : p ≡ f.number = cc in
    let c : x ≡ f.operand = cc in
    rw (a, b, c) refl

-- 4. A unit

unit_found : (s : List ℕ) (t : State) → labelled s ≡ made t → first_too_far t ≡ (seen_all looks t.marks 0 0 t.instrs (record { found = None })).found
unfolding lowered
unit_found s t e = go (parse_unit s) refl e
  where
    go : (x : Answer Script) → parse_unit s ≡ x → lowered x ≡ made t → first_too_far t ≡ (seen_all looks t.marks 0 0 t.instrs (record { found = None })).found
    go (ok u next) i f =
        let land = landing s u next i t f in
        told_is (resolve_records t.marks 0 0 t.instrs) _ (records_told t.marks 0 0 t.instrs (λ j c z. omega (arith, (land.marked j c).2, z)))
    go (refused n p x) i f = refusal_not_made f

pub foreseen_refused : (s : List ℕ) (q : Refusal) (r : std.Result (Option Far) Refusal) → std.IsErrAnd r (λ e. e ≡ q) → measuring (Err q) ≡ measure s →
    answer r ≡ onward (labelled s) (λ t. made (first_too_far t))
unfolding answer onward
foreseen_refused s q r h e = let p = err_from_is_err_and r h in rw (p.1, p.2, measured_refusal s q e, onward)

pub foreseen_all : (s : List ℕ) (c : Counters) (look : FirstFar) → measuring (Ok c) ≡ measure s → look ≡ seen_of looks (labelled s) (record { found = None }) →
    answer (Ok look.found) ≡ onward (labelled s) (λ t. made (first_too_far t))
unfolding answer seen_of onward
foreseen_all s c look e f =
    let t = measured_state s c e in
    let k : look ≡ seen_all looks t.0.marks 0 0 t.0.instrs (record { found = None }) = f ∙ rw (t.1, seen_of) refl in
    rw (t.1, onward) (ap (λ (z : FirstFar). made z.found) k ∙ ap made (sym (unit_found s t.0 t.1)))
