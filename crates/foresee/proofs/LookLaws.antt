-- What a look is shown of a unit. Assumes nothing.
use Rattle.std.proofs.Common.{◌≡◌, ℕ, zero, suc, ◌+◌, ◌≤◌, ◌<◌, Bool, true, false, List, [], ◌∷◌, length, take, sym, refl, ap, ◌∙◌, arith, Bor}
use Rattle.std.specs.Borrow.{MutBor}
use lib.Seq.{take_at}
use lib.IntN.{ℤ, pos, ◌-ℤ◌, sub_ℕ}
use borrow.Author.Tests.{le-leb, lt-leb, le-ltb}
use Rattle.std.specs.Prelude.{Option, Some, None, Ok, Err, get_or}
use Rattle.std.specs.Prelude as std
use Rattle.std.proofs.lemmas.Result.{err_from_is_err_and}
use Rattle.definitions.specs.Answer.{Answer, ok, refused, Result, made, refusal}
use Rattle.definitions.specs.Code.{State, unmarked}
use Rattle.definitions.specs.Instr.{Instr, size}
use Rattle.definitions.specs.Read.{parse_unit}
use Rattle.definitions.specs.Stage.{labelled, lowered, Measured, measure, over}
use Rattle.definitions.specs.Tree.{Script}
use Rattle.instr.specs.declared.refusals.Refusal.{Refusal}
use Rattle.landing.proofs.Theorem.{bounded}
use Rattle.laws.proofs.Inversion.{refusal_not_made}
use Rattle.laws.proofs.Results.{made_is}
use Rattle.steps.specs.Running.{Sinks}
use Rattle.steps.specs.declared.counters.Counters.{Counters}
use Rattle.assemble.specs.Walk.{sink_after, Walked}
use Rattle.assemble.specs.Whole.{measuring}
use Rattle.assemble.proofs.MeasureLaws.{measures, measured_state, measured_refusal}
use Rattle.foresee.specs.Distances.{distance_if}
use Rattle.foresee.specs.Looks.{Seen, seen_all, seen_of, seen_within, look_lent}
use Rattle.foresee.specs.declared.looks.Looking.{Looking}

-- 1. A distance

less : (mark start : ℕ) → pos mark -ℤ pos start ≡ sub_ℕ mark start
less mark zero = rw (le-ltb mark 0 (omega arith)) (ap pos (omega arith))
less mark (suc start) = refl

pub carried : (b : Bool) (marks : List ℕ) (start label m : ℕ) (d : ℤ) → b ≡ true → m ≡ get_or marks label unmarked → d ≡ pos m -ℤ pos start → Some d ≡ distance_if b marks start label
unfolding distance_if
carried b marks start label m d e f g = rw (e, ← f) (ap {B = Option ℤ} Some (g ∙ less m start))

pub plain : (b : Bool) (marks : List ℕ) (start label : ℕ) → b ≡ false → None ≡ distance_if b marks start label
unfolding distance_if
plain b marks start label e = rw e

-- 2. The records of a unit

abbrev shows : {L : Type 0} → Seen L → Sinks (Looking L)
shows seen s offset number i = record { marks = s.marks; look = look_lent seen s.marks.now s.look offset number i }

-- the look is the one that was lent
abbrev after : {L : Type 0} → Bor (List ℕ) → MutBor L → L → Looking L
after marks b look = record { marks = marks; look = record { ref_ptr = b.ref_ptr; ghost_name = b.ghost_name; now = look } }

shown : {L : Type 0} (seen : Seen L) (marks : Bor (List ℕ)) (b : MutBor L) (x n : ℕ) (is : List Instr) → sink_after (shows seen) x n is (record { marks = marks; look = b }) ≡ after marks b (seen_all seen marks.now x n is b.now)
unfolding sink_after
shown seen marks b x n [] = refl
shown seen marks b x n (i ∷ is) = shown seen marks (look_lent seen marks.now b x n i) (x + size i) (suc n) is

module _ {L : Type 0} (seen : Seen L) (s : List ℕ) (marks : Bor (List ℕ)) (b : MutBor L) (m : List ℕ) (t : Looking L) (m' : List ℕ) where
  pub look_answers : (r : std.Result Counters Refusal) → Walked (shows seen) s (record { marks = marks; look = b }) m r t m' → measuring r ≡ measure s
  look_answers r w = measures (shows seen) s r (record { marks = marks; look = b }) m t m' w

  pub looked_by : (r : std.Result Counters Refusal) (look : L) → Walked (shows seen) s (record { marks = marks; look = b }) m r t m' → (b.ghost_name ≡ t.look.ghost_name → look ≡ t.look.now) →
      (u : State) → labelled s ≡ made u → look ≡ seen_all seen marks.now 0 0 u.instrs b.now
  unfolding Walked
  looked_by (Ok c) look w h u f =
      let k = w.gave ∙ shown seen marks b 0 0 w.state.instrs in
      h (sym (ap (λ (z : Looking L). z.look.ghost_name) k)) ∙ ap (λ (z : Looking L). z.look.now) k
      ∙ ap (λ (z : State). seen_all seen marks.now 0 0 z.instrs b.now) (made_is (sym w.whole ∙ f))
  looked_by (Err q) look w h u f = refusal_not_made (sym (sym f ∙ w))

-- 3. By a table of so many words

-- what a `?` hands on
pub handed : {x : Result Measured} (r : std.Result Counters Refusal) (q : Refusal) → std.IsErrAnd r (λ e. e ≡ q) → measuring (Err q) ≡ x → measuring r ≡ x
handed r q h e = let p = err_from_is_err_and r h in rw (p.1, p.2) e

module _ {L : Type 0} (seen : Seen L) (s : List ℕ) (look : L) where
  -- one that is refused
  pub stopped : (words : ℕ) (q : Refusal) → measuring (Err q) ≡ measure s → look ≡ seen_within words seen (labelled s) look
  unfolding seen_within
  stopped words q e = rw (measured_refusal s q e)

  -- one that has more labels
  pub unshown : (words : ℕ) (c : Counters) → measuring (Ok c) ≡ measure s → words < c.labels → look ≡ seen_within words seen (labelled s) look
  unfolding seen_within
  unshown words c e h =
      let t = measured_state s c e in
      rw (t.1, lt-leb (length t.0.marks) words (omega (arith, h, t.2)))

  -- one that has no more
  within : (words : ℕ) (t : State) → labelled s ≡ made t → length t.marks ≤ words → seen_within words seen (labelled s) look ≡ seen_all seen t.marks 0 0 t.instrs look
  unfolding seen_within
  within words t e h = rw (e, le-leb (length t.marks) words h)

  whole : (t : State) → labelled s ≡ made t → seen_of seen (labelled s) look ≡ seen_all seen t.marks 0 0 t.instrs look
  unfolding seen_of
  whole t e = rw e

  -- by the table that a walk has left
  pub shown_within : {S : Type 0} (K : Sinks S) (o o' : S) (c : Counters) (words : ℕ) (m m' table : List ℕ) (look' : L) →
      Walked K s o m (Ok c) o' m' → length m ≡ words → c.labels ≤ words → table ≡ take c.labels m' → ((t : State) → labelled s ≡ made t → look' ≡ seen_all seen table 0 0 t.instrs look) → look' ≡ seen_within words seen (labelled s) look
  unfolding Walked over
  shown_within K o o' c words m m' table look' w n h e d =
      let few : length w.state.marks ≤ words = omega (arith, h, w.labels) in
      let same : table ≡ w.state.marks = e ∙ ap (take c.labels) (w.table (omega (arith, few, n))) ∙ take_at w.state.marks _ c.labels (sym w.labels) in
      d w.state w.whole ∙ ap (λ z. seen_all seen z 0 0 w.state.instrs look) same ∙ sym (within words w.state w.whole few)

  -- 4. The whole

  pub unread : (q : Refusal) → measuring (Err q) ≡ measure s → look ≡ seen_of seen (labelled s) look
  unfolding seen_of
  unread q e = rw (measured_refusal s q e)

  pub refused_all : (words : ℕ) (q : Refusal) → measuring (Err q) ≡ measure s → seen_within words seen (labelled s) look ≡ seen_of seen (labelled s) look
  unfolding seen_within seen_of
  refused_all words q e = rw (measured_refusal s q e)

  pub few_all : (words : ℕ) (c : Counters) → measuring (Ok c) ≡ measure s → c.labels ≤ words → seen_within words seen (labelled s) look ≡ seen_of seen (labelled s) look
  few_all words c e h =
      let t = measured_state s c e in
      within words t.0 t.1 (omega (arith, h, t.2)) ∙ sym (whole t.0 t.1)

  -- no unit has more than 65,536 labels
  pub most_all : (words : ℕ) → 65536 ≤ words → seen_within words seen (labelled s) look ≡ seen_of seen (labelled s) look
  unfolding lowered seen_within seen_of
  most_all words h = go (parse_unit s) refl
    where
      go : (x : Answer Script) → parse_unit s ≡ x → seen_within words seen (lowered x) look ≡ seen_of seen (lowered x) look
      go (refused n p y) i = refl
      go (ok u next) i = on (lowered (ok u next)) refl
        where
          on : (y : Result State) → lowered (ok u next) ≡ y → seen_within words seen y look ≡ seen_of seen y look
          on (refusal n p z) j = refl
          on (made t) j = rw (le-leb (length t.marks) words (omega (arith, h, (bounded s u next i t j).labels)))

  -- by a longer table, where the first one was too short
  pub again : (first words : ℕ) (c : Counters) (look₁ look₂ : L) → measuring (Ok c) ≡ measure s → first < c.labels → look₁ ≡ seen_within first seen (labelled s) look → look₂ ≡ seen_within words seen (labelled s) look₁ →
      look₂ ≡ seen_within words seen (labelled s) look
  again first words c look₁ look₂ e h f g = g ∙ ap (seen_within words seen (labelled s)) (f ∙ sym (unshown first c e h))
