-- What `measure` answers, and what that says of a unit. Assumes nothing.
use Prim.Native.Nat.{ℕ}
use mathlib.Core.Path.{◌≡◌, refl, sym, ap, ◌∙◌}
use mathlib.Core.List.{List}
use lib.ListN.{length}
use Rattle.std.specs.Prelude.{Ok, Err}
use Rattle.std.specs.Prelude as std
use Rattle.definitions.specs.Answer.{Answer, ok, refused, Result, made, refusal, onward}
use Rattle.definitions.specs.Code.{State}
use Rattle.definitions.specs.Read.{parse_unit}
use Rattle.definitions.specs.Stage.{labelled, lowered, Measured, measure}
use Rattle.definitions.specs.Tree.{Script}
use Rattle.instr.specs.declared.refusals.Refusal.{Refusal}
use Rattle.instr.specs.Refusals.{number_of}
use Rattle.ir.specs.Verdict.{unit_answer, map_value}
use Rattle.ir.specs.declared.ReadUnit.{ReadUnit}
use Rattle.laws.proofs.Inversion.{refusal_not_made}
use Rattle.laws.proofs.Results.{made_is, onward_is}
use Rattle.steps.specs.Running.{Sinks}
use Rattle.steps.specs.Walked.{Accepted}
use Rattle.steps.specs.declared.counters.Counters.{Counters}
use Rattle.assemble.specs.Walk.{Walked}
use Rattle.assemble.specs.Whole.{measuring}

-- 1. What the reader says of a unit

pub read_accepted : (s : List ℕ) (u : ReadUnit) → unit_answer (Ok u) ≡ map_value (λ script. script.returns) (parse_unit s) → Accepted (parse_unit s)
read_accepted s u e = go (parse_unit s) e
  where
    go : (x : Answer Script) → unit_answer (Ok u) ≡ map_value (λ script. script.returns) x → Accepted x
    go (ok v k) f = (v, k, refl)
    go (refused k p x) f = absurd (cc)

pub read_refused : (s : List ℕ) (q : Refusal) → unit_answer (Err q) ≡ map_value (λ script. script.returns) (parse_unit s) → measuring (Err q) ≡ measure s
unfolding measuring measure lowered onward
read_refused s q e = go (parse_unit s) e
  where
    go : (x : Answer Script) → unit_answer (Err q) ≡ map_value (λ script. script.returns) x →
        measuring (Err q) ≡ onward (lowered x) (λ l. made (record { offset = l.offset; labels = length l.marks; count = length l.instrs }))
    go (ok v k) f = absurd (cc)
    go (refused k p x) f = cc

-- 2. What a walk says

measured_as : {a b c x y z : ℕ} → a ≡ x → b ≡ y → c ≡ z → ◌≡◌ {A = Result Measured} (made (record { offset = a; labels = b; count = c })) (made (record { offset = x; labels = y; count = z }))
measured_as e f g = rw (e, f, g)

measured_is : (s : List ℕ) (t : State) → labelled s ≡ made t → measure s ≡ made (record { offset = t.offset; labels = length t.marks; count = length t.instrs })
unfolding measure onward
measured_is s t e = rw (e, onward)

pub measures : {S : Type 0} (K : Sinks S) (s : List ℕ) (r : std.Result Counters Refusal) (o : S) (m : List ℕ) (o' : S) (m' : List ℕ) → Walked K s o m r o' m' → measuring r ≡ measure s
unfolding Walked measuring measure onward
measures K s (Ok c) o m o' m' w = measured_as w.offset w.labels w.count ∙ sym (measured_is s w.state w.whole)
measures K s (Err q) o m o' m' w = rw (w, onward)

-- 3. What a measure says

pub measured_state : (s : List ℕ) (c : Counters) → measuring (Ok c) ≡ measure s → (t : State) × (labelled s ≡ made t) × (c.labels ≡ length t.marks) × (c.count ≡ length t.instrs)
unfolding measuring measure
measured_state s c e =
    let k = onward_is (labelled s) (λ t. made (record { offset = t.offset; labels = length t.marks; count = length t.instrs })) (sym e) in
    let i = made_is k.2 in
    (k.0, k.1, sym (ap (λ (x : Measured). x.labels) i), sym (ap (λ (x : Measured). x.count) i))

pub measured_refusal : (s : List ℕ) (q : Refusal) → measuring (Err q) ≡ measure s → labelled s ≡ refusal (number_of q.reason) q.place q.extra
unfolding measuring measure onward
measured_refusal s q e = go (labelled s) refl e
  where
    go : (x : Result State) → labelled s ≡ x → measuring (Err q) ≡ onward x (λ t. made (record { offset = t.offset; labels = length t.marks; count = length t.instrs })) → labelled s ≡ refusal (number_of q.reason) q.place q.extra
    go (made t) i f = refusal_not_made f
    go (refusal n p x) i f = i ∙ cc
