-- Codes in step, and that from states in step they run to states in step, or are refused alike. Assumes nothing.
use Prim.Native.Nat.{ℕ, suc, ◌+◌, ◌≤◌, ◌<◌}
use mathlib.Core.Path.{◌≡◌, refl, sym, subst, ◌∙◌}
use mathlib.Core.Bool.{Bool, true, false}
use mathlib.Core.List.{[], ◌∷◌}
use native.Mathlib.Omega.{arith}
use lib.Dec.{ltb}
use lib.ListN.{length, length-append}
use borrow.Author.Tests.{ltb-true, ltb-false}
use Rattle.definitions.specs.Answer.{Result, made, refusal, onward, checked}
use Rattle.definitions.specs.Instr.{Instr}
use Rattle.laws.proofs.Results.{made_is, onward_is}
use Rattle.laws.proofs.Inversion.{refusal_not_made}
use Rattle.laws.proofs.Grows.{grows}
use Rattle.definitions.specs.Code.{Code, new, mark, emit, refuse, done, act, ◌then◌, label, State, unmarked, label_limit, new_label, mark_label, emit_record, step, execute}

-- 1. Codes in step: the same steps in the same order, where a place has moved as `place` says, a label has a number that is K higher, and records are as I says

pub data Like (place : ℕ → ℕ) (K : ℕ) (I : Instr → Instr → Type 0) : Code → Code → Type 0 where
  nothing : Like place K I done done
  marks : {l l' : ℕ} → l' ≡ l + K → Like place K I (act (mark l)) (act (mark l'))
  emits : {i j : Instr} → I i j → Like place K I (act (emit i)) (act (emit j))
  refuses : {n p x : ℕ} → Like place K I (act (refuse n p x)) (act (refuse n (place p) x))
  seq : {p q p' q' : Code} → Like place K I p q → Like place K I p' q' → Like place K I (p then p') (q then q')
  labels : {at : ℕ} {k k' : ℕ → Code} → ((l l' : ℕ) → l' ≡ l + K → Like place K I (k l) (k' l')) → Like place K I (label at k) (label (place at) k')

-- 2. States in step: S is a simulation if a new label, a mark and a record lead from states that it relates to states that it relates

pub record IsSimulation (K : ℕ) (I : Instr → Instr → Type 0) (S : State → State → Type 0) : Type 0 where
  pub long : (t u : State) → S t u → length u.marks ≡ length t.marks + K
  pub new : (t u : State) → S t u → S (new_label t) (new_label u)
  pub mark : (t u : State) → S t u → (l l' : ℕ) → l' ≡ l + K → S (mark_label l t) (mark_label l' u)
  pub emit : (t u : State) → S t u → (i j : Instr) → I i j → S (emit_record i t) (emit_record j u)

-- 3. Codes in step, run from states in step

-- both make states in step; or both are refused, with the same number and extra, at a place and where it has moved to; or the second has no label left, since
-- it began with more labels: then the first is refused with whatever it may be, or makes a state with too many labels for both
pub data Both (place : ℕ → ℕ) (K : ℕ) (S : State → State → Type 0) (r q : Result State) : Type 0 where
  makes : (t u : State) → r ≡ made t → q ≡ made u → S t u → Both place K S r q
  refused : (n p x : ℕ) → r ≡ refusal n p x → q ≡ refusal n (place p) x → Both place K S r q
  full : (at : ℕ) → 0 < K → q ≡ refusal 15 (place at) 0 → ((t : State) → r ≡ made t → label_limit < length t.marks + K) → Both place K S r q

module _ {place : ℕ → ℕ} {K : ℕ} {S : State → State → Type 0} where
  onward_both : {r q : Result State} (f g : State → Result State) → Both place K S r q
      → ((t u : State) → r ≡ made t → S t u → Both place K S (f t) (g u)) → ((t v : State) → f t ≡ made v → length t.marks ≤ length v.marks)
      → Both place K S (onward r f) (onward q g)
  unfolding onward
  onward_both f g (makes t u e e' s) i more = rw (e, e') (i t u e s)
  onward_both f g (refused n p x e e') i more = rw (e, e') (refused n p x refl refl)
  onward_both {r} f g (full at z e i) j more =
      rw e (full at z refl (λ v h. let k = onward_is r f h in let l = i k.0 k.1 in let m = more k.0 v k.2 in omega arith))

  new_both : {I : Instr → Instr → Type 0} → IsSimulation K I S → (at : ℕ) (t u : State) → S t u → (f g : State → Result State)
      → (S (new_label t) (new_label u) → Both place K S (f (new_label t)) (g (new_label u)))
      → ((v : State) → f (new_label t) ≡ made v → suc (length t.marks) ≤ length v.marks)
      → Both place K S (onward (step (new at) t) f) (onward (step (new (place at)) u) g)
  unfolding onward step checked
  new_both h at t u s f g i more = go (ltb (length t.marks) label_limit) (ltb (length u.marks) label_limit) refl refl
    where
      go : (b c : Bool) → ltb (length t.marks) label_limit ≡ b → ltb (length u.marks) label_limit ≡ c
          → Both place K S (onward (checked b 15 at 0 (made (new_label t))) f) (onward (checked c 15 (place at) 0 (made (new_label u))) g)
      go true true e d = i (h.new t u s)
      go true false e d =
          let l = h.long t u s in
          let m = ltb-true (length t.marks) label_limit e in
          let n = ltb-false (length u.marks) label_limit d in
          full at (omega arith) refl (λ v r. let o = more v r in omega arith)
      go false true e d =
          let l = h.long t u s in
          let m = ltb-false (length t.marks) label_limit e in
          let n = ltb-true (length u.marks) label_limit d in
          absurd (omega arith)
      go false false e d = refused 15 at 0 refl refl

  pub run_both : {I : Instr → Instr → Type 0} → IsSimulation K I S → {p q : Code} → Like place K I p q → (t u : State) → S t u
      → Both place K S (execute p t) (execute q u)
  unfolding execute step
  run_both h nothing t u s = makes t u refl refl s
  run_both h (marks {l} {l'} e) t u s = makes (mark_label l t) (mark_label l' u) refl refl (h.mark t u s l l' e)
  run_both h (emits {i} {j} e) t u s = makes (emit_record i t) (emit_record j u) refl refl (h.emit t u s i j e)
  run_both h (refuses {n} {p} {x}) t u s = refused n p x refl refl
  run_both h (seq {p' = p'} {q' = q'} l m) t u s =
      onward_both (execute p') (execute q') (run_both h l t u s) (λ v w e i. run_both h m v w i) (λ v w e. (grows p' v w e).labels)
  run_both h (labels {at} {k} {k'} i) t u s =
      new_both h at t u s (execute (k (length t.marks))) (execute (k' (length u.marks)))
      (λ j. run_both h (i (length t.marks) (length u.marks) (h.long t u s)) (new_label t) (new_label u) j)
      (λ v e. let g = (grows (k (length t.marks)) (new_label t) v e).labels in omega (arith, length-append t.marks (unmarked ∷ [])))

-- what the second makes where the first makes a state, if the labels of both fit together
pub made_both : {place : ℕ → ℕ} {K : ℕ} {S : State → State → Type 0} {r q : Result State} → Both place K S r q → (t : State) → r ≡ made t
    → length t.marks + K ≤ label_limit → (u : State) × (q ≡ made u) × S t u
made_both {S} (makes v u e d s) t h l = let i : v ≡ t = made_is (sym e ∙ h) in (u, d, subst (λ (x : State). S x u) i s)
made_both (refused n p x e d) t h l = refusal_not_made (sym e ∙ h)
made_both (full at z d i) t h l = let j = i t h in absurd (omega arith)
