-- Running a code takes nothing back: the offset, the records and the labels of a state only become more. Assumes nothing.
use Prim.Native.Nat.{◌≤◌}
use mathlib.Core.Path.{◌≡◌}
use mathlib.Core.Bool.{Bool, true, false}
use mathlib.Core.List.{[], ◌∷◌}
use native.Mathlib.Omega.{arith}
use lib.Dec.{ltb}
use lib.ListN.{length, length-append, length-set}
use Rattle.definitions.specs.Answer.{made, checked}
use Rattle.definitions.specs.Code.{Action, new, mark, emit, refuse, Code, done, act, ◌then◌, label, State, new_label, step, execute, unmarked, label_limit}
use Rattle.laws.proofs.Inversion.{refusal_not_made}
use Rattle.laws.proofs.Results.{made_is, onward_is}

pub record Grows (t t' : State) : Type 0 where
  pub offset : t.offset ≤ t'.offset
  pub count : length t.instrs ≤ length t'.instrs
  pub labels : length t.marks ≤ length t'.marks

grows_on : {t u v : State} → Grows t u → Grows u v → Grows t v
grows_on a b = record { offset = omega (arith, a.offset, b.offset); count = omega (arith, a.count, b.count); labels = omega (arith, a.labels, b.labels) }

pub step_grows : (a : Action) (t t' : State) → step a t ≡ made t' → Grows t t'
unfolding step checked
step_grows (new at) t t' e = go (ltb (length t.marks) label_limit) e
  where
    go : (b : Bool) → checked b 15 at 0 (made (new_label t)) ≡ made t' → Grows t t'
    go true e = rw (← (made_is e)) (record { offset = omega arith; count = omega arith; labels = omega (arith, length-append t.marks (unmarked ∷ [])) })
    go false e = refusal_not_made e
step_grows (mark l) t t' e = rw (← (made_is e)) (record { offset = omega arith; count = omega arith; labels = omega (arith, length-set t.marks l t.offset) })
step_grows (emit i) t t' e = rw (← (made_is e)) (record { offset = omega arith; count = omega (arith, length-append t.instrs (i ∷ [])); labels = omega arith })
step_grows (refuse n p x) t t' e = refusal_not_made e

pub grows : (code : Code) (t t' : State) → execute code t ≡ made t' → Grows t t'
unfolding execute
grows done t t' e = rw (← (made_is e)) (record { offset = omega arith; count = omega arith; labels = omega arith })
grows (act a) t t' e = step_grows a t t' e
grows (p then q) t t' e = let k = onward_is (execute p t) (execute q) e in grows_on (grows p t k.0 k.1) (grows q k.0 t' k.2)
grows (label at f) t t' e =
    let k = onward_is (step (new at) t) (execute (f (length t.marks))) e in grows_on (step_grows (new at) t k.0 k.1) (grows (f (length t.marks)) k.0 t' k.2)
