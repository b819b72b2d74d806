-- Code that is not refused, by how it is made up. Assumes nothing.
use Prim.Native.Nat.{ℕ, zero, suc, ◌+◌, ◌≤◌}
use mathlib.Core.Bool.{Bool, true, false}
use mathlib.Core.List.{List, [], ◌∷◌, ◌++◌}
use mathlib.Core.Path.{◌≡◌, refl, ap, ◌∙◌}
use native.Mathlib.Omega.{arith}
use borrow.Author.Tests.{lt-ltb}
use lib.ListN.{length, length-set}
use Rattle.definitions.specs.Answer.{made, onward, checked}
use Rattle.definitions.specs.Instr.{Instr}
use Rattle.definitions.specs.Code.{mark, emit, Code, done, act, ◌then◌, label, many, emits, label_limit, unmarked, new_label, mark_label, emit_record, step, execute}
use Rattle.definitions.specs.Lower.{require}
use Rattle.laws.proofs.Inversion.{impossible}
use Rattle.scan.specs.Scanned.{Tame}

-- with more allowed
pub tame_more : {p : Code} {a b c d : ℕ} → Tame p a b → a ≤ c → b ≤ d → Tame p c d
tame_more h i j = record { runs = λ t room. let r = h.runs t (omega (arith, room, j)) in (r.0, r.1, omega (arith, r.2, i), omega (arith, r.3, j)) }

pub tame_done : {a b : ℕ} → Tame done a b
unfolding execute
tame_done = record { runs = λ t room. (t, refl, omega arith, omega arith) }

pub length_more : {A : Type 0} (xs : List A) (x : A) → length (xs ++ (x ∷ [])) ≡ suc (length xs)
length_more [] x = refl
length_more (y ∷ xs) x = ap suc (length_more xs x)

pub tame_emit : {i : Instr} → Tame (act (emit i)) 1 0
unfolding execute step
tame_emit {i} = record { runs = λ t room. (emit_record i t, refl, omega (arith, length_more t.instrs i), omega arith) }

pub tame_mark : {l : ℕ} → Tame (act (mark l)) 0 0
unfolding execute step
tame_mark {l} = record { runs = λ t room. (mark_label l t, refl, omega arith, omega (arith, length-set t.marks l t.offset)) }

-- one after the other
pub tame_then : {p q : Code} {a b c d : ℕ} → Tame p a b → Tame q c d → Tame (p then q) (a + c) (b + d)
unfolding execute onward
tame_then {q = q} h i = record {
  runs = λ t room.
      let r = h.runs t (omega (arith, room)) in
      let s = i.runs r.0 (omega (arith, room, r.3)) in
      (s.0, ap (λ x. onward x (λ u. execute q u)) r.1 ∙ s.1, omega (arith, r.2, s.2), omega (arith, r.3, s.3));
}

-- a label, whatever its number
pub tame_label : {at : ℕ} {k : ℕ → Code} {a b : ℕ} → ((l : ℕ) → Tame (k l) a b) → Tame (label at k) a (1 + b)
unfolding execute onward step checked
tame_label {at} {k} h = record {
  runs = λ t room.
      let less = lt-ltb (length t.marks) label_limit (omega (arith, room)) in
      let s = (h (length t.marks)).runs (new_label t) (omega (arith, room, length_more t.marks unmarked)) in
      (s.0, ap (λ x. onward (checked x 15 at 0 (made (new_label t))) (λ u. execute (k (length t.marks)) u)) less ∙ s.1, s.2, omega (arith, s.3, length_more t.marks unmarked));
}

pub tame_many : (at n : ℕ) {p : Code} {a b : ℕ} → Tame p a b → Tame (many at n p) a (n + b)
unfolding many
tame_many at zero h = tame_more h (omega arith) (omega arith)
tame_many at (suc n) h = tame_more (tame_label (λ l. tame_many at n h)) (omega arith) (omega arith)

-- a check that is passed
pub tame_require : (c : Bool) (n p x : ℕ) → c ≡ true → Tame (require c n p x) 0 0
unfolding require
tame_require true n p x e = tame_done
tame_require false n p x e = impossible (cc)

pub tame_emits : (is : List Instr) → Tame (emits is) (length is) 0
unfolding emits
tame_emits [] = tame_done
tame_emits (i ∷ is) = tame_more (tame_then tame_emit (tame_emits is)) (omega arith) (omega arith)
