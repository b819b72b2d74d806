-- What the reader answers, in the words of the definitions, and what it keeps of a parser's answer.
use Rattle.std.specs.Prelude.{ℕ, Bool, true, false, List, leb, length, Result, Ok, Err}
use Rattle.definitions.specs.Answer.{Answer, ok, refused}
use Rattle.definitions.specs.Tree.{Callee, Expr, Exprs}
use Rattle.definitions.specs.Read.{Parser, ◌>>=◌, ended, callee, arguments}
use Rattle.instr.specs.declared.refusals.Refusal.{Refusal}
use Rattle.instr.specs.Refusals.{number_of}
use Rattle.ir.specs.declared.ReadUnit.{ReadUnit}

-- 1. The code's answer: where it ends, a value and where it ends, or a refusal

abbrev pub end_answer : Result ℕ Refusal → Answer (Unit {0})
end_answer (Ok n) = ok tt n
end_answer (Err q) = refused (number_of q.reason) q.place q.extra

abbrev pub answer : {A : Type 0} → Result (A × ℕ) Refusal → Answer A
answer (Ok v) = ok v.0 v.1
answer (Err q) = refused (number_of q.reason) q.place q.extra

-- of a unit, its return byte
abbrev pub unit_answer : Result ReadUnit Refusal → Answer ℕ
unit_answer (Ok u) = ok u.returns u.end
unit_answer (Err q) = refused (number_of q.reason) q.place q.extra

-- 2. The parser's answer, with less

-- with f of its value
abbrev pub map_value : {A B : Type 0} → (A → B) → Answer A → Answer B
map_value f (ok a n) = ok (f a) n
map_value f (refused n p x) = refused n p x

-- without its value
abbrev pub no_value : {A : Type 0} → Answer A → Answer (Unit {0})
no_value x = map_value (λ _. tt) x

-- how many parameters there are
abbrev pub params_of : Callee → ℕ
params_of c = length c.params

-- the byte of a mark
abbrev pub mark_of : Bool → ℕ
mark_of true = 1
mark_of false = 0

-- 3. Steps that the definitions do not name

-- the end of a call, as `arguments` has it, of how many arguments there are
unfoldable pub closing : (node end params count : ℕ) → Parser ℕ
closing node end params count = do
  n ← ended node end count
  λ at. elim (leb n params) [ true ↦ ok n at | false ↦ refused 5 node 0 ]

-- a function and the arguments that it is called with, as kinds 13 to 15 have them
unfoldable pub calling : (s : List ℕ) → (ℕ → Parser Expr) → (at end : ℕ) → Parser Exprs
calling s child at end = do
  c ← callee s at end
  arguments s child at end (length c.params)
