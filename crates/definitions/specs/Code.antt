-- What a piece of the tree emits, and what running that gives.
use Rattle.std.specs.Prelude.{ℕ, zero, suc, ◌+◌, List, [], ◌∷◌, ◌++◌, ltb, length, set}
use Rattle.definitions.specs.Answer.{Result, made, refusal, onward, checked}
use Rattle.definitions.specs.Instr.{Instr, size}

pub data Action : Type 0 where
  -- new_label, for the rule of the node at `at`
  new : (at : ℕ) → Action
  -- mark_label: the label lands here
  mark : (label : ℕ) → Action
  emit : Instr → Action
  refuse : (number place extra : ℕ) → Action

infixr 20 ◌then◌
pub data Code : Type 0 where
  done : Code
  act : Action → Code
  ◌then◌ : Code → Code → Code
  -- a new label, handed to the code that uses it
  label : (at : ℕ) → (ℕ → Code) → Code

-- k labels more, which the code knows by their numbers
unfoldable pub many : (at k : ℕ) → Code → Code
many at zero p = p
many at (suc k) p = label at λ l. many at k p

-- instructions in order
unfoldable pub emits : List Instr → Code
emits [] = done
emits (i ∷ is) = act (emit i) then emits is

-- what has been emitted: the instructions, their virtual size, and "a u32 mark each" for the labels
pub record State : Type 0 where
  pub offset : ℕ
  pub instrs : List Instr
  pub marks : List ℕ

-- "unmarked is 4,294,967,295"
unfoldable pub unmarked : ℕ
unmarked = 4294967295

-- "Labels are numbered from 0 in the order of new_label, at most 65,536"; "a 65,537th label" 15
unfoldable pub label_limit : ℕ
label_limit = 65536

-- how a state changes: a label more, which is unmarked; a label marked with where the code stands; a record more
abbrev pub new_label : State → State
new_label s = record { offset = s.offset; instrs = s.instrs; marks = s.marks ++ (unmarked ∷ []) }

abbrev pub mark_label : (label : ℕ) → State → State
mark_label l s = record { offset = s.offset; instrs = s.instrs; marks = set s.marks l s.offset }

abbrev pub emit_record : Instr → State → State
emit_record i s = record { offset = s.offset + size i; instrs = s.instrs ++ (i ∷ []); marks = s.marks }

unfoldable pub step : Action → State → Result State
step (new at) s = checked (ltb (length s.marks) label_limit) 15 at 0 (made (new_label s))
step (mark l) s = made (mark_label l s)
step (emit i) s = made (emit_record i s)
step (refuse n p x) s = refusal n p x

-- a new label's number is how many there are before it
unfoldable pub execute : Code → State → Result State
execute done s = made s
execute (act a) s = step a s
execute (p then q) s = onward (execute p s) (λ t. execute q t)
execute (label at k) s = onward (step (new at) s) (λ t. execute (k (length s.marks)) t)

abbrev pub start : State
start = record { offset = 0; instrs = []; marks = [] }
