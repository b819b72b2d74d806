-- A whole unit: the code of its bytes, and what lower answers with what it leaves in the buffers.
use Rattle.std.specs.Prelude.{ℕ, List, ◌≡◌, Result, Ok, Err}
use Rattle.definitions.specs.Answer as definitions
use Rattle.definitions.specs.Answer.{made, refusal}
use Rattle.definitions.specs.Read.{parse_unit}
use Rattle.definitions.specs.Code.{Code, State}
use Rattle.definitions.specs.Lower as Lower
use Rattle.definitions.specs.Stage.{lower_into, Lowering, listed, turned, Measured}
use Rattle.instr.specs.declared.refusals.Refusal.{Refusal}
use Rattle.instr.specs.Refusals.{number_of}
use Rattle.steps.specs.Running.{Cells}
use Rattle.steps.specs.Walked.{code_of}
use Rattle.steps.specs.declared.counters.Counters.{Counters}

abbrev pub unit_code : (s : List ℕ) → Code
unit_code s = code_of (λ u. Lower.code_of u) (parse_unit s)

-- the walk's start, on this sink and these marks
abbrev pub zeros : {S : Type 0} → (sink : S) (marks : List ℕ) → Cells S
zeros o m = record { offset = 0; labels = 0; count = 0; sink = o; marks = m }

-- a unit that is lowered into buffers of so many bytes and words: nothing refuses it
abbrev pub Lowers : (s : List ℕ) (bytes words : ℕ) → Type 0
Lowers s bytes words = (t : State) × (lower_into s bytes words ≡ made t)

-- an answer, and what the buffers hold then
unfoldable pub answer : Result Counters Refusal → (out marks : List ℕ) → Lowering
answer (Ok c) o m = listed c.offset c.labels c.count o m
answer (Err q) o m = turned (number_of q.reason) q.place q.extra o m

-- the same of a measure
unfoldable pub measuring : Result Counters Refusal → definitions.Result Measured
measuring (Ok c) = made (record { offset = c.offset; labels = c.labels; count = c.count })
measuring (Err q) = refusal (number_of q.reason) q.place q.extra
