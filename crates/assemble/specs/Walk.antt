-- A walk over a unit that was read: what it answers, and what the sink and the marks are then, in the words of the definitions.
use Rattle.std.specs.Prelude.{ℕ, suc, ◌+◌, ◌≤◌, ◌≡◌, List, [], ◌∷◌, length, Result, Ok, Err}
use Rattle.definitions.specs.Answer.{made, refusal}
use Rattle.definitions.specs.Code.{State}
use Rattle.definitions.specs.Instr.{Instr, size}
use Rattle.definitions.specs.Stage.{labelled, over}
use Rattle.instr.specs.declared.refusals.Refusal.{Refusal}
use Rattle.instr.specs.Refusals.{number_of}
use Rattle.steps.specs.Running.{Sinks}
use Rattle.steps.specs.declared.counters.Counters.{Counters}

-- a sink after these instructions in order, each with its offset and its number: the first has number n
-- and begins at offset x
unfoldable pub sink_after : {S : Type 0} → Sinks S → (x n : ℕ) → List Instr → S → S
sink_after K x n [] sink = sink
sink_after K x n (i ∷ is) sink = sink_after K (x + size i) (suc n) is (K sink x n i)

-- it came to its end: from the sink and the marks before to those after
pub record Done {S : Type 0} (K : Sinks S) (s : List ℕ) (sink : S) (marks : List ℕ)
    (c : Counters) (sink' : S) (marks' : List ℕ) : Type 0 where
  pub state : State
  pub whole : labelled s ≡ made state
  -- the definition's totals
  pub offset : c.offset ≡ state.offset
  pub labels : c.labels ≡ length state.marks
  pub count : c.count ≡ length state.instrs
  -- the sink was given every instruction
  pub gave : sink' ≡ sink_after K 0 0 state.instrs sink
  -- the label table, where it fits, stands over what the words held
  pub table : length state.marks ≤ length marks → marks' ≡ over state.marks marks

-- or it is refused as the definition refuses the unit, and nothing is said of the sink and the marks
unfoldable pub Walked : {S : Type 0} → (K : Sinks S) (s : List ℕ) (sink : S) (marks : List ℕ)
    → Result Counters Refusal → (sink' : S) (marks' : List ℕ) → Type 0
Walked K s sink marks (Ok c) sink' marks' = Done K s sink marks c sink' marks'
Walked K s sink marks (Err q) sink' marks' = labelled s ≡ refusal (number_of q.reason) q.place q.extra
