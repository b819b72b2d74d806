-- A walk, action by action: its counters of 32 bits beside the definition's sums.
use Rattle.std.specs.Prelude.{ℕ, ◌≡◌, List, [], ◌∷◌, length}
use Rattle.definitions.specs.Answer.{Result, made, onward}
use Rattle.definitions.specs.Tree.{Script}
use Rattle.definitions.specs.Code.{Action, State, start}
use Rattle.landing.specs.Walk.{exec, Sums}
use Rattle.steps.specs.Running.{Sinks, Cells, move}

-- run one after another
unfoldable pub moves : {S : Type 0} → Sinks S → List Action → Cells S → Result (Cells S)
moves K [] c = made c
moves K (a ∷ acts) c = onward (move K a c) (moves K acts)

-- after these actions of the unit `s`, read as `u`: the definition's sums, whole, and within what landing proves of them
pub record Unwrapped {S : Type 0} (s : List ℕ) (u : Script) (acts : List Action) (c : Cells S) : Type 0 where
  pub state : State
  pub walks_to : exec acts start ≡ made state
  pub sums : Sums s u state
  pub offset : c.offset ≡ state.offset
  pub count : c.count ≡ length state.instrs
  pub labels : c.labels ≡ length state.marks
