-- A refusal of the code, and an answer that may be one, in the words of the definitions.
use Rattle.std.specs.Prelude.{ℕ, Result, Ok, Err}
use Rattle.definitions.specs.Answer as definitions
use Rattle.instr.specs.declared.refusals.Reason.{Reason}
use Rattle.instr.specs.declared.refusals.Reason.TheVariants as reason
use Rattle.instr.specs.declared.refusals.Refusal.{Refusal}

-- document 01's numbers
abbrev pub number_of : Reason → ℕ
number_of reason.Front = 1
number_of reason.Value = 2
number_of reason.Length = 3
number_of reason.Depth = 4
number_of reason.Arguments = 5
number_of reason.Break = 10
number_of reason.Continue = 11
number_of reason.Construct = 12
number_of reason.Flag = 13
number_of reason.Intrinsic = 14
number_of reason.Labels = 15
number_of reason.Room = 20
number_of reason.TableRoom = 21
number_of reason.Record = 22
number_of reason.Listing = 30
number_of reason.Unmarked = 31
number_of reason.Distance = 32
number_of reason.Field = 33

-- what the code answers
unfoldable pub answer : {A : Type 0} → Result A Refusal → definitions.Result A
answer (Ok a) = definitions.made a
answer (Err q) = definitions.refusal (number_of q.reason) q.place q.extra
