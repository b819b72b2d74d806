-- Answers as a Bool and three numbers: what was made, or number, place and extra of the refusal.
use Rattle.std.specs.Prelude as std
use Rattle.std.specs.Prelude.{ℕ, Bool, true, false, List, length, Ok, Err}
use Rattle.definitions.specs.Answer.{Result, made, refusal}
use Rattle.definitions.specs.Instr.{Instr, record_length}
use Rattle.definitions.specs.Listing.{listing_length}
use Rattle.definitions.specs.Stage.{Measured, Lowering, listed, turned, Resolving, coded, unresolved}
use Rattle.definitions.specs.Strip.{Stripping, unstripped}
use Rattle.definitions.specs.Strip as stripping
use Rattle.instr.specs.declared.refusals.Refusal.{Refusal}
use Rattle.instr.specs.Refusals.{number_of}
use Rattle.exports.specs.declared.Made.{Made}

pub record Numbers : Type 0 where
  pub done : Bool
  pub first : ℕ
  pub second : ℕ
  pub third : ℕ

abbrev pub numbers : Bool → (first second third : ℕ) → Numbers
numbers b x y z = record { done = b; first = x; second = y; third = z }

-- what the code makes of its answers
unfoldable pub given : std.Result Made Refusal → Numbers
given (Ok m) = numbers true m.first m.second m.third
given (Err q) = numbers false (number_of q.reason) q.place q.extra

-- records, labels, total size
unfoldable pub measured : Result Measured → Numbers
measured (made m) = numbers true m.count m.labels m.offset
measured (refusal n p x) = numbers false n p x

-- the same of lowering, and what it leaves
unfoldable pub lowered : Lowering → Numbers
lowered (listed size labels count o m) = numbers true count labels size
lowered (turned n p x o m) = numbers false n p x

unfoldable pub out_of : Lowering → List ℕ
out_of (listed size labels count o m) = o
out_of (turned n p x o m) = o

unfoldable pub marks_of : Lowering → List ℕ
marks_of (listed size labels count o m) = m
marks_of (turned n p x o m) = m

-- records, by the code's answer and by the definition's
unfoldable pub records_of : std.Result ℕ Refusal → Numbers
records_of (Ok n) = numbers true n 0 0
records_of (Err q) = numbers false (number_of q.reason) q.place q.extra

unfoldable pub resolved : Resolving → Numbers
resolved (coded count o) = numbers true count 0 0
resolved (unresolved n p x o) = numbers false n p x

unfoldable pub code_of : Resolving → List ℕ
code_of (coded count o) = o
code_of (unresolved n p x o) = o

unfoldable pub checked : Result (List Instr) → Numbers
checked (made is) = numbers true (length is) 0 0
checked (refusal n p x) = numbers false n p x

-- where record n begins, and its length
unfoldable pub viewed : (n : ℕ) → Result (List ℕ) → Numbers
viewed n (made part) = numbers true (listing_length n) record_length 0
viewed n (refusal m p x) = numbers false m p x

-- bytes
unfoldable pub stripped : Stripping → Numbers
stripped (stripping.stripped count o) = numbers true count 0 0
stripped (unstripped n p x o) = numbers false n p x

unfoldable pub stripped_of : Stripping → List ℕ
stripped_of (stripping.stripped count o) = o
stripped_of (unstripped n p x o) = o
