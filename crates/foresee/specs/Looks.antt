-- What a look is after the records of a unit.
use Rattle.std.specs.Prelude.{ℕ, cond, List, leb, length}
use Rattle.std.specs.Borrow.{MutBor}
use Rattle.definitions.specs.Answer.{Result, made, refusal}
use Rattle.definitions.specs.Code.{State}
use Rattle.definitions.specs.Instr.{Instr}
use Rattle.steps.specs.Running.{Sinks}
use Rattle.assemble.specs.Walk.{sink_after}
use Rattle.foresee.specs.declared.distances.Distances.{Distances}
use Rattle.foresee.specs.Distances.{distances_of}

-- what becomes of a look at a record: by the offset where its instruction begins, its number, its
-- fields and its distances
abbrev pub Seen : Type 0 → Type 0
Seen L = L → (offset number : ℕ) → Instr → Distances → L

-- a sink that shows what it is given, with its distances by this label table
abbrev pub sink_of_look : {L : Type 0} → Seen L → (marks : List ℕ) → Sinks L
sink_of_look seen marks look x n i = seen look x n i (distances_of marks x i)

-- a look after these instructions in order: the first has number n and begins at offset x
abbrev pub seen_all : {L : Type 0} → Seen L → (marks : List ℕ) (x n : ℕ) → List Instr → L → L
seen_all seen marks = sink_after (sink_of_look seen marks)

-- after a unit: nothing is shown of one that is refused
unfoldable pub seen_of : {L : Type 0} → Seen L → Result State → L → L
seen_of seen (made t) look = seen_all seen t.marks 0 0 t.instrs look
seen_of seen (refusal n p x) look = look

-- after one whose label table fits so many words; nothing is shown of any other
unfoldable pub seen_within : {L : Type 0} → (words : ℕ) → Seen L → Result State → L → L
seen_within words seen (made t) look =
    cond (leb (length t.marks) words) (seen_all seen t.marks 0 0 t.instrs look) look
seen_within words seen (refusal n p x) look = look

-- a look that is lent, after a record
abbrev pub look_lent : {L : Type 0} → Seen L → (marks : List ℕ) → MutBor L
    → (offset number : ℕ) → Instr → MutBor L
look_lent seen marks b x n i = record {
  ref_ptr = b.ref_ptr;
  ghost_name = b.ghost_name;
  now = sink_of_look seen marks b.now x n i;
}
