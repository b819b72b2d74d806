-- What emit, add_label and mark_label make of the counters and of the marks that they are lent. Sums are modulo 2^32.
use Rattle.std.specs.Prelude.{ℕ, ◌+◌, List, slice_set}
use Rattle.definitions.specs.Instr.{Instr, size}
use Rattle.definitions.specs.Code.{unmarked}
use Rattle.steps.specs.Running.{set_made, word}
use Rattle.steps.specs.declared.counters.Counters.{Counters}

-- the counters after a record, and after a new label
abbrev pub emitted_of : Counters → Instr → Counters
emitted_of c i = record { offset = word (c.offset + size i); labels = c.labels; count = word (c.count + 1) }

abbrev pub labelled_of : Counters → Counters
labelled_of c = record { offset = c.offset; labels = word (c.labels + 1); count = c.count }

-- the table with the next label, and with a label that lands at the offset
abbrev pub unmarked_at : Counters → (marks : List ℕ) → List ℕ
unmarked_at c marks = slice_set marks c.labels unmarked

abbrev pub marked_at : Counters → (label : ℕ) (marks : List ℕ) → List ℕ
marked_at c label marks = set_made marks label c.offset c.labels
