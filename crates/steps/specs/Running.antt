-- The walk's own running of code: counters of 32 bits, a sink that is given each record, and label marks, written where they fit.
use Rattle.std.specs.Prelude.{ℕ, ◌+◌, ◌%◌, ◌^◌, cond, List, [], ◌∷◌, ◌++◌, length, take, drop, nat_le, nat_lt, slice_set}
use Rattle.definitions.specs.Answer.{Result, made, refusal, onward, checked}
use Rattle.definitions.specs.Instr.{Instr, size, record_bytes}
use Rattle.definitions.specs.Listing.{listing_length}
use Rattle.definitions.specs.Code.{Action, new, mark, emit, refuse, Code, done, act, ◌then◌, label, unmarked, label_limit}

-- what becomes of a sink at a record: by the offset where its instruction stands, its number, and its fields
abbrev pub Sinks : Type 0 → Type 0
Sinks S = S → (offset number : ℕ) → Instr → S

pub record Cells (S : Type 0) : Type 0 where
  pub offset : ℕ
  pub labels : ℕ
  pub count : ℕ
  pub sink : S
  pub marks : List ℕ

-- the record of an instruction: its fields cut to their widths
abbrev pub cut : Instr → Instr
cut i = record { tag = i.tag; small = i.small % 2 ^ 8; first = i.first % 2 ^ 16; second = i.second % 2 ^ 16; line = i.line; flags = i.flags % 2 ^ 16; value = i.value; node = i.node % 2 ^ 32 }

-- a mark, where it fits, of a label that there is
unfoldable pub set_made : (marks : List ℕ) (l v n : ℕ) → List ℕ
set_made m l v n = cond (nat_lt l n) (slice_set m l v) m

-- a counter of 32 bits
abbrev pub word : ℕ → ℕ
word n = n % 2 ^ 32

unfoldable pub move : {S : Type 0} → Sinks S → Action → Cells S → Result (Cells S)
move K (new at) s = checked (nat_lt s.labels label_limit) 15 at 0
    (made (record { offset = s.offset; labels = s.labels + 1; count = s.count; sink = s.sink; marks = slice_set s.marks s.labels unmarked }))
move K (mark l) s = made (record { offset = s.offset; labels = s.labels; count = s.count; sink = s.sink; marks = set_made s.marks l s.offset s.labels })
move K (emit i) s = made (record { offset = word (s.offset + size i); labels = s.labels; count = word (s.count + 1); sink = K s.sink s.offset s.count (cut i); marks = s.marks })
move K (refuse n p x) s = refusal n p x

unfoldable pub run : {S : Type 0} → Sinks S → Code → Cells S → Result (Cells S)
run K done s = made s
run K (act a) s = move K a s
run K (p then q) s = onward (run K p s) (λ t. run K q t)
run K (label at k) s = onward (move K (new at) s) (λ t. run K (k s.labels) t)

-- A sink that notes all it is given: what code does to any sink is what it does to this one (`SinkLaws.anywhere`).

pub record Note : Type 0 where
  pub offset : ℕ
  pub number : ℕ
  pub instr : Instr

unfoldable pub noted : (notes : List Note) → (offset number : ℕ) → Instr → List Note
noted t o n i = t ++ (record { offset = o; number = n; instr = i } ∷ [])

-- A lent buffer: record k, where it fits
unfoldable pub put : (out : List ℕ) (k : ℕ) → Instr → List ℕ
put o k i = cond (nat_le (listing_length (k + 1)) (length o)) (take (listing_length k) o ++ (record_bytes i ++ drop (listing_length (k + 1)) o)) o

-- what becomes of it, as of a sink
abbrev pub puts : Sinks (List ℕ)
puts o x k i = put o k i
