-- The whole stage: read, lower, resolve; and what lent buffers hold.
use Rattle.std.specs.Prelude.{ℕ, ◌+◌, true, false, List, [], ◌∷◌, ◌++◌, leb, length, drop, ℤ}
use Rattle.definitions.specs.Answer.{Answer, ok, refused, Result, made, refusal, onward, checked}
use Rattle.definitions.specs.Tree.{Script}
use Rattle.definitions.specs.Read.{parse_unit}
use Rattle.definitions.specs.Instr.{Instr, size}
use Rattle.definitions.specs.Code.{State}
use Rattle.definitions.specs.Lower.{lower}
use Rattle.definitions.specs.Listing.{listing_length, listing_bytes}
use Rattle.definitions.specs.Resolve.{resolve_records, signed}

-- 1. The labelled listing of a unit: "the whole unit is read before the walk"

unfoldable pub lowered : Answer Script → Result State
lowered (ok u next) = lower u
lowered (refused n p x) = refusal n p x

abbrev pub labelled : (s : List ℕ) → Result State
labelled s = lowered (parse_unit s)

-- 2. Into lent buffers of so many bytes and words: "listing too short; label table too short" 20; 21, after the walk

unfoldable pub lower_into : (s : List ℕ) (bytes words : ℕ) → Result State
lower_into s bytes words =
    onward (labelled s) λ l.
    checked (leb (listing_length (length l.instrs)) bytes) 20 0 0 (checked (leb (length l.marks) words) 21 0 0 (made l))

-- measuring: what a unit takes, whatever room there is
pub record Measured : Type 0 where
  pub offset : ℕ
  pub labels : ℕ
  pub count : ℕ

unfoldable pub measure : (s : List ℕ) → Result Measured
measure s = onward (labelled s) λ l. made (record { offset = l.offset; labels = length l.marks; count = length l.instrs })

-- a buffer after something is written at its start: "words past the last label and bytes past the listing are not written"
unfoldable pub over : (written before : List ℕ) → List ℕ
over w b = w ++ drop (length w) b

-- 3. What an entry point answers, and what it leaves in the buffers lent to it

-- lowering: the listing's total size, how many labels and records, and both buffers; or the refusal
pub data Lowering : Type 0 where
  listed : (offset labels count : ℕ) (out marks : List ℕ) → Lowering
  turned : (number place extra : ℕ) (out marks : List ℕ) → Lowering

-- the listing and the marks over what the buffers held; a refusal leaves them
unfoldable pub lower_to : Result State → (out marks : List ℕ) → Lowering
lower_to (made t) o m = listed t.offset (length t.marks) (length t.instrs) (over (listing_bytes t.instrs) o) (over t.marks m)
lower_to (refusal n p x) o m = turned n p x o m

-- resolving: how many records, and the buffer; or the refusal
pub data Resolving : Type 0 where
  coded : (count : ℕ) (out : List ℕ) → Resolving
  unresolved : (number place extra : ℕ) (out : List ℕ) → Resolving

-- the resolved listing over what the buffer held; a refusal leaves it
unfoldable pub resolve_to : Result (List Instr) → (out : List ℕ) → Resolving
resolve_to (made is) o = coded (length is) (over (listing_bytes is) o)
resolve_to (refusal n p x) o = unresolved n p x o

-- 4. The stage: the resolved records of a unit, whatever room is lent

unfoldable pub stage : (s : List ℕ) → Result (List Instr)
stage s = onward (labelled s) λ l. resolve_records l.marks 0 0 l.instrs

-- 5. What the program prints of a record: "start, tag, small, first and second (signed), line, flags, value"

pub record Line : Type 0 where
  pub start : ℕ
  pub tag : ℕ
  pub small : ℕ
  pub first : ℤ
  pub second : ℤ
  pub line : ℕ
  pub flags : ℕ
  pub value : ℕ

-- the line of a record at offset `start`, with `sign` for the labels or distances
abbrev pub line_of : (sign : ℕ → ℤ) (start : ℕ) → Instr → Line
line_of sign start i = record { start = start; tag = i.tag; small = i.small; first = sign i.first; second = sign i.second; line = i.line; flags = i.flags; value = i.value }

-- the lines of records from offset `start` on
unfoldable pub lines_from : (sign : ℕ → ℤ) (start : ℕ) → List Instr → List Line
lines_from sign start [] = []
lines_from sign start (i ∷ is) = line_of sign start i ∷ lines_from sign (start + size i) is

-- "`code`, instruction count, total size"
unfoldable pub total_size : List Instr → ℕ
total_size [] = 0
total_size (i ∷ is) = size i + total_size is

pub data Printed : Type 0 where
  code : (count total : ℕ) → List Line → Printed
  refused_with : (number place extra : ℕ) → Printed

abbrev pub printed_as : (sign : ℕ → ℤ) → List Instr → Printed
printed_as sign is = code (length is) (total_size is) (lines_from sign 0 is)

unfoldable pub printed : Result (List Instr) → Printed
printed (made is) = printed_as signed is
printed (refusal n p x) = refused_with n p x

-- the program: "reads a unit of at most 2,048 bytes"; "a longer input prints `refused 1 0 0`"
abbrev pub input_limit : ℕ
input_limit = 2048

unfoldable pub shown : (input : List ℕ) → Printed
shown s = elim (leb (length s) input_limit) [ true ↦ printed (stage s) | false ↦ refused_with 1 0 0 ]
