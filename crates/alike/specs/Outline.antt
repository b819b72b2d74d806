-- What two units that strip alike have in common: of every record its start, size, labels or distances and node, and of the whole its refusal or its size and marks.
use Rattle.std.specs.Prelude.{ℕ, ◌+◌, List, [], ◌∷◌}
use Rattle.definitions.specs.Answer.{Result, made, refusal}
use Rattle.definitions.specs.Instr.{Instr, size}
use Rattle.definitions.specs.Code.{State}

pub record Outline : Type 0 where
  pub start : ℕ
  pub size : ℕ
  -- labels, or distances in their place
  pub first : ℕ
  pub second : ℕ
  pub node : ℕ

-- the outlines of records from offset `start` on
unfoldable pub outlines_from : (start : ℕ) → List Instr → List Outline
outlines_from start [] = []
outlines_from start (i ∷ is) = record { start = start; size = size i; first = i.first; second = i.second; node = i.node } ∷ outlines_from (start + size i) is

-- lowering: the total size, the label table and the records in outline; or the refusal
pub record Lowered : Type 0 where
  pub offset : ℕ
  pub marks : List ℕ
  pub records : List Outline

unfoldable pub lowering : Result State → Result Lowered
lowering (made t) = made (record { offset = t.offset; marks = t.marks; records = outlines_from 0 t.instrs })
lowering (refusal n p x) = refusal n p x

-- resolving: the records in outline; or the refusal
unfoldable pub resolving : Result (List Instr) → Result (List Outline)
resolving (made is) = made (outlines_from 0 is)
resolving (refusal n p x) = refusal n p x
