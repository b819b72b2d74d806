-- The distances of a record, from where it begins to where the labels that it carries land.
use Rattle.std.specs.Prelude.{ℕ, Bool, cond, List, get_or, ℤ, Option, Some, None}
use Rattle.std.proofs.Math.IntN.{sub_ℕ}
use Rattle.definitions.specs.Code.{unmarked}
use Rattle.definitions.specs.Instr.{Instr}
use Rattle.definitions.specs.Tag.{row_of}
use Rattle.foresee.specs.declared.distances.Distances.{Distances}

-- of a field, where it carries a label: in the listing of a unit each such label is marked (landing)
unfoldable pub distance_if : (carries : Bool) (marks : List ℕ) (start label : ℕ) → Option ℤ
distance_if carries marks start label =
    cond carries (Some (sub_ℕ (get_or marks label unmarked) start)) None

-- of a record that begins at `start`
abbrev pub distances_of : (marks : List ℕ) (start : ℕ) → Instr → Distances
distances_of marks start i = record {
  first = distance_if (row_of i.tag).first marks start i.first;
  second = distance_if (row_of i.tag).second marks start i.second;
}
