-- A pass over the records of a listing that maps each field which carries a label or a distance, and refuses where that is refused. Resolving,
-- storing and the way back are such passes.
use Rattle.std.specs.Prelude.{ℕ, suc, ◌+◌, Bool, cond, List, [], ◌∷◌}
use Rattle.definitions.specs.Answer.{Result, made, onward}
use Rattle.definitions.specs.Tag.{row_of}
use Rattle.definitions.specs.Instr.{Instr, size}
use Rattle.definitions.specs.Listing.{read_listing}
use Rattle.definitions.specs.Resolve.{distance_of, fitting}

-- what becomes of a field of a record with this tag, which starts at this offset and has this number; extra is 0 for its first, 1 for its second
abbrev pub Mapped : Type 0
Mapped = (tag start number extra field : ℕ) → Result ℕ

-- distances in place of labels
abbrev pub distances : (marks : List ℕ) → Mapped
distances marks t start k x l = distance_of marks start k x l

-- a field: mapped, where it carries something, and else as it is
unfoldable pub map_field : Mapped → (carries : Bool) (tag start number extra field : ℕ) → Result ℕ
map_field m carries t start k x w = cond carries (m t start k x w) (made w)

-- the first of a record, then its second
unfoldable pub map_fields : Mapped → (start number : ℕ) → Instr → Result (ℕ × ℕ)
map_fields m start k i =
    onward (map_field m (row_of i.tag).first i.tag start k 0 i.first) λ f.
    onward (map_field m (row_of i.tag).second i.tag start k 1 i.second) λ s.
    made (f, s)

-- a record with another first and second
abbrev pub relabelled : Instr → (first second : ℕ) → Instr
relabelled i f s = record { tag = i.tag; small = i.small; first = f; second = s; line = i.line; flags = i.flags; value = i.value; node = i.node }

unfoldable pub map_record : Mapped → (start number : ℕ) → Instr → Result Instr
map_record m start k i = onward (map_fields m start k i) λ p. made (relabelled i p.0 p.1)

-- all records, from number `number` at offset `start` on
unfoldable pub map_records : Mapped → (start number : ℕ) → List Instr → Result (List Instr)
map_records m start k [] = made []
map_records m start k (i ∷ is) =
    onward (map_record m start k i) λ r.
    onward (map_records m (start + size i) (suc k) is) λ rs.
    made (r ∷ rs)

-- whether they map: the first refusal, if there is one
unfoldable pub try_records : Mapped → (start number : ℕ) → List Instr → Result (Unit {0})
try_records m start k is = onward (map_records m start k is) λ rs. made tt

-- a listing, with `space` bytes lent: 30, then each record, then 20
unfoldable pub rewrite : Mapped → (listing : List ℕ) (space : ℕ) → Result (List Instr)
rewrite m s space =
    onward (read_listing s) λ is.
    onward (map_records m 0 0 is) λ rs.
    fitting space rs
