-- Resolving (into_code): distances in place of labels.
use Rattle.std.specs.Prelude.{ℕ, suc, ◌+◌, ◌-◌, Bool, true, false, cond, not, List, [], ◌∷◌, ltb, leb, eqb, length, get_or, ℤ, pos, negsuc}
use Rattle.std.proofs.Math.IntN.{sub_ℕ}
use Rattle.definitions.specs.Answer.{Result, made, onward, checked}
use Rattle.definitions.specs.Tag.{row_of}
use Rattle.definitions.specs.Instr.{Instr, size}
use Rattle.definitions.specs.Code.{unmarked}
use Rattle.definitions.specs.Listing.{read_listing, listing_length}

-- 1. Sixteen bits

-- from -32,768 to 32,767
unfoldable pub in_range : ℤ → Bool
in_range (pos n) = ltb n 32768
in_range (negsuc n) = ltb n 32768

-- the 16 bits that a field stores for a distance
unfoldable pub word : ℤ → ℕ
word (pos n) = n
word (negsuc n) = 65535 - n

-- the number that 16 bits stand for
unfoldable pub signed : ℕ → ℤ
signed w = elim (ltb w 32768) [ true ↦ pos w | false ↦ negsuc (65535 - w) ]

-- 2. A record

-- the distance of a label: "label outside the table or unmarked; distance outside 16 bits" 31; 32, "the place is the record's number, extra 0 first, 1 second"
unfoldable pub distance_of : (marks : List ℕ) (start number extra label : ℕ) → Result ℕ
distance_of marks start number extra l =
    let m = get_or marks l unmarked in
    checked (not (eqb m unmarked)) 31 number extra (checked (in_range (sub_ℕ m start)) 32 number extra (made (word (sub_ℕ m start))))

-- a field: the distance in place of a label, and anything else as it is
unfoldable pub resolve_field : (carries : Bool) (marks : List ℕ) (start number extra label : ℕ) → Result ℕ
resolve_field carries marks start number extra l = cond carries (distance_of marks start number extra l) (made l)

-- "each record (31 and 32 of the first, then of the second)"
unfoldable pub resolve_record : (marks : List ℕ) (start number : ℕ) → Instr → Result Instr
resolve_record marks start number i =
    onward (resolve_field (row_of i.tag).first marks start number 0 i.first) λ f.
    onward (resolve_field (row_of i.tag).second marks start number 1 i.second) λ s.
    made (record { tag = i.tag; small = i.small; first = f; second = s; line = i.line; flags = i.flags; value = i.value; node = i.node })

-- 3. All records, from number `number` at offset `start` on

unfoldable pub resolve_records : (marks : List ℕ) (start number : ℕ) → List Instr → Result (List Instr)
resolve_records marks start number [] = made []
resolve_records marks start number (i ∷ is) =
    onward (resolve_record marks start number i) λ r.
    onward (resolve_records marks (start + size i) (suc number) is) λ rs.
    made (r ∷ rs)

-- 4. A listing and a label table, the whole slice of words, with `space` bytes lent: "checks 30, then each record, then 20"

-- records whose listing fits so many bytes
abbrev pub fitting : (space : ℕ) → List Instr → Result (List Instr)
fitting space rs = checked (leb (listing_length (length rs)) space) 20 0 0 (made rs)

unfoldable pub resolve : (listing marks : List ℕ) (space : ℕ) → Result (List Instr)
resolve s marks space =
    onward (read_listing s) λ is.
    onward (resolve_records marks 0 0 is) λ rs.
    fitting space rs
