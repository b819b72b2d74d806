-- Listings: "Version byte 1, u32 length in bytes of what follows, then records".
use Rattle.std.specs.Prelude.{ℕ, zero, suc, ◌+◌, ◌-◌, ◌*◌, ◌/◌, ◌%◌, Bool, true, ◌&&◌, List, [], ◌∷◌, ◌++◌, leb, ltb, eqb, length, get_or, take, drop}
use Rattle.definitions.specs.Answer.{Result, made, refusal, onward, checked}
use Rattle.definitions.specs.Bytes.{number, bytes}
use Rattle.definitions.specs.Instr.{Instr, record_length, record_bytes, record_at, good_record}

-- 1. To bytes

-- the version and the length
abbrev pub front_length : ℕ
front_length = 5

-- how many bytes n records take
abbrev pub listing_length : (n : ℕ) → ℕ
listing_length n = front_length + record_length * n

unfoldable pub records_bytes : List Instr → List ℕ
records_bytes [] = []
records_bytes (i ∷ is) = record_bytes i ++ records_bytes is

unfoldable pub listing_bytes : List Instr → List ℕ
listing_bytes is = 1 ∷ (bytes 4 (record_length * length is) ++ records_bytes is)

-- 2. From bytes: "A listing handed in, like a unit, is the whole slice"

-- how many records follow the front
unfoldable pub count_of : (s : List ℕ) → ℕ
count_of s = (length s - front_length) / record_length

-- "over 1,048,576 records"
abbrev pub record_limit : ℕ
record_limit = 1048576

-- version, length, a part record, too many records
unfoldable pub listing_front : (s : List ℕ) → Bool
listing_front s =
    leb front_length (length s) && eqb (get_or s 0 0) 1 && eqb (front_length + number 4 s 1) (length s)
    && eqb ((length s - front_length) % record_length) 0 && leb (count_of s) record_limit

-- n records from `at` on
unfoldable pub records_from : (n : ℕ) (s : List ℕ) (at : ℕ) → List Instr
records_from zero s at = []
records_from (suc n) s at = record_at s at ∷ records_from n s (at + record_length)

abbrev pub records_of : (s : List ℕ) → List Instr
records_of s = records_from (count_of s) s front_length

unfoldable pub all_good : List Instr → Bool
all_good [] = true
all_good (i ∷ is) = good_record i && all_good is

-- its records, or 30
unfoldable pub read_listing : (s : List ℕ) → Result (List Instr)
read_listing s = checked (listing_front s && all_good (records_of s)) 30 0 0 (made (records_of s))

-- 3. The viewer: "record n as part of the listing itself"; 30, then "a record number at or past the count" 22, "place that number"

unfoldable pub view : (s : List ℕ) (n : ℕ) → Result (List ℕ)
view s n = onward (read_listing s) (λ is. checked (ltb n (length is)) 22 n 0 (made (take record_length (drop (listing_length n) s))))

-- "refused, it gets an empty part"
unfoldable pub part_of : Result (List ℕ) → List ℕ
part_of (made part) = part
part_of (refusal n p x) = []
