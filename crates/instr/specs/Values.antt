-- The code's rows, records and answers, in the words of the definitions.
use Rattle.std.specs.Prelude.{ℕ, ◌+◌, ◌*◌, Bool, cond, ◌&&◌, List, [], ◌∷◌, ◌++◌, leb, length, take, drop, Option, Some, None, Result, Ok, Err}
use Rattle.definitions.specs.Answer as answers
use Rattle.definitions.specs.Answer.{made, refusal}
use Rattle.definitions.specs.Bytes.{bytes}
use Rattle.definitions.specs.Tag as definitions
use Rattle.definitions.specs.Instr.{Instr, record_length, record_bytes}
use Rattle.definitions.specs.Listing.{front_length, listing_length, listing_front, count_of, record_limit}
use Rattle.instr.specs.declared.tables.Row.{Row}
use Rattle.instr.specs.declared.records.Record.{Record}
use Rattle.instr.specs.declared.refusals.Refusal.{Refusal}
use Rattle.instr.specs.Refusals.{number_of}

-- a field's mark in the code's table: the most that the field may hold, `top` where its tag uses it and else 0
abbrev pub mark : (used : Bool) (top : ℕ) → ℕ
mark used top = cond used top 0

-- a row of the code's table: the marks of the definitions' row, with the widths of a record's fields
abbrev pub row_marks : definitions.Row → Row
row_marks r = record {
  small = mark r.small 255;
  first = mark r.first 65535;
  second = mark r.second 65535;
  line = mark r.line 65535;
  flags = mark r.flags 65535;
  value = mark r.value 18446744073709551615;
}

-- a record of the code
abbrev pub instr_of : Record → Instr
instr_of r = record { tag = r.tag; small = r.small; first = r.first; second = r.second; line = r.line; flags = r.flags; value = r.value; node = r.node }

-- a field on its way into bytes: where it begins, how many bytes it has, and what it holds
pub record Field : Type 0 where
  pub at : ℕ
  pub width : ℕ
  pub value : ℕ

-- the fields of a record, each with its place, its width and its value
abbrev pub slot : (at width value : ℕ) → Field
slot at w v = record { at = at; width = w; value = v }

abbrev pub fields_of : Instr → List Field
fields_of i =
    slot 0 1 i.tag ∷ slot 1 1 i.small ∷ slot 2 2 i.first ∷ slot 4 2 i.second ∷ slot 6 2 i.line ∷ slot 8 2 i.flags ∷
    slot 10 8 i.value ∷ slot 18 4 i.node ∷ []

-- a list with the w bytes of a number stored from `at` on
abbrev pub stored : (at w v : ℕ) → List ℕ → List ℕ
stored at w v s = take at s ++ (bytes w v ++ drop (at + w) s)

-- a record written where a part begins: its bytes and then what stood there; a part that is too short stays
unfoldable pub written : Instr → List ℕ → List ℕ
written i s = cond (leb record_length (length s)) (record_bytes i ++ drop record_length s) s

-- the front of a listing of n records
abbrev pub front : (n : ℕ) → List ℕ
front n = 1 ∷ bytes 4 (record_length * n)

-- a listing may have so many records, and a part has room for its front
unfoldable pub front_fits : (n : ℕ) → List ℕ → Bool
front_fits n s = leb n record_limit && leb front_length (length s)

-- a front written where a part begins; where it does not fit, the part stays
unfoldable pub front_written : (n : ℕ) → List ℕ → List ℕ
front_written n s = cond (front_fits n s) (front n ++ drop front_length s) s

-- the count in place of the records
unfoldable pub counted : answers.Result (List Instr) → answers.Result ℕ
counted (made is) = made (length is)
counted (refusal n p x) = refusal n p x

-- how many records a good front tells
unfoldable pub front_is : List ℕ → Option ℕ
front_is s = cond (listing_front s) (Some (count_of s)) None

-- what a look at record n answers: the part of the listing that it is, or document 01's number, place and extra
unfoldable pub viewed_is : Result (Unit {0}) Refusal → (s : List ℕ) (n : ℕ) → answers.Result (List ℕ)
viewed_is (Ok u) s n = made (take record_length (drop (listing_length n) s))
viewed_is (Err q) s n = refusal (number_of q.reason) q.place q.extra
