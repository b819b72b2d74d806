-- What is printed, letter by letter (ASCII).
use Rattle.std.specs.Prelude.{ℕ, zero, suc, ◌/◌, ◌%◌, ◌^◌, true, false, List, [], ◌∷◌, ◌++◌, ltb, leb, length, get_or, ℤ, pos, negsuc}
use Prim.Native.Char.{code as codepoint}
use Prim.Native.String.{String, [] as end, ◌∷◌ as ◌then◌}
use Rattle.definitions.specs.Answer.{Result, made, refusal, onward, checked}
use Rattle.definitions.specs.Listing.{read_listing}
use Rattle.definitions.specs.Stage.{over, Line, Printed, code, refused_with, printed_as}

-- 1. Numbers

-- quoted letters, each by its number
unfoldable pub letters : String → List ℕ
letters end = []
letters (c then s) = codepoint c ∷ letters s

-- a decimal or hexadecimal digit
unfoldable pub digit : (d : ℕ) → ℕ
digit d = get_or (letters "0123456789ABCDEF") d 0

-- the last k digits of n in a base, zeros in front
unfoldable pub digits : (base k n : ℕ) → List ℕ
digits base zero n = []
digits base (suc k) n = digit (n / base ^ k % base) ∷ digits base k n

-- how many decimal digits n has: one below 10, else one more than a tenth of it has; `most` only counts down
unfoldable pub places_in : (most n : ℕ) → ℕ
places_in zero n = 1
places_in (suc m) n = elim (ltb n 10) [ true ↦ 1 | false ↦ suc (places_in m (n / 10)) ]

abbrev pub places : (n : ℕ) → ℕ
places n = places_in n n

-- "the rest decimal": without leading zeros, and 0 is "0"
unfoldable pub decimal : (n : ℕ) → List ℕ
decimal n = digits 10 (places n) n

-- "2 hex digits", "16 hex digits"
abbrev pub hexadecimal : (k n : ℕ) → List ℕ
hexadecimal k n = digits 16 k n

-- "signed": a minus sign before a number below 0
unfoldable pub integer : ℤ → List ℕ
integer (pos n) = decimal n
integer (negsuc n) = letters "-" ++ decimal (suc n)

-- 2. Lines

-- one space between fields, a newline after the last
unfoldable pub fields : List (List ℕ) → List ℕ
fields [] = letters "\n"
fields (f ∷ []) = f ++ letters "\n"
fields (f ∷ (g ∷ fs)) = f ++ (letters " " ++ fields (g ∷ fs))

-- "start, tag (2 hex digits), small, first and second (signed), line, flags, value (16 hex digits)"
unfoldable pub line_text : Line → List ℕ
line_text l = fields (
    decimal l.start ∷ hexadecimal 2 l.tag ∷ decimal l.small ∷ integer l.first ∷ integer l.second ∷
    decimal l.line ∷ decimal l.flags ∷ hexadecimal 16 l.value ∷ [])

unfoldable pub lines_text : List Line → List ℕ
lines_text [] = []
lines_text (l ∷ ls) = line_text l ++ lines_text ls

-- "`code`, instruction count, total size; then per instruction"; "A refusal prints `refused` and three numbers"
unfoldable pub text : Printed → List ℕ
text (code n t ls) = fields (letters "code" ∷ decimal n ∷ decimal t ∷ []) ++ lines_text ls
text (refused_with n p x) = fields (letters "refused" ∷ decimal n ∷ decimal p ∷ decimal x ∷ [])

-- 3. Into a lent buffer of so many bytes: 20, where it is too short

unfoldable pub text_into : Printed → (space : ℕ) → Result (List ℕ)
text_into p space = checked (leb (length (text p)) space) 20 0 0 (made (text p))

-- a listing, with `sign` for its labels or distances: 30, then 20
unfoldable pub code_into : (sign : ℕ → ℤ) (listing : List ℕ) (space : ℕ) → Result (List ℕ)
code_into sign s space = onward (read_listing s) λ is. text_into (printed_as sign is) space

-- what a buffer holds then; a refusal leaves it
unfoldable pub over_if : Result (List ℕ) → (before : List ℕ) → List ℕ
over_if (made t) b = over t b
over_if (refusal n p x) b = b
