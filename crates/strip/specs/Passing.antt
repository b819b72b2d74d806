-- What a pass over a part of the unit does to the buffer that the unit was copied to.
use Rattle.std.specs.Prelude.{ℕ, ◌+◌, ◌≤◌, ◌≡◌, Bool, true, false, ◌&&◌, List, ◌++◌, leb, ltb, eqb, length, take, drop, Option, Some, None}
use Rattle.definitions.specs.Bytes.{number}
use Rattle.definitions.specs.Strip as definition
use Rattle.definitions.specs.Strip.{Strip, keep, keep_below, keep_marks, blank_payload, strip_parts, strip_expr, strip_stmt}
use Rattle.instr.specs.Values.{stored}
use Rattle.strip.specs.Parts.{part_is}
use Rattle.strip.specs.declared.Part.{Part}
use Rattle.strip.specs.declared.fields.Passed.{Passed}

-- 1. Where a pass ends that writes nothing: where it stands then, and the mark or the count that was passed last; or it is stopped for good

abbrev pub passed : (at last : ℕ) → Passed
passed at last = record { at = at; last = last }

-- past w bytes, if they fit
unfoldable pub fitting : (at w end n : ℕ) → Option Passed
fitting at w end n = elim (leb (at + w) end) [ true ↦ Some (passed (at + w) n) | false ↦ None ]

-- past a length, with the end of what it counts, if that fits too
unfoldable pub span_of : (s : List ℕ) (end at : ℕ) → Option (ℕ × ℕ)
span_of s end at = elim (leb (at + 4) end) [
  | true ↦ elim (leb (at + 4 + number 4 s at) end) [ true ↦ Some (at + 4, at + 4 + number 4 s at) | false ↦ None ]
  | false ↦ None
]

abbrev pub pass_if : {A : Type 0} → Bool → Option A → Option A
pass_if b r = elim b [ true ↦ r | false ↦ None ]

-- a pass and then a check of where it ended and of what was passed last, with what is handed on in its place
unfoldable pub guarded : (good : ℕ → ℕ → Bool) (to : ℕ → ℕ) → Option Passed → Option Passed
guarded good to (Some p) = pass_if (good p.at p.last) (Some (passed p.at (to p.last)))
guarded good to None = None

-- a number below a bound
abbrev pub below_of : (bound : ℕ) → Option Passed → Option Passed
below_of bound = guarded (λ at n. ltb n bound) (λ n. n)

-- n, whatever was passed
abbrev pub handed : (n : ℕ) → Option Passed → Option Passed
handed n = guarded (λ at k. true) (λ k. n)

-- at the end, with no more items than n
abbrev pub closed_args : (end n : ℕ) → Option Passed → Option Passed
closed_args end n = guarded (λ at k. eqb at end && leb k n) (λ k. n)

-- a number in the buffer, if it fits
unfoldable pub put_if : (at w end v : ℕ) → List ℕ → List ℕ
put_if at w end v o = elim (leb (at + w) end) [ true ↦ stored at w v o | false ↦ o ]

-- 2. The buffer

-- what it will be, if k is what follows
abbrev pub whole : Option Passed → (o : List ℕ) → (k : ℕ → ℕ → List ℕ) → List ℕ
whole (Some p) o k = take p.at o ++ k p.last p.at
whole None o k = o

-- it is as long as the unit s, and from `at` on it has the unit's bytes still
pub record Copied (s : List ℕ) (at : ℕ) (o : List ℕ) : Type 0 where
  pub long : length o ≡ length s
  pub same : drop at o ≡ drop at s

-- after a pass
abbrev pub Left : (s : List ℕ) → Option Passed → (o : List ℕ) → Type 0
Left s (Some p) o = Copied s p.at o
Left s None o = length o ≡ length s

-- a pass from `at` on did what the step says, for all that may follow
pub record Did (s : List ℕ) (at : ℕ) (o : List ℕ) (step : (ℕ → Strip) → Strip) (r : Option Passed) (o' : List ℕ) : Type 0 where
  pub same : (next : ℕ → Strip) (rest : ℕ → List ℕ) → whole r o' (λ n. next n rest) ≡ take at o ++ step next rest at
  pub left : Left s r o'

-- the same of a pass that writes nothing
abbrev pub KeptBy : (s : List ℕ) (at : ℕ) (step : (ℕ → Strip) → Strip) → Option Passed → Type 0
KeptBy s at step r = (o : List ℕ) → Copied s at o → Did s at o step r o

-- where a pass ends, if it goes on
abbrev pub Within : (low high : ℕ) → Option Passed → Type 0
Within low high (Some p) = (low ≤ p.at) × (p.at ≤ high)
Within low high None = Unit

-- the parts of a node, with `depth` for the expressions in it and `blocks` for the statements
abbrev pub parts_in : (depth blocks : ℕ) (s : List ℕ) (end : ℕ) → List definition.Part → (n : ℕ) → Strip
parts_in depth blocks s end = strip_parts s (strip_expr depth s) (strip_stmt blocks s) end

-- a pass over a part, for all parts that may follow
pub record Parted (depth blocks : ℕ) (s : List ℕ) (end : ℕ) (part : Part) (at n : ℕ) (o : List ℕ) (r : Option Passed) (o' : List ℕ) : Type 0 where
  pub same : (ps : List definition.Part) (rest : ℕ → List ℕ) → whole r o' (λ n. parts_in depth blocks s end ps n rest) ≡ take at o ++ parts_in depth blocks s end (part_is part ++ ps) n rest at
  pub left : Left s r o'

-- 3. Steps

abbrev pub params_step : (s : List ℕ) (end : ℕ) → (ℕ → Strip) → Strip
params_step s end next = keep s end 1 λ n. keep_marks s end n (next n)

abbrev pub constant_step : (s : List ℕ) (end n : ℕ) → (ℕ → Strip) → Strip
constant_step s end n next = keep_below s end 16 λ b. blank_payload s end b (next n)
