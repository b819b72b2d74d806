-- Distances that sixteen bits cannot hold.
use Rattle.std.specs.Prelude.{ℕ, Bool, false, cond, not, eqb, ℤ, Option, Some, None}
use Rattle.definitions.specs.Answer.{Result, made, refusal}
use Rattle.definitions.specs.Code.{State}
use Rattle.definitions.specs.Resolve.{in_range, resolve_records}
use Rattle.foresee.specs.declared.distances.Distances.{Distances}
use Rattle.foresee.specs.declared.far.Far.{Far}

-- 1. What is asked of a unit

-- where the distance is that resolving is refused for by 32: its record, and its operand
unfoldable pub too_far_in : {A : Type 0} → Result A → Option Far
too_far_in (made a) = None
too_far_in (refusal n p x) = cond (eqb n 32) (Some (record { number = p; operand = x })) None

-- the first distance of a labelled listing that is too far, as the definition resolves it
abbrev pub first_too_far : State → Option Far
first_too_far t = too_far_in (resolve_records t.marks 0 0 t.instrs)

-- 2. What is found record by record

-- a field that carries no label has no distance, which is not too far
unfoldable pub is_far : Option ℤ → Bool
is_far None = false
is_far (Some d) = not (in_range d)

-- the first of a record
unfoldable pub far_of : (number : ℕ) → Distances → Option Far
far_of n d =
    cond (is_far d.first) (Some (record { number = n; operand = 0 }))
    (cond (is_far d.second) (Some (record { number = n; operand = 1 })) None)

-- after a record, what was found before stays
unfoldable pub first_found : Option Far → (number : ℕ) → Distances → Option Far
first_found (Some f) n d = Some f
first_found None n d = far_of n d
