-- What the loader stores: "The loader's fields aren't our distances." A listing with something taken off each distance, and the way back.
use Rattle.std.specs.Prelude.{ℕ, suc, Bool, cond, List, [], ◌∷◌, eqb, ℤ, pos, ◌+ℤ◌, ◌-ℤ◌}
use Rattle.definitions.specs.Answer.{Result, made, onward, checked}
use Rattle.definitions.specs.Tag.{row_of, Jump, JumpIfFalse, Skip, Context, InvokeStatic, InvokeVirtual, Conditional, SwitchLabel, Switch}
use Rattle.definitions.specs.Instr.{Instr}
use Rattle.definitions.specs.Listing.{read_listing}
use Rattle.definitions.specs.Resolve.{in_range, word, signed, fitting}

-- 1. What is taken off, by tag: "Jump, JumpIfFalse, Skip and Context store the distance less 3, invoke exits likewise; Conditional and SwitchLabel
-- store first less 3 and second less 5; Switch stores first less 11"

pub record Less : Type 0 where
  pub tag : ℕ
  pub first : ℕ
  pub second : ℕ

abbrev less : (tag first second : ℕ) → Less
less t f s = record { tag = t; first = f; second = s }

unfoldable pub lesses : List Less
lesses =
    less Jump 3 0
    ∷ less JumpIfFalse 3 0
    ∷ less Skip 3 0
    ∷ less Context 3 0
    ∷ less InvokeStatic 3 0
    ∷ less InvokeVirtual 3 0
    ∷ less Conditional 3 5
    ∷ less SwitchLabel 3 5
    ∷ less Switch 11 0
    ∷ []

unfoldable pub less_in : List Less → (tag : ℕ) → Less
less_in [] t = less t 0 0
less_in (l ∷ ls) t = cond (eqb l.tag t) l (less_in ls t)

abbrev pub less_of : (tag : ℕ) → Less
less_of t = less_in lesses t

-- 2. There and back: so much off a number, and on it again

abbrev pub Way : Type 0
Way = (number : ℤ) (off : ℕ) → ℤ

unfoldable pub there : Way
there d n = d -ℤ pos n

unfoldable pub back : Way
back d n = d +ℤ pos n

-- a field is its sixteen bits as a signed number: 33, "a field that leaves 16 bits either way, place the record, extra as for 32"; one that carries
-- no label is copied
unfoldable pub move_field : Way → (carries : Bool) (off number extra field : ℕ) → Result ℕ
move_field way carries off k x w = cond carries (checked (in_range (way (signed w) off)) 33 k x (made (word (way (signed w) off)))) (made w)

unfoldable pub move_record : Way → (number : ℕ) → Instr → Result Instr
move_record way k i =
    onward (move_field way (row_of i.tag).first (less_of i.tag).first k 0 i.first) λ f.
    onward (move_field way (row_of i.tag).second (less_of i.tag).second k 1 i.second) λ s.
    made (record { tag = i.tag; small = i.small; first = f; second = s; line = i.line; flags = i.flags; value = i.value; node = i.node })

-- all records, from number `number` on
unfoldable pub move_records : Way → (number : ℕ) → List Instr → Result (List Instr)
move_records way k [] = made []
move_records way k (i ∷ is) =
    onward (move_record way k i) λ r.
    onward (move_records way (suc k) is) λ rs.
    made (r ∷ rs)

-- 3. A listing, with `space` bytes lent: "checked after 30 and before 20"

unfoldable pub move : Way → (listing : List ℕ) (space : ℕ) → Result (List Instr)
move way s space =
    onward (read_listing s) λ is.
    onward (move_records way 0 is) λ rs.
    fitting space rs

-- the writer and the reader back
abbrev pub store : (listing : List ℕ) (space : ℕ) → Result (List Instr)
store = move there

abbrev pub restore : (listing : List ℕ) (space : ℕ) → Result (List Instr)
restore = move back
