-- What the landing theorem says of a unit that was read and lowered.
use Rattle.std.specs.Prelude.{ℕ, suc, ◌+◌, ◌*◌, ◌≤◌, ◌<◌, Bool, true, false, cond, ◌&&◌, List, [], ◌∷◌, ◌⊎◌, ◌≡◌, eqb, length, get_or, take, drop, ℤ, pos, negsuc}
use Rattle.std.proofs.Math.Option.{Option, none, some}
use Rattle.std.proofs.Math.IntN.{sub_ℕ}
use Rattle.definitions.specs.Answer.{Result, made, refusal}
use Rattle.definitions.specs.Tag.{row_of, Jump}
use Rattle.definitions.specs.Tree.{Script}
use Rattle.definitions.specs.Instr.{Instr, size}
use Rattle.definitions.specs.Code.{State, unmarked}
use Rattle.definitions.specs.Resolve.{in_range, word, resolve_records}
use Rattle.definitions.specs.Stage.{total_size}
use Rattle.landing.specs.Distance.{size_of, distances_of}

-- 1. A listing with given distances in place of its labels. A record takes one for its first, if its row says that it carries a label there,
-- then one for its second

-- the distances that are left when a field has taken its own
unfoldable pub left : (carries : Bool) → List ℤ → List ℤ
left true ds = drop 1 ds
left false ds = ds

-- the field with its distance in place of the label
unfoldable pub filled_field : (carries : Bool) (label : ℕ) → List ℤ → ℕ
filled_field true l ds = word (get_or ds 0 (pos 0))
filled_field false l ds = l

-- all else alike
unfoldable pub filled : List Instr → List ℤ → List Instr
filled [] ds = []
filled (i ∷ is) ds =
    let es = left (row_of i.tag).first ds in
    record { tag = i.tag; small = i.small; first = filled_field (row_of i.tag).first i.first ds; second = filled_field (row_of i.tag).second i.second es; line = i.line; flags = i.flags; value = i.value; node = i.node }
    ∷ filled is (left (row_of i.tag).second es)

-- how many distances the records take
unfoldable pub label_fields : List Instr → ℕ
label_fields [] = 0
label_fields (i ∷ is) = cond (row_of i.tag).first 1 0 + cond (row_of i.tag).second 1 0 + label_fields is

-- 2. The first distance outside -32,768 to 32,767: the number of its record, 0 for a first, 1 for a second, and the distance

abbrev pub Far : Type 0
Far = Option (record { place : ℕ; extra : ℕ; distance : ℤ })

unfoldable pub or_else : Far → Far → Far
or_else none g = g
or_else (some p) g = some p

unfoldable pub far_field : (carries : Bool) (place extra : ℕ) → List ℤ → Far
far_field true k x ds = let d = get_or ds 0 (pos 0) in cond (in_range d) none (some (record { place = k; extra = x; distance = d }))
far_field false k x ds = none

-- from record number k on
unfoldable pub first_far : (k : ℕ) → List Instr → List ℤ → Far
first_far k [] ds = none
first_far k (i ∷ is) ds =
    let es = left (row_of i.tag).first ds in
    or_else (far_field (row_of i.tag).first k 0 ds) (or_else (far_field (row_of i.tag).second k 1 es) (first_far (suc k) is (left (row_of i.tag).second es)))

unfoldable pub far_distance : Far → Option ℤ
far_distance none = none
far_distance (some p) = some p.distance

-- the same of the distances alone, whatever records take them
unfoldable pub first_out : List ℤ → Option ℤ
first_out [] = none
first_out (d ∷ ds) = cond (in_range d) (first_out ds) (some d)

-- 32 there; otherwise the listing with the distances
unfoldable pub unless_far : {A : Type 0} → Far → A → Result A
unless_far none a = made a
unless_far (some p) a = refusal 32 p.place p.extra

unfoldable pub with_distances : List Instr → List ℤ → Result (List Instr)
with_distances is ds = unless_far (first_far 0 is ds) (filled is ds)

unfoldable pub all_near : List ℤ → Bool
all_near [] = true
all_near (d ∷ ds) = in_range d && all_near ds

unfoldable pub is_made : {A : Type 0} → Result A → Bool
is_made (made a) = true
is_made (refusal n p x) = false

-- 3. Where distances land

-- so far from o a record of the listing begins, or the listing ends: o and d sum up to the sizes of the first `number` records
pub record Lands (listing : List Instr) (o : ℕ) (d : ℤ) : Type 0 where
  pub number : ℕ
  pub there : number ≤ length listing
  pub starts : d ≡ sub_ℕ (total_size (take number listing)) o

-- the first of the distances, if the field carries one
unfoldable pub FieldLands : (carries : Bool) (listing : List Instr) (o : ℕ) → List ℤ → Type 0
FieldLands true listing o ds = Lands listing o (get_or ds 0 (pos 0))
FieldLands false listing o ds = Unit

-- each distance of the records from offset o on
unfoldable pub AllLand : (listing : List Instr) (o : ℕ) → List Instr → List ℤ → Type 0
AllLand listing o [] ds = Unit
AllLand listing o (i ∷ is) ds =
    let es = left (row_of i.tag).first ds in
    FieldLands (row_of i.tag).first listing o ds × FieldLands (row_of i.tag).second listing o es × AllLand listing (o + size i) is (left (row_of i.tag).second es)

-- 4. Which labels the records carry

unfoldable pub CarriedIn : (carries : Bool) → (k label : ℕ) → Type 0
CarriedIn true k l = k ≡ l
CarriedIn false k l = ⊥

unfoldable pub Carried : ℕ → List Instr → Type 0
Carried k [] = ⊥
Carried k (i ∷ is) = CarriedIn (row_of i.tag).first k i.first ⊎ (CarriedIn (row_of i.tag).second k i.second ⊎ Carried k is)

-- 5. The statement, of a unit `u` whose walk ends in `t`: its labelled listing and its marks
pub record Landed (u : Script) (t : State) : Type 0 where
  -- resolving gives 32 with place and extra of the first distance of the landing table that is too far,
  -- otherwise the labelled listing with exactly the distances of the table in place of its labels
  pub resolves : resolve_records t.marks 0 0 t.instrs ≡ with_distances t.instrs (distances_of u)
  -- so it is refused for the first distance of the table that is too far
  pub refused_for : far_distance (first_far 0 t.instrs (distances_of u)) ≡ first_out (distances_of u)
  -- it resolves exactly if none of them is too far
  pub near : is_made (resolve_records t.marks 0 0 t.instrs) ≡ all_near (distances_of u)
  -- there are as many as the records take
  pub all : length (distances_of u) ≡ label_fields t.instrs
  -- each lands on the first byte of an instruction or on the end
  pub lands : AllLand t.instrs 0 t.instrs (distances_of u)
  -- 31 is never given: a label that is carried is below the label count, and marked with an offset of the listing
  pub marked : (k : ℕ) → Carried k t.instrs → (k < length t.marks) × (get_or t.marks k unmarked ≤ size_of u) × (get_or t.marks k unmarked < unmarked)

-- 6. Bounds, of the unit `s` that was read as `u`
pub record Bounded (s : List ℕ) (u : Script) (t : State) : Type 0 where
  -- the size of the listing is the tree's
  pub total : total_size t.instrs ≡ size_of u
  pub offset : t.offset ≡ size_of u
  -- "The total never exceeds 8 times the unit's bytes, so no offset wraps"
  pub bytes : size_of u ≤ 8 * length s
  pub size : size_of u ≤ 8388608
  pub records : length t.instrs ≤ length s
  pub labels : length t.marks ≤ 65536

-- 7. Distances back

-- at least -32,764
unfoldable pub NotBelow : ℤ → Type 0
NotBelow (pos n) = Unit
NotBelow (negsuc n) = suc n ≤ 32764

-- each of a list
abbrev pub Each : {A : Type 0} → (A → Type 0) → List A → Type 0
Each P [] = Unit {0}
Each P (x ∷ xs) = P x × Each P xs

-- a distance, if there is one, is one ahead
unfoldable pub Forward : Option ℤ → Type 0
Forward none = Unit
Forward (some (pos n)) = Unit
Forward (some (negsuc n)) = ⊥

pub record Backward (u : Script) : Type 0 where
  -- the first distance that is too far, for which a unit is refused, is never one back
  pub forward : Forward (first_out (distances_of u))
  -- in a unit that resolves, no distance is below -32,764
  pub reach : all_near (distances_of u) ≡ true → Each NotBelow (distances_of u)

-- the first of the distances, if the field carries one and its record is no Jump, is one ahead
unfoldable pub FieldAhead : (carries jump : Bool) → List ℤ → Type 0
FieldAhead true true ds = Unit
FieldAhead true false ds = Forward (some (get_or ds 0 (pos 0)))
FieldAhead false jump ds = Unit

-- a distance back is that of a Jump
unfoldable pub OnlyJumpsBack : List Instr → List ℤ → Type 0
OnlyJumpsBack [] ds = Unit
OnlyJumpsBack (i ∷ is) ds =
    let es = left (row_of i.tag).first ds in
    FieldAhead (row_of i.tag).first (eqb i.tag Jump) ds × FieldAhead (row_of i.tag).second (eqb i.tag Jump) es × OnlyJumpsBack is (left (row_of i.tag).second es)
