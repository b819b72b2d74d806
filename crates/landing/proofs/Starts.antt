-- Each distance lands on the start of a record or on the end, and the label of each is marked.
use Prim.Native.Nat.{ℕ, zero, suc, ◌+◌, ◌-◌, ◌<◌, ◌≤◌}
use mathlib.Core.Path.{◌≡◌, refl, sym, ◌∙◌, ap}
use mathlib.Core.Logic.{◌≢◌, inl, inr}
use mathlib.Core.List.{List, [], ◌∷◌}
use mathlib.Core.Bool.{Bool, true, false, cond}
use native.Mathlib.Omega.{arith}
use native.Mathlib.Decide.{dec_lt, ℕ_discrete}
use lib.Dec.{eqb}
use borrow.Author.Tests.{lt-ltb, le-ltb, eq-eqb, ne_eqb}
use lib.ListN.{length, take}
use lib.IntN.{ℤ, pos, negsuc, sub_ℕ}
use Rattle.definitions.specs.Tag.{row_of, Jump}
use Rattle.definitions.specs.Tree.{Script}
use Rattle.definitions.specs.Instr.{Instr, size}
use Rattle.definitions.specs.Code.{Action, new, mark, emit, refuse}
use Rattle.definitions.specs.Stage.{total_size}
use Rattle.landing.specs.Distance.{size_of, distances_of}
use Rattle.landing.specs.Landed.{left, label_fields, FieldLands, AllLand, CarriedIn, Carried, Forward, FieldAhead, OnlyJumpsBack}
use Rattle.landing.specs.Walk.{news, actions_of}
use Rattle.landing.proofs.Pieces.{records, total, Ahead, Onwards, also, carried, dists, below_no, Agrees, hit, count, hit_yes, hit_no}
use Rattle.landing.proofs.Runs.{whole, lands_as}

-- 1. The distances that the records of a listing carry, where M gives each label's mark

unfoldable pub distances : (M : ℕ → ℕ) (o : ℕ) → List Instr → List ℤ
distances M o [] = []
distances M o (i ∷ is) = carried M o i (distances M (o + size i) is)

dists_distances : (M : ℕ → ℕ) (o : ℕ) (acts : List Action) → dists M o acts ≡ distances M o (records acts)
unfolding dists distances records
dists_distances M o [] = refl
dists_distances M o (new at ∷ acts) = dists_distances M o acts
dists_distances M o (mark l ∷ acts) = dists_distances M o acts
dists_distances M o (emit i ∷ acts) = rw (dists_distances M (o + size i) acts)
dists_distances M o (refuse n p x ∷ acts) = dists_distances M o acts

-- a field takes its own and leaves the rest
pub left_also : (b : Bool) (d : ℤ) (ds : List ℤ) → left b (also b d ds) ≡ ds
unfolding left also
left_also true d ds = refl
left_also false d ds = refl

-- there are as many as the records take
pub distances_count : (M : ℕ → ℕ) (o : ℕ) (is : List Instr) → length (distances M o is) ≡ label_fields is
unfolding distances label_fields carried also
distances_count M o [] = refl
distances_count M o (i ∷ is) =
    one (row_of i.tag).first (row_of i.tag).second _ _ (distances M (o + size i) is) (label_fields is) (distances_count M (o + size i) is)
  where
    one : (f s : Bool) (d e : ℤ) (ds : List ℤ) (n : ℕ) → length ds ≡ n → length (also f d (also s e ds)) ≡ cond f 1 0 + cond s 1 0 + n
    one true true d e ds n h = omega arith
    one true false d e ds n h = omega arith
    one false true d e ds n h = omega arith
    one false false d e ds n h = omega arith

-- 2. A label that is carried is marked: else its mark could be anything, and the distances would not be the tree's

-- the mark from which a distance is
from : ℕ → ℤ → ℕ
from o (pos d) = o + d
from o (negsuc d) = o - suc d

from_sub : (m o : ℕ) → from o (sub_ℕ m o) ≡ m
unfolding from
from_sub m o = elim (dec_lt m o) [
  | yes h ↦ rw (lt-ltb m o h) (omega arith)
  | no h ↦ rw (le-ltb m o (omega arith)) (omega arith)
]

sub_injective : (a b o : ℕ) → sub_ℕ a o ≡ sub_ℕ b o → a ≡ b
sub_injective a b o e = sym (from_sub a o) ∙ ap (from o) e ∙ from_sub b o

-- two lists that begin with the distance of one field's label
same_field : (b : Bool) (M N : ℕ → ℕ) (o l : ℕ) (xs ys : List ℤ) → also b (sub_ℕ (M l) o) xs ≡ also b (sub_ℕ (N l) o) ys → ((k : ℕ) → CarriedIn b k l → M k ≡ N k) × (xs ≡ ys)
unfolding also CarriedIn
same_field true M N o l xs ys e =
    let h : sub_ℕ (M l) o ≡ sub_ℕ (N l) o = cc in
    ((λ k c. rw c (sub_injective (M l) (N l) o h)), cc)
same_field false M N o l xs ys e = ((λ k c. absurd c), e)

same : (M N : ℕ → ℕ) (o : ℕ) (is : List Instr) → distances M o is ≡ distances N o is → (k : ℕ) → Carried k is → M k ≡ N k
unfolding distances carried Carried
same M N o [] e k c = absurd c
same M N o (i ∷ is) e k c =
    let f = same_field (row_of i.tag).first M N o i.first _ _ e in
    let s = same_field (row_of i.tag).second M N o i.second _ _ f.1 in
    elim c [ inl h ↦ f.0 k h | inr d ↦ elim d [ inl h ↦ s.0 k h | inr h ↦ same M N (o + size i) is s.1 k h ] ]

-- M but for one label
bump : ℕ → (ℕ → ℕ) → ℕ → ℕ
bump l M k = elim (eqb k l) [ true ↦ suc (M k) | false ↦ M k ]

bump_same : (l : ℕ) (M : ℕ → ℕ) → bump l M l ≡ suc (M l)
unfolding bump
bump_same l M = rw (eq-eqb l l refl, bump)

bump_other : (l : ℕ) (M : ℕ → ℕ) (k : ℕ) → k ≢ l → bump l M k ≡ M k
unfolding bump
bump_other l M k h = rw (ne_eqb k l h, bump)

agrees_bump : (l : ℕ) (M : ℕ → ℕ) (o : ℕ) (acts : List Action) → count l acts ≡ 0 → Agrees M o acts → Agrees (bump l M) o acts
unfolding count Agrees
agrees_bump l M o [] c a = tt
agrees_bump l M o (new at ∷ acts) c a = agrees_bump l M o acts c a
agrees_bump l M o (mark k ∷ acts) c a =
    (bump_other l M k (λ e. let z : hit k l ≡ 1 = rw e (hit_yes l) in absurd (omega arith)) ∙ a.0, agrees_bump l M o acts (omega arith) a.1)
agrees_bump l M o (emit i ∷ acts) c a = agrees_bump l M (o + size i) acts c a
agrees_bump l M o (refuse n p x ∷ acts) c a = a

-- 3. A label that is marked has the start of a record, or the end, for its mark

-- where a mark stands in a listing
abbrev Start : (listing : List Instr) (m : ℕ) → Type 0
Start listing m = (j : ℕ) × (j ≤ length listing) × (m ≡ 0 + total_size (take j listing))

marked_start : (M : ℕ → ℕ) (o : ℕ) (acts : List Action) (k : ℕ) → Agrees M o acts → count k acts ≢ 0 →
    (j : ℕ) × (j ≤ length (records acts)) × (M k ≡ o + total_size (take j (records acts)))
unfolding count Agrees records total_size
marked_start M o [] k a c = absurd (c refl)
marked_start M o (new at ∷ acts) k a c = marked_start M o acts k a c
marked_start M o (mark l ∷ acts) k a c = elim (ℕ_discrete l k) [
  | yes e ↦ (0, omega arith, rw (← e) (omega arith))
  | no f ↦ marked_start M o acts k a.1 (λ z. c (omega (arith, hit_no l k f)))
]
marked_start M o (emit i ∷ acts) k a c =
    let r = marked_start M (o + size i) acts k a c in
    (suc r.0, omega arith, omega arith)
marked_start M o (refuse n p x ∷ acts) k a c = absurd a

field_lands : (b : Bool) (M : ℕ → ℕ) (listing : List Instr) (o l : ℕ) (ds : List ℤ) → ((k : ℕ) → CarriedIn b k l → Start listing (M k)) → FieldLands b listing o (also b (sub_ℕ (M l) o) ds)
unfolding FieldLands also CarriedIn
field_lands true M listing o l ds h =
    let r = h l refl in
    record { number = r.0; there = r.1; starts = ap (λ m. sub_ℕ m o) (omega arith) }
field_lands false M listing o l ds h = tt

all_land : (M : ℕ → ℕ) (listing : List Instr) (o : ℕ) (is : List Instr) → ((k : ℕ) → Carried k is → Start listing (M k)) → AllLand listing o is (distances M o is)
unfolding Carried distances carried AllLand
all_land M listing o [] h = tt
all_land M listing o (i ∷ is) h =
    let rest = distances M (o + size i) is in
    let f = (row_of i.tag).first in
    let s = (row_of i.tag).second in
    let seconds = also s (sub_ℕ (M i.second) o) rest in (
      field_lands f M listing o i.first seconds (λ k c. h k (inl c)),
      rw (left_also f (sub_ℕ (M i.first) o) seconds) (field_lands s M listing o i.second rest (λ k c. h k (inr (inl c)))),
      rw (left_also f (sub_ℕ (M i.first) o) seconds, left_also s (sub_ℕ (M i.second) o) rest) (all_land M listing (o + size i) is (λ k c. h k (inr (inr c)))),
    )

-- 4. A distance back is that of a Jump

field_ahead : (b j : Bool) (M : ℕ → ℕ) (o l : ℕ) (ds : List ℤ) → (j ≡ false → b ≡ true → o ≤ M l) → FieldAhead b j (also b (sub_ℕ (M l) o) ds)
unfolding FieldAhead Forward also
field_ahead true true M o l ds h = tt
field_ahead true false M o l ds h = rw (le-ltb (M l) o (h refl refl)) tt
field_ahead false j M o l ds h = tt

jumps_only : (M : ℕ → ℕ) (o : ℕ) (acts : List Action) → Onwards M o acts → OnlyJumpsBack (records acts) (distances M o (records acts))
unfolding Onwards Ahead records distances carried OnlyJumpsBack
jumps_only M o [] h = tt
jumps_only M o (new at ∷ acts) h = jumps_only M o acts h
jumps_only M o (mark l ∷ acts) h = jumps_only M o acts h
jumps_only M o (emit i ∷ acts) h =
    let rest = distances M (o + size i) (records acts) in
    let f = (row_of i.tag).first in
    let s = (row_of i.tag).second in
    let seconds = also s (sub_ℕ (M i.second) o) rest in (
      field_ahead f (eqb i.tag Jump) M o i.first seconds (λ j c. (h.0 j).0 c),
      rw (left_also f (sub_ℕ (M i.first) o) seconds) (field_ahead s (eqb i.tag Jump) M o i.second rest (λ j c. (h.0 j).1 c)),
      rw (left_also f (sub_ℕ (M i.first) o) seconds, left_also s (sub_ℕ (M i.second) o) rest) (jumps_only M (o + size i) acts h.1),
    )
jumps_only M o (refuse n p x ∷ acts) h = jumps_only M o acts h

size_take : (j : ℕ) (is : List Instr) → total_size (take j is) ≤ total_size is
unfolding total_size
size_take zero is = omega arith
size_take (suc j) [] = omega arith
size_take (suc j) (i ∷ is) = omega (arith, size_take j is)

pub size_total : (acts : List Action) → total_size (records acts) ≡ total acts
unfolding total_size records total
size_total [] = refl
size_total (new at ∷ acts) = size_total acts
size_total (mark l ∷ acts) = size_total acts
size_total (emit i ∷ acts) = rw (size_total acts)
size_total (refuse n p x ∷ acts) = size_total acts

-- 5. A unit

abbrev pub records_of : Script → List Instr
records_of u = records (actions_of u)

module _ (u : Script) (M : ℕ → ℕ) (a : Agrees M 0 (actions_of u)) where
  pub unit_distances : distances M 0 (records_of u) ≡ distances_of u
  unit_distances = sym (dists_distances M 0 (actions_of u)) ∙ lands_as M u a

module _ (u : Script) (M : ℕ → ℕ) (a : Agrees M 0 (actions_of u)) where
  carried_marked : (k : ℕ) → Carried k (records_of u) → count k (actions_of u) ≢ 0
  carried_marked k c z =
      let N : ℕ → ℕ = bump k M in
      let e : distances N 0 (records_of u) ≡ distances M 0 (records_of u) = unit_distances u N (agrees_bump k M 0 (actions_of u) z a) ∙ sym (unit_distances u M a) in
      absurd (omega (arith, same N M 0 (records_of u) e k c, bump_same k M))

  pub unit_lands : AllLand (records_of u) 0 (records_of u) (distances_of u)
  unit_lands = rw (sym (unit_distances u M a)) (all_land M (records_of u) 0 (records_of u) (λ k c. marked_start M 0 (actions_of u) k a (carried_marked k c)))

  pub unit_jumps : OnlyJumpsBack (records_of u) (distances_of u)
  unit_jumps = rw (sym (unit_distances u M a)) (jumps_only M 0 (actions_of u) ((whole M u).onward a (refl, refl)))

  pub unit_marked : (k : ℕ) → Carried k (records_of u) → (k < news (actions_of u)) × (M k ≤ size_of u)
  unit_marked k c =
      let m = carried_marked k c in
      let q = marked_start M 0 (actions_of u) k a m in
      let lt : ¬ (news (actions_of u) ≤ k) = λ le. absurd (omega (arith, (whole M u).once k, m, below_no (0 + news (actions_of u)) k (omega arith))) in
      (omega arith, omega (arith, q.2, size_take q.0 (records_of u), size_total (actions_of u), (whole M u).sized a))
