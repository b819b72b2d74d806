-- A tree and the blanked tree lower alike: to the same labels, marks and offsets, and to records of the same sizes, labels and nodes. Assumes nothing.
use Prim.Native.Nat.{ℕ, zero, suc, ◌+◌}
use mathlib.Core.Path.{◌≡◌, refl, ap, sym, ◌∙◌}
use mathlib.Core.Bool.{Bool, true, false, cond, ◌||◌}
use mathlib.Core.List.{List, [], ◌∷◌, ◌++◌}
use native.Mathlib.Omega.{arith}
use native.Mathlib.Nat.{add-zero}
use lib.Dec.{ltb, eqb}
use lib.ListN.{length, get_or}
use borrow.Author.Tests.{le-ltb}
use Rattle.definitions.specs.Answer.{Result, made, refusal, onward, checked}
use Rattle.definitions.specs.Tag.{Nop, I32Zero, I32One, I32Const, FalseConst, TrueConst, sizes, tag_size, const_tags, const_tag, row_of}
use Rattle.definitions.specs.Instr.{Instr, plain, size}
use Rattle.definitions.specs.Tree.{Script}
use Rattle.definitions.specs.Code.{State, start}
use Rattle.definitions.specs.Lower.{outside, lower}
use Rattle.definitions.specs.Strip.{least}
use Rattle.laws.proofs.Picked.{const_plain}
use Rattle.instep.specs.Moves.{moved_script}
use Rattle.instep.proofs.Codes.{IsSimulation, Both, makes, refused, full, run_both}
use Rattle.instep.proofs.Likes.{Rules, nowhere, like_block}
use Rattle.alike.proofs.RestLaws.{blanking}

-- 1. What is alike

pub record Same (i j : Instr) : Type 0 where
  pub size_is : size i ≡ size j
  pub first_is : i.first ≡ j.first
  pub second_is : i.second ≡ j.second
  pub node_is : i.node ≡ j.node
  -- whether these are labels
  pub carries_first : (row_of i.tag).first ≡ (row_of j.tag).first
  pub carries_second : (row_of i.tag).second ≡ (row_of j.tag).second

unfoldable pub Sames : List Instr → List Instr → Type 0
Sames [] [] = Unit
Sames [] (j ∷ js) = ⊥
Sames (i ∷ is) [] = ⊥
Sames (i ∷ is) (j ∷ js) = Same i j × Sames is js

pub record AlikeStates (t u : State) : Type 0 where
  pub offset_is : t.offset ≡ u.offset
  pub marks_are : t.marks ≡ u.marks
  pub records : Sames t.instrs u.instrs

-- both make what is alike, or both are refused with the same three numbers
unfoldable pub Agree : {A : Type 0} (R : A → A → Type 0) → Result A → Result A → Type 0
Agree R (made a) (made b) = R a b
Agree R (made a) (refusal n p x) = ⊥
Agree R (refusal n p x) (made b) = ⊥
Agree R (refusal n p x) (refusal m q y) = (n ≡ m) × (p ≡ q) × (x ≡ y)

-- 2. Results

pub onward_agree : {A B : Type 0} (R : A → A → Type 0) (S : B → B → Type 0) (r r' : Result A) (f f' : A → Result B) → Agree R r r'
    → ((a b : A) → R a b → Agree S (f a) (f' b)) → Agree S (onward r f) (onward r' f')
unfolding Agree onward
onward_agree R S (made a) (made b) f f' h i = i a b h
onward_agree R S (made a) (refusal n p x) f f' h i = absurd h
onward_agree R S (refusal n p x) (made b) f f' h i = absurd h
onward_agree R S (refusal n p x) (refusal m q y) f f' h i = h

pub checked_agree : {A : Type 0} (R : A → A → Type 0) (b : Bool) (n p x : ℕ) (r r' : Result A) → Agree R r r' → Agree R (checked b n p x r) (checked b n p x r')
unfolding Agree checked
checked_agree R true n p x r r' h = h
checked_agree R false n p x r r' h = (refl, refl, refl)

-- 3. Lowering a blanked tree is in step with lowering the tree

sames_on : (is js : List Instr) (i j : Instr) → Sames is js → Same i j → Sames (is ++ (i ∷ [])) (js ++ (j ∷ []))
unfolding Sames
sames_on [] [] i j h e = (e, tt)
sames_on [] (y ∷ js) i j h e = absurd h
sames_on (x ∷ is) [] i j h e = absurd h
sames_on (x ∷ is) (y ∷ js) i j h e = (h.0, sames_on is js i j h.1 e)

-- of one tag, node and labels, whatever their other fields are
tagged : {t m m' f f' g g' l l' h h' v v' at : ℕ} → f' ≡ f + 0 → g' ≡ g + 0 → Same
    (record { tag = t; small = m; first = f; second = g; line = l; flags = h; value = v; node = at })
    (record { tag = t; small = m'; first = f'; second = g'; line = l'; flags = h'; value = v'; node = at })
unfolding size
tagged {f = f} {g = g} e d =
    record { size_is = refl; first_is = sym (e ∙ add-zero f); second_is = sym (d ∙ add-zero g); node_is = refl; carries_first = refl; carries_second = refl }

-- a constant's tag may differ within its class, and its size may not
abbrev tag_for : (int bool : Bool) (b v : ℕ) → ℕ
tag_for p q b v =
    elim p as (λ _. ℕ) [
      | true ↦ get_or (I32Zero ∷ I32One ∷ []) v I32Const
      | false ↦
          elim q as (λ _. ℕ) [ true ↦ get_or (FalseConst ∷ []) v TrueConst | false ↦ get_or const_tags b Nop ]
    ]

const_size : (b v : ℕ) → tag_size (const_tag b v) ≡ tag_size (const_tag b (least b v))
unfolding const_tag least tag_size sizes
const_size b v = go (eqb b 9) (eqb b 15) v
  where
    go : (p q : Bool) (v : ℕ) → tag_size (tag_for p q b v) ≡ tag_size (tag_for p q b (cond (p || q) (cond (ltb v 2) 0 2) 0))
    go true q zero = refl
    go true q (suc zero) = refl
    go true q (suc (suc v)) = rw (le-ltb (suc (suc v)) 2 (omega arith))
    go false true zero = refl
    go false true (suc zero) = refl
    go false true (suc (suc v)) = rw (le-ltb (suc (suc v)) 2 (omega arith))
    go false false v = refl

constants_same : (at b v : ℕ) → Same (plain at (const_tag b v) 0 v) (plain at (const_tag b (least b v)) 0 (least b v))
unfolding size
constants_same at b v =
    let c = (const_plain b v).carries in
    let d = (const_plain b (least b v)).carries in
    record { size_is = const_size b v; first_is = refl; second_is = refl; node_is = refl; carries_first = c.0 ∙ sym d.0; carries_second = c.1 ∙ sym d.1 }

zero_on : 0 ≡ 0 + 0
zero_on = omega arith

same_rules : Rules blanking 0 Same
same_rules = record {
  plains = λ at t a v c. tagged zero_on zero_on;
  frees = λ at t a v c. tagged zero_on zero_on;
  constants = constants_same;
  ones = λ at t l l' c e. tagged e zero_on;
  twos = λ at t l l' j j' c e d. tagged e d;
  switches = λ at t l l' v c e. tagged e zero_on;
  invokes = λ at t l l' n f v c e. tagged e zero_on;
}

alike_simulation : IsSimulation 0 Same AlikeStates
alike_simulation = record {
  long = λ t u h. omega (arith, ap (λ (y : List ℕ). length y) h.marks_are);
  new = λ t u h. record { offset_is = h.offset_is; marks_are = rw h.marks_are; records = h.records };
  mark = λ t u h l l' e. record { offset_is = h.offset_is; marks_are = rw (e, add-zero l, h.marks_are, h.offset_is); records = h.records };
  emit = λ t u h i j e. record { offset_is = rw (h.offset_is, e.size_is); marks_are = h.marks_are; records = sames_on t.instrs u.instrs i j h.records e };
}

agree_of : (r q : Result State) → Both (λ p. p) 0 AlikeStates r q → Agree AlikeStates r q
unfolding Agree
agree_of r q (makes t u e d s) = rw (e, d) s
agree_of r q (refused n p x e d) = rw (e, d) (refl, refl, refl)
agree_of r q (full at z d i) = absurd (omega arith)

-- from the start, whatever the tree
pub lower_agree : (u : Script) → Agree AlikeStates (lower u) (lower (moved_script blanking u))
unfolding Sames
lower_agree u =
    agree_of _ _ (run_both alike_simulation (like_block blanking 0 Same same_rules u.body (outside u.returns) (outside u.returns)
    (record { break_is = nowhere; continue_is = nowhere; returns_is = refl }))
    start start (record { offset_is = refl; marks_are = refl; records = tt }))
