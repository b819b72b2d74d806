-- Tags that lowering picks by number: each is one that the base emits, of an instruction that carries no label.
use Prim.Native.Nat.{ℕ, zero, suc, ◌<◌}
use mathlib.Core.Path.{◌≡◌, refl}
use mathlib.Core.Bool.{Bool, true, false, ◌&&◌, not}
use mathlib.Core.List.{List, [], ◌∷◌, map}
use lib.Dec.{T, eqb, ltb, ltb→lt}
use lib.ListN.{get_or, get_or-map}
use Rattle.definitions.specs.Tag.{sizes, tag_size, emitted, rows, row_of, const_tags, const_tag, default_tags, Intrinsic, intrinsics, intrinsic_of, Nop, I32Zero, I32One, I32Const, FalseConst, TrueConst, This, Local, Param, ObjectField}
use Rattle.definitions.specs.Lower.{null_tag, element_tag, local_tag}
use Rattle.laws.proofs.Tables.{every, at}

-- which labels the records of a tag carry
abbrev pub Carries : (tag : ℕ) (first second : Bool) → Type 0
Carries t f s = ((row_of t).first ≡ f) × ((row_of t).second ≡ s)

pub record Plain (tag : ℕ) : Type 0 where
  pub sized : 0 < tag_size tag
  pub carries : Carries tag false false

unfoldable is_plain : (tag : ℕ) → Bool
is_plain t = emitted t && not (row_of t).first && not (row_of t).second

plain : (t : ℕ) → T (is_plain t) → Plain t
unfolding is_plain emitted
plain t h = go (ltb 0 (tag_size t)) (row_of t).first (row_of t).second (ltb→lt 0 (tag_size t)) refl refl h
  where
    go : (e f s : Bool) → (T e → 0 < tag_size t) → (row_of t).first ≡ f → (row_of t).second ≡ s → T (e && not f && not s) → Plain t
    go true false false k p q h = record { sized = k tt; carries = (p, q) }
    go true false true k p q h = absurd h
    go true true s k p q h = absurd h
    go false f s k p q h = absurd h

-- one entry of a table, or the default
plain_at : (ts : List ℕ) (d : ℕ) → T (every is_plain ts) → T (is_plain d) → (k : ℕ) → Plain (get_or ts k d)
plain_at ts d h e k = plain (get_or ts k d) (at is_plain ts d h e k)

pub const_plain : (b v : ℕ) → Plain (const_tag b v)
unfolding const_tag const_tags is_plain emitted tag_size sizes row_of rows every
const_plain b v = go (eqb b 9) (eqb b 15)
  where
    go : (p q : Bool) → Plain (elim p [ true ↦ get_or (I32Zero ∷ I32One ∷ []) v I32Const | false ↦ elim q [ true ↦ get_or (FalseConst ∷ []) v TrueConst | false ↦ get_or const_tags b Nop ] ])
    go true q = plain_at (I32Zero ∷ I32One ∷ []) I32Const tt tt v
    go false true = plain_at (FalseConst ∷ []) TrueConst tt tt v
    go false false = plain_at const_tags Nop tt tt b

pub null_plain : (weak : ℕ) → Plain (null_tag weak)
unfolding null_tag is_plain emitted tag_size sizes row_of rows
null_plain zero = plain _ tt
null_plain (suc w) = plain _ tt

pub element_plain : (dynamic : ℕ) → Plain (element_tag dynamic)
unfolding element_tag is_plain emitted tag_size sizes row_of rows
element_plain zero = plain _ tt
element_plain (suc d) = plain _ tt

pub local_plain : (form : ℕ) → Plain (local_tag form)
unfolding local_tag is_plain emitted tag_size sizes row_of rows every
local_plain f = plain_at (This ∷ Local ∷ Param ∷ []) ObjectField tt tt f

pub primitive_plain : (k : ℕ) → Plain (get_or default_tags k Nop)
unfolding default_tags is_plain emitted tag_size sizes row_of rows every
primitive_plain k = plain_at default_tags Nop tt tt k

unfoldable tags_of : List Intrinsic → List ℕ
tags_of ks = map (λ k. k.tag) ks

pub intrinsic_plain : (code : ℕ) → Plain (intrinsic_of code).tag
unfolding intrinsic_of intrinsics is_plain emitted tag_size sizes row_of rows every tags_of
intrinsic_plain k = rw (← get_or-map (λ i. i.tag) intrinsics k _) (plain_at (tags_of intrinsics) Nop tt tt k)

unfoldable smalls_of : List Intrinsic → List ℕ
smalls_of ks = map (λ k. k.small) ks

-- and its `small` is a byte
pub intrinsic_small : (code : ℕ) → (intrinsic_of code).small < 256
unfolding intrinsic_of intrinsics every smalls_of
intrinsic_small k = rw (← get_or-map (λ i. i.small) intrinsics k _) (ltb→lt (get_or (smalls_of intrinsics) k 0) 256 (at (λ x. ltb x 256) (smalls_of intrinsics) 0 tt tt k))
