-- Virtual sizes: what is to be known of the table and of a record's size. Beside Picked no other proof looks into either.
use Prim.Native.Nat.{ℕ, ◌+◌, ◌≤◌, ◌<◌}
use mathlib.Core.Path.{◌≡◌, refl}
use mathlib.Core.Bool.{true}
use mathlib.Core.List.{List, [], ◌∷◌}
use native.Mathlib.Omega.{arith}
use native.Mathlib.Decide.{dec_lt}
use lib.Dec.{leb, leb→le}
use lib.ListN.{get_or-eq_default}
use borrow.Author.Tests.{lt-ltb}
use Rattle.definitions.specs.Tag
use Rattle.definitions.specs.Tag.{sizes, tag_size, emitted}
use Rattle.definitions.specs.Instr.{Instr, size}
use Rattle.definitions.specs.Stage.{total_size}
use Rattle.laws.proofs.Tables.{every, at}

-- a record has the size of its tag
pub size_is : (i : Instr) → size i ≡ tag_size i.tag
unfolding size
size_is i = refl

-- so a list of records has the sum of its tags' sizes
abbrev pub tag_total : List Instr → ℕ
tag_total [] = 0
tag_total (i ∷ is) = tag_size i.tag + tag_total is

pub total_is : (is : List Instr) → total_size is ≡ tag_total is
unfolding total_size
total_is [] = refl
total_is (i ∷ is) = omega (arith, size_is i, total_is is)

-- no instruction is larger than 17
pub size_limit : (tag : ℕ) → tag_size tag ≤ 17
unfolding tag_size sizes every
size_limit t = leb→le (tag_size t) 17 (at (λ x. leb x 17) sizes 0 tt tt t)

-- a tag with a size is one that the base emits, and a byte
pub emitted_is : (tag : ℕ) → 0 < tag_size tag → emitted tag ≡ true
unfolding emitted
emitted_is t h = lt-ltb 0 (tag_size t) h

pub tag_fits : (tag : ℕ) → 0 < tag_size tag → tag < 256
unfolding tag_size sizes
tag_fits t h = elim (dec_lt t 256) [ yes l ↦ l | no l ↦ absurd (omega (arith, get_or-eq_default sizes 0 {n = t} (omega arith))) ]

-- the instructions that a rule of lowering names, each with its size
pub record Sized : Type 0 where
  pub nop : tag_size Tag.Nop ≡ 1
  pub null : tag_size Tag.Null ≡ 1
  pub i8_const : tag_size Tag.I8Const ≡ 2
  pub u64_const : tag_size Tag.U64Const ≡ 9
  pub assign : tag_size Tag.Assign ≡ 1
  pub local : tag_size Tag.Local ≡ 9
  pub object_field : tag_size Tag.ObjectField ≡ 9
  pub switch : tag_size Tag.Switch ≡ 11
  pub switch_label : tag_size Tag.SwitchLabel ≡ 5
  pub switch_default : tag_size Tag.SwitchDefault ≡ 1
  pub jump : tag_size Tag.Jump ≡ 3
  pub jump_if_false : tag_size Tag.JumpIfFalse ≡ 3
  pub skip : tag_size Tag.Skip ≡ 3
  pub conditional : tag_size Tag.Conditional ≡ 5
  pub construct : tag_size Tag.Construct ≡ 10
  pub invoke_static : tag_size Tag.InvokeStatic ≡ 15
  pub invoke_virtual : tag_size Tag.InvokeVirtual ≡ 15
  pub param_end : tag_size Tag.ParamEnd ≡ 1
  pub return : tag_size Tag.Return ≡ 1
  pub struct_field : tag_size Tag.StructField ≡ 9
  pub context : tag_size Tag.Context ≡ 3
  pub new : tag_size Tag.New ≡ 9
  pub array_clear : tag_size Tag.ArrayClear ≡ 9
  pub array_resize : tag_size Tag.ArrayResize ≡ 9
  pub array_element : tag_size Tag.ArrayElement ≡ 9
  pub i32_to_enum : tag_size Tag.I32ToEnum ≡ 10
  pub dynamic_cast : tag_size Tag.DynamicCast ≡ 10
  pub weak_ref_to_ref : tag_size Tag.WeakRefToRef ≡ 1

pub sized : Sized
unfolding tag_size sizes
sized = record {
  nop = refl;
  null = refl;
  i8_const = refl;
  u64_const = refl;
  assign = refl;
  local = refl;
  object_field = refl;
  switch = refl;
  switch_label = refl;
  switch_default = refl;
  jump = refl;
  jump_if_false = refl;
  skip = refl;
  conditional = refl;
  construct = refl;
  invoke_static = refl;
  invoke_virtual = refl;
  param_end = refl;
  return = refl;
  struct_field = refl;
  context = refl;
  new = refl;
  array_clear = refl;
  array_resize = refl;
  array_element = refl;
  i32_to_enum = refl;
  dynamic_cast = refl;
  weak_ref_to_ref = refl;
}
