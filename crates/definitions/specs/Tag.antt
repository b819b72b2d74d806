-- The tags that the base emits, by the names of instr.rs, and what goes with each.
use Rattle.std.specs.Prelude.{ℕ, Bool, true, false, List, [], ◌∷◌, ltb, eqb, get_or, replicate}

-- 1. The 77 tags

abbrev pub Nop : ℕ
Nop = 0x00

abbrev pub Null : ℕ
Null = 0x01

abbrev pub I32One : ℕ
I32One = 0x02

abbrev pub I32Zero : ℕ
I32Zero = 0x03

abbrev pub I8Const : ℕ
I8Const = 0x04

abbrev pub I16Const : ℕ
I16Const = 0x05

abbrev pub I32Const : ℕ
I32Const = 0x06

abbrev pub I64Const : ℕ
I64Const = 0x07

abbrev pub U8Const : ℕ
U8Const = 0x08

abbrev pub U16Const : ℕ
U16Const = 0x09

abbrev pub U32Const : ℕ
U32Const = 0x0A

abbrev pub U64Const : ℕ
U64Const = 0x0B

abbrev pub F32Const : ℕ
F32Const = 0x0C

abbrev pub F64Const : ℕ
F64Const = 0x0D

abbrev pub CNameConst : ℕ
CNameConst = 0x0E

abbrev pub EnumConst : ℕ
EnumConst = 0x0F

abbrev pub StringConst : ℕ
StringConst = 0x10

abbrev pub TweakDbIdConst : ℕ
TweakDbIdConst = 0x11

abbrev pub ResourceConst : ℕ
ResourceConst = 0x12

abbrev pub TrueConst : ℕ
TrueConst = 0x13

abbrev pub FalseConst : ℕ
FalseConst = 0x14

abbrev pub Assign : ℕ
Assign = 0x16

abbrev pub Local : ℕ
Local = 0x18

abbrev pub Param : ℕ
Param = 0x19

abbrev pub ObjectField : ℕ
ObjectField = 0x1A

abbrev pub Switch : ℕ
Switch = 0x1C

abbrev pub SwitchLabel : ℕ
SwitchLabel = 0x1D

abbrev pub SwitchDefault : ℕ
SwitchDefault = 0x1E

abbrev pub Jump : ℕ
Jump = 0x1F

abbrev pub JumpIfFalse : ℕ
JumpIfFalse = 0x20

abbrev pub Skip : ℕ
Skip = 0x21

abbrev pub Conditional : ℕ
Conditional = 0x22

abbrev pub Construct : ℕ
Construct = 0x23

abbrev pub InvokeStatic : ℕ
InvokeStatic = 0x24

abbrev pub InvokeVirtual : ℕ
InvokeVirtual = 0x25

abbrev pub ParamEnd : ℕ
ParamEnd = 0x26

abbrev pub Return : ℕ
Return = 0x27

abbrev pub StructField : ℕ
StructField = 0x28

abbrev pub Context : ℕ
Context = 0x29

abbrev pub Equals : ℕ
Equals = 0x2A

abbrev pub NotEquals : ℕ
NotEquals = 0x2D

abbrev pub New : ℕ
New = 0x30

abbrev pub This : ℕ
This = 0x32

abbrev pub ArrayClear : ℕ
ArrayClear = 0x34

abbrev pub ArraySize : ℕ
ArraySize = 0x35

abbrev pub ArrayResize : ℕ
ArrayResize = 0x36

abbrev pub ArrayFindFirst : ℕ
ArrayFindFirst = 0x37

abbrev pub ArrayFindLast : ℕ
ArrayFindLast = 0x39

abbrev pub ArrayContains : ℕ
ArrayContains = 0x3B

abbrev pub ArrayCount : ℕ
ArrayCount = 0x3D

abbrev pub ArrayPush : ℕ
ArrayPush = 0x3F

abbrev pub ArrayPop : ℕ
ArrayPop = 0x40

abbrev pub ArrayInsert : ℕ
ArrayInsert = 0x41

abbrev pub ArrayRemove : ℕ
ArrayRemove = 0x42

abbrev pub ArrayGrow : ℕ
ArrayGrow = 0x44

abbrev pub ArrayErase : ℕ
ArrayErase = 0x45

abbrev pub ArrayLast : ℕ
ArrayLast = 0x47

abbrev pub ArrayElement : ℕ
ArrayElement = 0x48

abbrev pub ArraySort : ℕ
ArraySort = 0x49

abbrev pub ArraySortByPredicate : ℕ
ArraySortByPredicate = 0x4A

abbrev pub StaticArrayElement : ℕ
StaticArrayElement = 0x55

abbrev pub RefToBool : ℕ
RefToBool = 0x56

abbrev pub EnumToI32 : ℕ
EnumToI32 = 0x58

abbrev pub I32ToEnum : ℕ
I32ToEnum = 0x59

abbrev pub DynamicCast : ℕ
DynamicCast = 0x5A

abbrev pub ToString : ℕ
ToString = 0x5B

abbrev pub ToVariant : ℕ
ToVariant = 0x5C

abbrev pub FromVariant : ℕ
FromVariant = 0x5D

abbrev pub VariantIsDefined : ℕ
VariantIsDefined = 0x5E

abbrev pub VariantIsRef : ℕ
VariantIsRef = 0x5F

abbrev pub VariantIsArray : ℕ
VariantIsArray = 0x60

abbrev pub VariantTypeName : ℕ
VariantTypeName = 0x61

abbrev pub WeakRefToRef : ℕ
WeakRefToRef = 0x63

abbrev pub RefToWeakRef : ℕ
RefToWeakRef = 0x64

abbrev pub WeakRefNull : ℕ
WeakRefNull = 0x65

abbrev pub AsRef : ℕ
AsRef = 0x66

abbrev pub Deref : ℕ
Deref = 0x67

-- 2. Virtual sizes, "from one table of 256 entries indexed by tag, 0 where the base emits no such tag": sixteen tags a row

unfoldable pub sizes : List ℕ
sizes =
    1 ∷ 1 ∷ 1 ∷ 1 ∷ 2 ∷ 3 ∷ 5 ∷ 9 ∷ 2 ∷ 3 ∷ 5 ∷ 9 ∷ 5 ∷ 9 ∷ 9 ∷ 17 ∷
    5 ∷ 9 ∷ 9 ∷ 1 ∷ 1 ∷ 0 ∷ 1 ∷ 0 ∷ 9 ∷ 9 ∷ 9 ∷ 0 ∷ 11 ∷ 5 ∷ 1 ∷ 3 ∷
    3 ∷ 3 ∷ 5 ∷ 10 ∷ 15 ∷ 15 ∷ 1 ∷ 1 ∷ 9 ∷ 3 ∷ 9 ∷ 0 ∷ 0 ∷ 9 ∷ 0 ∷ 0 ∷
    9 ∷ 0 ∷ 1 ∷ 0 ∷ 9 ∷ 9 ∷ 9 ∷ 9 ∷ 0 ∷ 9 ∷ 0 ∷ 9 ∷ 0 ∷ 9 ∷ 0 ∷ 9 ∷
    9 ∷ 9 ∷ 9 ∷ 0 ∷ 9 ∷ 9 ∷ 0 ∷ 9 ∷ 9 ∷ 9 ∷ 9 ∷ 0 ∷ 0 ∷ 0 ∷ 0 ∷ 0 ∷
    0 ∷ 0 ∷ 0 ∷ 0 ∷ 0 ∷ 9 ∷ 1 ∷ 0 ∷ 10 ∷ 10 ∷ 10 ∷ 9 ∷ 9 ∷ 9 ∷ 1 ∷ 1 ∷
    1 ∷ 1 ∷ 0 ∷ 1 ∷ 1 ∷ 1 ∷ 9 ∷ 9 ∷ replicate 152 0

unfoldable pub tag_size : (tag : ℕ) → ℕ
tag_size t = get_or sizes t 0

unfoldable pub emitted : (tag : ℕ) → Bool
emitted t = ltb 0 (tag_size t)

-- 3. "Which fields a tag uses is a table with one row per tag"

pub record Row : Type 0 where
  pub small : Bool
  pub first : Bool
  pub second : Bool
  pub line : Bool
  pub flags : Bool
  pub value : Bool

-- no field
abbrev o : Row
o = record { small = false; first = false; second = false; line = false; flags = false; value = false }

-- an index or a constant
abbrev v : Row
v = record { small = false; first = false; second = false; line = false; flags = false; value = true }

-- the only label
abbrev j : Row
j = record { small = false; first = true; second = false; line = false; flags = false; value = false }

-- first_case and the type
abbrev s : Row
s = record { small = false; first = true; second = false; line = false; flags = false; value = true }

-- two labels: false_label and exit, next_case and body
abbrev p : Row
p = record { small = false; first = true; second = true; line = false; flags = false; value = false }

-- arg_count, size or is_weak, and an index
abbrev c : Row
c = record { small = true; first = false; second = false; line = false; flags = false; value = true }

-- exit, line, flags and the function or its name
abbrev i : Row
i = record { small = false; first = true; second = false; line = true; flags = true; value = true }

unfoldable pub rows : List Row
rows =
    o ∷ o ∷ o ∷ o ∷ v ∷ v ∷ v ∷ v ∷ v ∷ v ∷ v ∷ v ∷ v ∷ v ∷ v ∷ v ∷
    v ∷ v ∷ v ∷ o ∷ o ∷ o ∷ o ∷ o ∷ v ∷ v ∷ v ∷ o ∷ s ∷ p ∷ o ∷ j ∷
    j ∷ j ∷ p ∷ c ∷ i ∷ i ∷ o ∷ o ∷ v ∷ j ∷ v ∷ o ∷ o ∷ v ∷ o ∷ o ∷
    v ∷ o ∷ o ∷ o ∷ v ∷ v ∷ v ∷ v ∷ o ∷ v ∷ o ∷ v ∷ o ∷ v ∷ o ∷ v ∷
    v ∷ v ∷ v ∷ o ∷ v ∷ v ∷ o ∷ v ∷ v ∷ v ∷ v ∷ o ∷ o ∷ o ∷ o ∷ o ∷
    o ∷ o ∷ o ∷ o ∷ o ∷ v ∷ o ∷ o ∷ c ∷ c ∷ c ∷ v ∷ v ∷ v ∷ o ∷ o ∷
    o ∷ o ∷ o ∷ o ∷ o ∷ o ∷ v ∷ v ∷ replicate 152 o

unfoldable pub row_of : (tag : ℕ) → Row
row_of t = get_or rows t o

-- 4. Tags by number

-- default bytes "5 to 21 the seventeen primitives in the order of emit_default_instr", from 5 on
unfoldable pub default_tags : List ℕ
default_tags =
    StringConst ∷ CNameConst ∷ ResourceConst ∷ TweakDbIdConst ∷ F32Const ∷ F64Const ∷ I8Const ∷ I16Const ∷ I32Zero ∷
    I64Const ∷ U8Const ∷ U16Const ∷ U32Const ∷ U64Const ∷ FalseConst ∷ Null ∷ WeakRefNull ∷ []

-- const bytes "0 to 14 in the order of ir::Const from Str to U64, 15 Bool"; an I32 of 0 or 1 and a Bool have tags of their own value
unfoldable pub const_tags : List ℕ
const_tags =
    StringConst ∷ CNameConst ∷ ResourceConst ∷ TweakDbIdConst ∷ EnumConst ∷ F32Const ∷ F64Const ∷
    I8Const ∷ I16Const ∷ I32Const ∷ I64Const ∷ U8Const ∷ U16Const ∷ U32Const ∷ U64Const ∷ TrueConst ∷ []

unfoldable pub const_tag : (byte value : ℕ) → ℕ
const_tag b n = elim (eqb b 9) [
  | true ↦ get_or (I32Zero ∷ I32One ∷ []) n I32Const
  | false ↦ elim (eqb b 15) [ true ↦ get_or (FalseConst ∷ []) n TrueConst | false ↦ get_or const_tags b Nop ]
]

-- the payload's bytes: "an index for 0 to 3, two for the enum (itself, then its value), a mark for Bool, else the value's own bytes"
unfoldable pub const_widths : List ℕ
const_widths = 4 ∷ 4 ∷ 4 ∷ 4 ∷ 8 ∷ 4 ∷ 8 ∷ 1 ∷ 2 ∷ 4 ∷ 8 ∷ 1 ∷ 2 ∷ 4 ∷ 8 ∷ 1 ∷ []

-- what an intrinsic emits: its tag, its `small`, and how many type arguments it needs
pub record Intrinsic : Type 0 where
  pub tag : ℕ
  pub small : ℕ
  pub types : ℕ

abbrev typed : (tag : ℕ) → Intrinsic
typed t = record { tag = t; small = 0; types = 1 }

abbrev sized : (tag small : ℕ) → Intrinsic
sized t m = record { tag = t; small = m; types = 1 }

-- "Five intrinsics need no type argument (four Variant queries, IsDefined); the others need one"
abbrev untyped : (tag : ℕ) → Intrinsic
untyped t = record { tag = t; small = 0; types = 0 }

-- "code 0 to 33 in the order of intrinsic.rs"
unfoldable pub intrinsics : List Intrinsic
intrinsics =
    typed Equals ∷ typed NotEquals ∷ typed ArrayClear ∷ typed ArraySize ∷ typed ArrayResize ∷ typed ArrayFindFirst ∷
    typed ArrayFindLast ∷ typed ArrayContains ∷ typed ArrayCount ∷ typed ArrayPush ∷ typed ArrayPop ∷ typed ArrayInsert ∷
    typed ArrayRemove ∷ typed ArrayGrow ∷ typed ArrayErase ∷ typed ArrayLast ∷ typed ArraySort ∷ typed ArraySortByPredicate ∷
    typed ToString ∷ sized EnumToI32 4 ∷ sized I32ToEnum 4 ∷ sized I32ToEnum 8 ∷ typed ToVariant ∷ typed FromVariant ∷
    untyped VariantIsDefined ∷ untyped VariantIsRef ∷ untyped VariantIsArray ∷ untyped VariantTypeName ∷ typed AsRef ∷ typed Deref ∷
    typed RefToWeakRef ∷ typed WeakRefToRef ∷ untyped RefToBool ∷ typed CNameConst ∷ []

unfoldable pub intrinsic_of : (code : ℕ) → Intrinsic
intrinsic_of k = get_or intrinsics k (untyped Nop)

-- the two that decide an argument's flag
abbrev pub code_as_ref : ℕ
code_as_ref = 28

abbrev pub code_deref : ℕ
code_deref = 29
