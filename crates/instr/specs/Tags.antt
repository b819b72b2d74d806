-- The code's tags and their bytes, which are the tags of the definitions.
use Rattle.std.specs.Prelude.{◌≡◌, ℕ, false, Result, MatchResult}
use Rattle.definitions.specs.Tag as definitions
use Rattle.instr.specs.declared.tag.Tag.{Tag}
use Rattle.instr.specs.declared.tag.Tag.TheVariants as tag
use Rattle.instr.specs.declared.tag.NoTag.{NoTag}

abbrev pub byte_of : Tag → ℕ
byte_of tag.Nop = definitions.Nop
byte_of tag.Null = definitions.Null
byte_of tag.I32One = definitions.I32One
byte_of tag.I32Zero = definitions.I32Zero
byte_of tag.I8Const = definitions.I8Const
byte_of tag.I16Const = definitions.I16Const
byte_of tag.I32Const = definitions.I32Const
byte_of tag.I64Const = definitions.I64Const
byte_of tag.U8Const = definitions.U8Const
byte_of tag.U16Const = definitions.U16Const
byte_of tag.U32Const = definitions.U32Const
byte_of tag.U64Const = definitions.U64Const
byte_of tag.F32Const = definitions.F32Const
byte_of tag.F64Const = definitions.F64Const
byte_of tag.CNameConst = definitions.CNameConst
byte_of tag.EnumConst = definitions.EnumConst
byte_of tag.StringConst = definitions.StringConst
byte_of tag.TweakDbIdConst = definitions.TweakDbIdConst
byte_of tag.ResourceConst = definitions.ResourceConst
byte_of tag.TrueConst = definitions.TrueConst
byte_of tag.FalseConst = definitions.FalseConst
byte_of tag.Assign = definitions.Assign
byte_of tag.Local = definitions.Local
byte_of tag.Param = definitions.Param
byte_of tag.ObjectField = definitions.ObjectField
byte_of tag.Switch = definitions.Switch
byte_of tag.SwitchLabel = definitions.SwitchLabel
byte_of tag.SwitchDefault = definitions.SwitchDefault
byte_of tag.Jump = definitions.Jump
byte_of tag.JumpIfFalse = definitions.JumpIfFalse
byte_of tag.Skip = definitions.Skip
byte_of tag.Conditional = definitions.Conditional
byte_of tag.Construct = definitions.Construct
byte_of tag.InvokeStatic = definitions.InvokeStatic
byte_of tag.InvokeVirtual = definitions.InvokeVirtual
byte_of tag.ParamEnd = definitions.ParamEnd
byte_of tag.Return = definitions.Return
byte_of tag.StructField = definitions.StructField
byte_of tag.Context = definitions.Context
byte_of tag.Equals = definitions.Equals
byte_of tag.NotEquals = definitions.NotEquals
byte_of tag.New = definitions.New
byte_of tag.This = definitions.This
byte_of tag.ArrayClear = definitions.ArrayClear
byte_of tag.ArraySize = definitions.ArraySize
byte_of tag.ArrayResize = definitions.ArrayResize
byte_of tag.ArrayFindFirst = definitions.ArrayFindFirst
byte_of tag.ArrayFindLast = definitions.ArrayFindLast
byte_of tag.ArrayContains = definitions.ArrayContains
byte_of tag.ArrayCount = definitions.ArrayCount
byte_of tag.ArrayPush = definitions.ArrayPush
byte_of tag.ArrayPop = definitions.ArrayPop
byte_of tag.ArrayInsert = definitions.ArrayInsert
byte_of tag.ArrayRemove = definitions.ArrayRemove
byte_of tag.ArrayGrow = definitions.ArrayGrow
byte_of tag.ArrayErase = definitions.ArrayErase
byte_of tag.ArrayLast = definitions.ArrayLast
byte_of tag.ArrayElement = definitions.ArrayElement
byte_of tag.ArraySort = definitions.ArraySort
byte_of tag.ArraySortByPredicate = definitions.ArraySortByPredicate
byte_of tag.StaticArrayElement = definitions.StaticArrayElement
byte_of tag.RefToBool = definitions.RefToBool
byte_of tag.EnumToI32 = definitions.EnumToI32
byte_of tag.I32ToEnum = definitions.I32ToEnum
byte_of tag.DynamicCast = definitions.DynamicCast
byte_of tag.ToString = definitions.ToString
byte_of tag.ToVariant = definitions.ToVariant
byte_of tag.FromVariant = definitions.FromVariant
byte_of tag.VariantIsDefined = definitions.VariantIsDefined
byte_of tag.VariantIsRef = definitions.VariantIsRef
byte_of tag.VariantIsArray = definitions.VariantIsArray
byte_of tag.VariantTypeName = definitions.VariantTypeName
byte_of tag.WeakRefToRef = definitions.WeakRefToRef
byte_of tag.RefToWeakRef = definitions.RefToWeakRef
byte_of tag.WeakRefNull = definitions.WeakRefNull
byte_of tag.AsRef = definitions.AsRef
byte_of tag.Deref = definitions.Deref

-- the tag with this byte; none where the base emits no such instruction
abbrev pub Decodes : ℕ → Result Tag NoTag → Type 0
Decodes byte r = MatchResult r (λ t. byte_of t ≡ byte) (λ e. definitions.emitted byte ≡ false)
