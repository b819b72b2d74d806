-- The head of an argument, as its bytes have it.
use Rattle.std.specs.Prelude.{ℕ, ◌+◌, Bool, true, false, ◌&&◌, ◌||◌, List, leb, ltb, eqb, get_or}
use Rattle.definitions.specs.Tag.{code_as_ref, code_deref}
use Rattle.ir.specs.Places.{end_of}
use Rattle.ir.specs.declared.Arg.{Arg}
use Rattle.ir.specs.declared.Arg.TheVariants.{AsRef, Place, Value}

-- the kinds that decide
abbrev kind_field : ℕ
kind_field = 7

abbrev kind_index : ℕ
kind_index = 8

abbrev kind_local : ℕ
kind_local = 11

abbrev kind_intrinsic : ℕ
kind_intrinsic = 12

-- an intrinsic call: its code is the byte after the kind, its arguments' run stands at the twelfth byte
unfoldable pub intrinsic_at : (s : List ℕ) (at : ℕ) → Arg
intrinsic_at s at = elim (eqb (get_or s (at + 5) 0) code_as_ref) [
  | true ↦ AsRef (at + 16) (end_of s (at + 12))
  | false ↦ elim (eqb (get_or s (at + 5) 0) code_deref) [ true ↦ Place | false ↦ Value ]
]

-- a field, an index, a local or a capture is a place
unfoldable pub place_kind : (kind : ℕ) → Bool
place_kind k = eqb k kind_field || eqb k kind_index || eqb k kind_local

unfoldable pub arg_at : (s : List ℕ) (at : ℕ) → Arg
arg_at s at = elim (eqb (get_or s (at + 4) 0) kind_intrinsic) [
  | true ↦ intrinsic_at s at
  | false ↦ elim (place_kind (get_or s (at + 4) 0)) [ true ↦ Place | false ↦ Value ]
]

unfoldable pub not_place : Arg → Bool
not_place (AsRef first stop) = true
not_place Place = false
not_place Value = true

-- whether what stands at `at` is a prvalue, by its head
unfoldable pub prvalue_at : (s : List ℕ) (at : ℕ) → Bool
prvalue_at s at = not_place (arg_at s at)

-- whether an argument with this head is flagged: an AsRef call with one argument, which ends where the arguments end and is a prvalue
unfoldable pub flagged_head : (s : List ℕ) → Arg → Bool
flagged_head s (AsRef first stop) = ltb first stop && (leb stop (end_of s first) && prvalue_at s first)
flagged_head s Place = false
flagged_head s Value = false

abbrev pub flagged_at : (s : List ℕ) (at : ℕ) → Bool
flagged_at s at = flagged_head s (arg_at s at)
