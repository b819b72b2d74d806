-- The theorem applied: to document 01's example (a), and to a switch with a mid default in a loop. The statement is not empty, and these are its numbers.
use Prim.Native.Nat.{ℕ}
use mathlib.Core.Path.{◌≡◌, refl}
use mathlib.Core.List.{List, [], ◌∷◌}
use lib.IntN.{pos, negsuc}
use Rattle.definitions.specs.Answer.{ok, made, bind, onward, checked}
use Rattle.definitions.specs.Bytes.{number, bytes}
use Rattle.definitions.specs.Tag
use Rattle.definitions.specs.Tag.{sizes, tag_size, rows, row_of, const_tag, const_widths}
use Rattle.definitions.specs.Instr.{Instr, size, plain}
use Rattle.definitions.specs.Tree.{Script, nop, const, expr, while, switch, break, continue, bnil, bcons, cnil, ccons, present, exprs_of, block_of, cases_of, length_cases, is_present}
use Rattle.definitions.specs.Read.{◌>>=◌, give, unsigned, byte_below, room, span, items, filling, run, head, ended, node, pick, as_nop, payload, as_const, expr_kinds, expr_body, parse_expr, as_expr, as_while, arm, block_if, as_switch, as_break, as_continue, stmt_kinds, stmt_body, parse_stmt, front_good, parse_unit}
use Rattle.definitions.specs.Code.{State, many, unmarked, label_limit, step, execute}
use Rattle.definitions.specs.Lower.{lower_expr, jump_to, mid_default, lower_stmt, lower}
use Rattle.definitions.specs.Resolve.{in_range, word, resolve_records}
use Rattle.landing.specs.Distance.{back, size_expr, size_stmt, dist_expr, to_default, dist_matchers, dist_stmt, distances_of}
use Rattle.landing.specs.Landed.{left, filled_field, filled, or_else, far_field, first_far, unless_far, with_distances, Landed}
use Rattle.landing.proofs.Theorem.{landing}

abbrev pub jump : (node tag first second value : ℕ) → Instr
jump at t f s v = record { tag = t; small = 0; first = f; second = s; line = 0; flags = 0; value = v; node = at }

-- 1. while (false) { break }

abbrev pub unit_a : List ℕ
unit_a = bytes 31 0x010000001A0000000015000000110300000003020F00000000050000000108

abbrev pub script_a : Script
script_a = record { returns = 0; body = bcons (while 10 (const 15 15 0) (bcons (break 26) bnil)) bnil }

-- JumpIfFalse, FalseConst, Jump, Jump; label 0 is marked 0, label 1 is marked 10
abbrev pub listing_a : State
listing_a = record {
  offset = 10;
  instrs = jump 10 Tag.JumpIfFalse 1 0 0 ∷ plain 15 Tag.FalseConst 0 0 ∷ jump 26 Tag.Jump 1 0 0 ∷ jump 10 Tag.Jump 0 0 0 ∷ [];
  marks = 0 ∷ 10 ∷ [];
}

pub reads_a : parse_unit unit_a ≡ ok script_a 31
unfolding parse_unit front_good run unsigned byte_below number bytes room span items filling head node expr_body expr_kinds parse_expr stmt_kinds parse_stmt stmt_body pick ended bind give ◌>>=◌ payload as_const const_widths as_while as_break exprs_of block_of
reads_a = refl

pub lowers_a : lower script_a ≡ made listing_a
unfolding execute step onward checked unmarked label_limit lower_expr lower_stmt jump_to const_tag row_of rows tag_size sizes size
lowers_a = refl

landed_a : Landed script_a listing_a
landed_a = landing unit_a script_a 31 reads_a listing_a lowers_a

-- 10, 6 and -7
distances_a : distances_of script_a ≡ pos 10 ∷ pos 6 ∷ negsuc 6 ∷ []
unfolding dist_stmt size_stmt size_expr dist_expr back tag_size sizes const_tag
distances_a = refl

pub resolved_a : resolve_records (0 ∷ 10 ∷ []) 0 0 listing_a.instrs ≡
    made (jump 10 Tag.JumpIfFalse 10 0 0 ∷ plain 15 Tag.FalseConst 0 0 ∷ jump 26 Tag.Jump 6 0 0 ∷ jump 10 Tag.Jump 65529 0 0 ∷ [])
unfolding with_distances first_far filled left filled_field far_field or_else unless_far in_range word dist_stmt size_stmt size_expr dist_expr back tag_size sizes const_tag row_of rows
resolved_a = landed_a.resolves

-- 2. while (nop) { switch (nop) { case nop: break; default: nop; case nop: continue } }, the default before case 1

abbrev script_mid : Script
script_mid = record {
  returns = 0;
  body = bcons (while 10 (nop 15) (bcons (switch 24 9 (nop 33) 1 (ccons (nop 47) (bcons (break 56) bnil) (ccons (nop 61) (bcons (continue 70) bnil) cnil)) (present (bcons (expr 79 (nop 84)) bnil))) bnil)) bnil;
}

abbrev listing_mid : State
listing_mid = record {
  offset = 42;
  instrs =
      jump 10 Tag.JumpIfFalse 1 0 0 ∷ plain 15 Tag.Nop 0 0 ∷ jump 24 Tag.Switch 3 0 9 ∷ plain 33 Tag.Nop 0 0 ∷ jump 24 Tag.SwitchLabel 7 4 0 ∷ plain 47 Tag.Nop 0 0 ∷ jump 24 Tag.SwitchLabel 8 5 0 ∷ plain 61 Tag.Nop 0 0
      ∷ plain 24 Tag.SwitchDefault 0 0 ∷ jump 24 Tag.Jump 6 0 0 ∷ jump 56 Tag.Jump 2 0 0 ∷ plain 84 Tag.Nop 0 0 ∷ jump 70 Tag.Jump 0 0 0 ∷ jump 10 Tag.Jump 0 0 0 ∷ [];
  marks = 0 ∷ 42 ∷ 39 ∷ 16 ∷ 32 ∷ 36 ∷ 35 ∷ 22 ∷ 28 ∷ [];
}

abbrev unit_mid : List ℕ
unit_mid = bytes 89 0x0100000054000000004F0000004B030000000101000000410000003D0500000009000000010100000001010000001C000000010100000005000000010800000001010000000500000001090000000A00000006010000000101

reads_mid : parse_unit unit_mid ≡ ok script_mid 89
unfolding parse_unit front_good run unsigned byte_below number bytes room span items filling head node expr_body expr_kinds parse_expr stmt_kinds parse_stmt stmt_body pick ended bind give ◌>>=◌ as_nop as_expr as_while arm block_if as_switch as_break as_continue exprs_of block_of cases_of
reads_mid = refl

lowers_mid : lower script_mid ≡ made listing_mid
unfolding execute step onward checked many unmarked label_limit lower_expr lower_stmt jump_to mid_default is_present length_cases row_of rows tag_size sizes size
lowers_mid = refl

landed_mid : Landed script_mid listing_mid
landed_mid = landing unit_mid script_mid 89 reads_mid listing_mid lowers_mid

-- loop; switch; two SwitchLabels, each next and body; the Jump after SwitchDefault; break; continue; closing Jump
pub distances_mid : distances_of script_mid ≡ pos 42 ∷ pos 12 ∷ pos 6 ∷ pos 16 ∷ pos 6 ∷ pos 14 ∷ pos 6 ∷ pos 7 ∷ negsuc 35 ∷ negsuc 38 ∷ []
unfolding dist_stmt dist_matchers to_default size_stmt size_expr dist_expr back tag_size sizes mid_default is_present length_cases
distances_mid = refl

pub resolved_mid : resolve_records listing_mid.marks 0 0 listing_mid.instrs ≡
    made (jump 10 Tag.JumpIfFalse 42 0 0 ∷ plain 15 Tag.Nop 0 0 ∷ jump 24 Tag.Switch 12 0 9 ∷ plain 33 Tag.Nop 0 0 ∷ jump 24 Tag.SwitchLabel 6 16 0 ∷ plain 47 Tag.Nop 0 0 ∷ jump 24 Tag.SwitchLabel 6 14 0 ∷ plain 61 Tag.Nop 0 0
    ∷ plain 24 Tag.SwitchDefault 0 0 ∷ jump 24 Tag.Jump 6 0 0 ∷ jump 56 Tag.Jump 7 0 0 ∷ plain 84 Tag.Nop 0 0 ∷ jump 70 Tag.Jump 65500 0 0 ∷ jump 10 Tag.Jump 65497 0 0 ∷ [])
unfolding with_distances first_far filled left filled_field far_field or_else unless_far in_range word dist_stmt dist_matchers to_default size_stmt size_expr dist_expr back tag_size sizes mid_default is_present length_cases row_of rows
resolved_mid = landed_mid.resolves
