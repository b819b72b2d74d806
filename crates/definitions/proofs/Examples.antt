-- The theorems of the worked examples: the table's replies, and what else is computed.
use Rattle.std.specs.Prelude.{◌≡◌, refl, [], ◌∷◌, map}
use Rattle.definitions.specs.Answer.{bind, onward, checked}
use Rattle.definitions.specs.Bytes.{number, bytes}
use Rattle.definitions.specs.Tag.{sizes, tag_size, emitted, rows, row_of, default_tags, const_tags, const_tag, const_widths, intrinsics, intrinsic_of}
use Rattle.definitions.specs.Instr.{size, record_bytes, record_at, unused0, good_record}
use Rattle.definitions.specs.Tree.{exprs_of, block_of, branches_of, cases_of, length_exprs, length_cases, is_present, place_of}
use Rattle.definitions.specs.Read.{◌>>=◌, give, unknown_kind, unsigned, byte_below, mark_bytes, room, span, items, filling, run, head, ended, node, pick, as_nop, payload, as_const, as_null, as_new_instance, as_construct, as_assign, as_field, as_index, as_conditional, as_dyn_cast, as_local, as_intrinsic, callee, arguments, as_free_call, as_static_call, as_instance_call, as_closure_call, expr_kinds, expr_body, parse_expr, as_expr, as_block, as_while, arm, block_if, as_branches, as_switch, as_init_array, as_init_default, as_break, as_continue, return_if, as_return, stmt_kinds, stmt_body, parse_stmt, front_good, parse_unit}
use Rattle.definitions.specs.Code.{many, emits, unmarked, label_limit, step, execute}
use Rattle.definitions.specs.Lower.{require, is_prvalue, one_prvalue, is_flagged, flags_of, require_flags, weak_to_ref, null_tag, element_tag, local_tag, lower_field, lower_arg, nops, emit_invoke, emit_call, lower_expr, lower_elements, lower_array, primitive_default, default_instrs, lower_return, lower_return_nothing, jump_to, mid_default, ends_group, in_group, lower_stmt}
use Rattle.definitions.specs.Listing.{records_bytes, listing_bytes, count_of, listing_front, records_from, all_good, read_listing, view}
use Rattle.definitions.specs.Resolve.{in_range, word, signed, distance_of, resolve_field, resolve_record, resolve_records, resolve}
use Rattle.definitions.specs.Stage.{refused_with, lowered, lower_into, stage, lines_from, total_size, printed, shown}
use Rattle.definitions.specs.Stored.{lesses, less_in, there, back as backAgain, move_field, move_record, move_records, move}
use Rattle.definitions.specs.Strip.{expr_parts, stmt_parts, parts_of, keep, blank, keep_marks, least, blank_payload, keep_length, strip_items, strip_run, strip_parts, strip_kind, strip_node, strip_expr, strip_stmt, strip, strip_into}
use Rattle.definitions.specs.Text.{letters, digit, digits, places_in, decimal, hexadecimal, integer, fields, line_text, lines_text, text}
use Rattle.definitions.specs.Examples.{reply_of, reply_printed, same_bytes, run_of, node_of, unit_of, expression, nop_nodes, as_ref_node, call_of, free_call_of, instance_call_of, unit_with, const_unit, call_unit, closure_unit, switch_unit, listing_of, resolved_of, listing_of_two, answer, times, table, taken_off}

-- 1. The theorem: every question of the table has the reply that stands beside it

pub examples : map (λ r. answer r.question) table ≡ map (λ r. r.reply) table
unfolding table answer reply_of reply_printed same_bytes unit_with const_unit call_unit closure_unit switch_unit expr_parts stmt_parts parts_of keep blank keep_marks least blank_payload keep_length strip_items strip_run strip_parts strip_kind strip_node strip_expr strip_stmt strip strip_into run_of node_of unit_of expression times nop_nodes as_ref_node call_of free_call_of instance_call_of listing_of resolved_of listing_of_two bind onward checked number bytes sizes tag_size emitted rows row_of default_tags const_tags const_tag const_widths intrinsics intrinsic_of size record_bytes record_at unused0 good_record exprs_of block_of branches_of cases_of length_exprs length_cases is_present place_of ◌>>=◌ give unknown_kind unsigned byte_below mark_bytes room span items filling run head ended node pick as_nop payload as_const as_null as_new_instance as_construct as_assign as_field as_index as_conditional as_dyn_cast as_local as_intrinsic callee arguments as_free_call as_static_call as_instance_call as_closure_call expr_kinds expr_body parse_expr as_expr as_block as_while arm block_if as_branches as_switch as_init_array as_init_default as_break as_continue return_if as_return stmt_kinds stmt_body parse_stmt front_good parse_unit many emits unmarked label_limit step execute require is_prvalue one_prvalue is_flagged flags_of require_flags weak_to_ref null_tag element_tag local_tag lower_field lower_arg nops emit_invoke emit_call lower_expr lower_elements lower_array primitive_default default_instrs lower_return lower_return_nothing jump_to mid_default ends_group in_group lower_stmt records_bytes listing_bytes count_of listing_front records_from all_good read_listing view in_range word signed distance_of resolve_field resolve_record resolve_records resolve lowered lower_into stage lines_from total_size printed lesses less_in there backAgain move_field move_record move_records move letters digit digits places_in decimal integer fields line_text lines_text text
examples = refl

-- 2. An input that is too long, and numbers as text

pub too_long : shown (times 2049 (0 ∷ [])) ≡ refused_with 1 0 0
unfolding shown times
too_long = refl

pub numerals : map decimal (0 ∷ 9 ∷ 10 ∷ 99 ∷ 100 ∷ 65535 ∷ 18446744073709551615 ∷ []) ≡ map letters ("0" ∷ "9" ∷ "10" ∷ "99" ∷ "100" ∷ "65535" ∷ "18446744073709551615" ∷ [])
unfolding letters digit digits places_in decimal
numerals = refl

pub integers : map (λ w. integer (signed w)) (0 ∷ 32767 ∷ 32768 ∷ 65535 ∷ []) ≡ map letters ("0" ∷ "32767" ∷ "-32768" ∷ "-1" ∷ [])
unfolding letters digit digits places_in decimal integer signed
integers = refl

pub words : map (hexadecimal 4) (0 ∷ 0x9A ∷ 0xBCDE ∷ 0x12F ∷ []) ≡ map letters ("0000" ∷ "009A" ∷ "BCDE" ∷ "012F" ∷ [])
unfolding letters digit digits
words = refl

-- 3. What is taken off: something off a field exactly if it carries a label, of every tag from 0 on

pub carriers : taken_off 0 rows ≡ map (λ r. (r.first, r.second)) rows
unfolding taken_off lesses less_in rows
carriers = refl
