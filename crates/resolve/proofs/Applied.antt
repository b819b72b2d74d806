-- The theorem applied to document 01's example (a), from the unit's bytes to those of the resolved listing.
use Prim.Native.Nat.{ℕ, ◌≤◌}
use mathlib.Core.Path.{◌≡◌, refl}
use mathlib.Core.Bool.{cond}
use mathlib.Core.List.{List, [], ◌∷◌}
use lib.Dec.{leb, ltb, ltb→lt}
use lib.ListN.{length, get_or, take}
use Rattle.definitions.specs.Bytes.{bytes}
use Rattle.definitions.specs.Tag.{sizes, tag_size, rows, row_of, const_tag}
use Rattle.definitions.specs.Instr.{record_bytes}
use Rattle.definitions.specs.Listing.{records_bytes, listing_bytes}
use Rattle.definitions.specs.Resolve.{in_range, word, resolve}
use Rattle.definitions.specs.Stage.{lower_into, over, listed, lower_to, coded, unresolved, resolve_to}
use Rattle.laws.proofs.Tables.{every, at}
use Rattle.landing.specs.Distance.{back, size_expr, size_stmt, dist_expr, dist_stmt}
use Rattle.landing.specs.Landed.{left, filled_field, filled, or_else, far_field, first_far}
use Rattle.landing.specs.Walk.{Bytes}
use Rattle.landing.proofs.Applied.{unit_a, script_a, listing_a, reads_a, lowers_a}
use Rattle.resolve.specs.Delivered.{delivers}
use Rattle.resolve.proofs.Delivered.{delivered, lists, named}

bytes_a : Bytes unit_a
unfolding bytes every
bytes_a k = ltb→lt (get_or unit_a k 0) 256 (at (λ x. ltb x 256) unit_a 0 tt tt k)

-- JumpIfFalse 1, FalseConst, Jump 1, Jump 0, emitted by the nodes at 10, 15, 26 and 10
abbrev labelled_a : List ℕ
labelled_a = bytes 93 0x01000000582000000100000000000000000000000000000000000A1400000000000000000000000000000000000000000F1F00000100000000000000000000000000000000001A1F00000000000000000000000000000000000000000A

-- JumpIfFalse 10, FalseConst, Jump 6, Jump -7
abbrev resolved_a : List ℕ
resolved_a = bytes 93 0x01000000582000000A00000000000000000000000000000000000A1400000000000000000000000000000000000000000F1F00000600000000000000000000000000000000001A1F00FFF900000000000000000000000000000000000A

-- whatever the lent buffers hold, if they are long enough: 4 records of total size 10, and two labels, marked 0 and 10
pub lists_a : (o m : List ℕ) → 93 ≤ length o → 2 ≤ length m → lower_to (lower_into unit_a (length o) (length m)) o m ≡ listed 10 2 4 (over labelled_a o) (over (0 ∷ 10 ∷ []) m)
unfolding listing_bytes records_bytes record_bytes bytes row_of rows
lists_a o m h l = lists unit_a bytes_a script_a 31 reads_a listing_a lowers_a o m h l

-- and that listing resolves by the whole lent table, if the buffer p is long enough
pub resolves_a : (o m p : List ℕ) → 93 ≤ length o → 2 ≤ length m →
    resolve_to (resolve (take 93 (over labelled_a o)) (over (0 ∷ 10 ∷ []) m) (length p)) p ≡ cond (leb 93 (length p)) (coded 4 (over resolved_a p)) (unresolved 20 0 0 p)
unfolding listing_bytes records_bytes record_bytes bytes row_of rows delivers first_far filled left filled_field far_field or_else in_range word dist_stmt size_stmt size_expr dist_expr back tag_size sizes const_tag
resolves_a o m p h l =
    named unit_a bytes_a script_a 31 reads_a listing_a lowers_a o m 2 4 (over (0 ∷ 10 ∷ []) m) refl
    (delivered unit_a o m bytes_a 10 2 4 (over labelled_a o) (over (0 ∷ 10 ∷ []) m) (lists_a o m h l)) (over (0 ∷ 10 ∷ []) m) p refl
