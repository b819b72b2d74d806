-- A record of the listing: "tag 1, small 1, first 2, second 2, line 2, flags 2, value 8", and "four bytes at its end: the unit offset of
-- the node that emitted it". "Records are 22 bytes".
use Rattle.std.specs.Prelude.{ℕ, ◌+◌, Bool, cond, ◌&&◌, ◌||◌, List, ◌++◌, eqb}
use Rattle.definitions.specs.Bytes.{number, bytes}
use Rattle.definitions.specs.Tag.{row_of, tag_size, emitted}

pub record Instr : Type 0 where
  pub tag : ℕ
  -- arg_count, size or is_weak
  pub small : ℕ
  -- labels, or distances in their place: the only one, or false_label, first_case, next_case; exit of Conditional, body of SwitchLabel
  pub first : ℕ
  pub second : ℕ
  pub line : ℕ
  pub flags : ℕ
  -- "an index or a constant's own bits, zero-extended; EnumConst has the enum in the high 32 bits"
  pub value : ℕ
  -- the place of the node whose own rule emitted it; every tag uses it
  pub node : ℕ

-- the virtual size of a record: that of its tag
unfoldable pub size : Instr → ℕ
size i = tag_size i.tag

abbrev pub record_length : ℕ
record_length = 22

-- its bytes
unfoldable pub record_bytes : Instr → List ℕ
record_bytes i =
    bytes 1 i.tag ++ (bytes 1 i.small ++ (bytes 2 i.first ++ (bytes 2 i.second ++ (bytes 2 i.line ++ (bytes 2 i.flags ++ (bytes 8 i.value ++ bytes 4 i.node))))))

-- and back: the record in the bytes of s at `at`
unfoldable pub record_at : (s : List ℕ) (at : ℕ) → Instr
record_at s at = record {
  tag = number 1 s at;
  small = number 1 s (at + 1);
  first = number 2 s (at + 2);
  second = number 2 s (at + 4);
  line = number 2 s (at + 6);
  flags = number 2 s (at + 8);
  value = number 8 s (at + 10);
  node = number 4 s (at + 18);
}

-- "Unused fields are 0"
unfoldable pub unused0 : (used : Bool) (field : ℕ) → Bool
unused0 used n = used || eqb n 0

-- a record that a listing may hold: a tag that the base emits, and unused fields 0
unfoldable pub good_record : Instr → Bool
good_record i =
    emitted i.tag && unused0 (row_of i.tag).small i.small && unused0 (row_of i.tag).first i.first
    && unused0 (row_of i.tag).second i.second && unused0 (row_of i.tag).line i.line
    && unused0 (row_of i.tag).flags i.flags && unused0 (row_of i.tag).value i.value

-- a record with no label: what its tag does not use of `small` and `value` is 0, so that "an unused index is ignored"
abbrev pub plain : (node tag small value : ℕ) → Instr
plain at t m n = record { tag = t; small = cond (row_of t).small m 0; first = 0; second = 0; line = 0; flags = 0; value = cond (row_of t).value n 0; node = at }
