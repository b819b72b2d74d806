-- Worked examples, computed: document 01's (a) to (i), then rows that show a decision each. Other cases are run by a program.
use Rattle.std.specs.Prelude.{ℕ, zero, suc, Bool, true, false, cond, ◌&&◌, List, [], ◌∷◌, ◌++◌, map, eqb, ltb, length, ℤ, pos, neg_ℤ}
use Rattle.definitions.specs.Answer.{Result, made, refusal}
use Rattle.definitions.specs.Bytes.{bytes}
use Rattle.definitions.specs.Tag.{Nop, Null, I32One, I32Zero, I8Const, I32Const, StringConst, TrueConst, FalseConst, Assign, Local, Param, Switch, SwitchLabel, SwitchDefault, Jump, JumpIfFalse, Skip, InvokeStatic, InvokeVirtual, ParamEnd, Return, Context, This, WeakRefToRef, AsRef, Deref, ArrayResize, ArrayElement, U64Const, I32ToEnum, ArrayClear, StructField, ObjectField, Conditional, New, Construct, DynamicCast, Row}
use Rattle.definitions.specs.Instr.{Instr}
use Rattle.definitions.specs.Code.{unmarked}
use Rattle.definitions.specs.Listing.{listing_bytes, view}
use Rattle.definitions.specs.Resolve.{resolve}
use Rattle.definitions.specs.Stage.{Line, Printed, code, refused_with, labelled, lower_into, stage, lines_from, printed}
use Rattle.definitions.specs.Stored.{less_of, store, restore}
use Rattle.definitions.specs.Strip.{strip, strip_into}
use Rattle.definitions.specs.Text.{letters, text}

-- 1. Questions and replies

pub data Question : Type 0 where
  -- the printed stage of a unit, and its text; its labelled listing with the marks
  stage_of : (unit : List ℕ) → Question
  text_of : (unit : List ℕ) → Question
  labelled_of : (unit : List ℕ) → Question
  -- which node emitted each record of its resolved listing
  origins_of : (unit : List ℕ) → Question
  -- whether a unit's listing and label table fit so many bytes and words
  room_of : (unit : List ℕ) → (bytes words : ℕ) → Question
  -- a listing and a label table resolved into so many bytes; the viewer's record n
  resolve_of : (listing marks : List ℕ) → (space : ℕ) → Question
  view_of : (listing : List ℕ) → (n : ℕ) → Question
  -- a resolved listing as the loader stores it, into so many bytes; and back
  store_of : (listing : List ℕ) → (space : ℕ) → Question
  restore_of : (listing : List ℕ) → (space : ℕ) → Question
  -- a unit stripped; whether two units are equal but for what may differ; the room that a stripped unit needs
  strip_of : (unit : List ℕ) → Question
  pair_of : (unit unit' : List ℕ) → Question
  strip_room_of : (unit : List ℕ) → (bytes : ℕ) → Question

-- a record's tag and its node
pub record Origin : Type 0 where
  pub tag : ℕ
  pub node : ℕ

pub data Reply : Type 0 where
  prints : (count total : ℕ) → List Line → Reply
  says : List ℕ → Reply
  labels : (count total : ℕ) (marks : List ℕ) → List Line → Reply
  origins : List Origin → Reply
  fits : (count labels : ℕ) → Reply
  part : List ℕ → Reply
  -- the same bytes; other bytes that strip to the same; bytes that strip to others
  equal : Reply
  alike : Reply
  unlike : Reply
  refuses : (number place extra : ℕ) → Reply

unfoldable pub reply_of : {A : Type 0} → (A → Reply) → Result A → Reply
reply_of f (made a) = f a
reply_of f (refusal n p x) = refuses n p x

unfoldable pub reply_printed : Printed → Reply
reply_printed (code n t ls) = prints n t ls
reply_printed (refused_with n p x) = refuses n p x

unfoldable pub same_bytes : List ℕ → List ℕ → Bool
same_bytes [] [] = true
same_bytes [] (y ∷ ys) = false
same_bytes (x ∷ xs) [] = false
same_bytes (x ∷ xs) (y ∷ ys) = eqb x y && same_bytes xs ys

unfoldable pub answer : Question → Reply
answer (stage_of s) = reply_printed (printed (stage s))
answer (text_of s) = says (text (printed (stage s)))
answer (labelled_of s) = reply_of (λ l. labels (length l.instrs) l.offset l.marks (lines_from pos 0 l.instrs)) (labelled s)
answer (origins_of s) = reply_of (λ is. origins (map (λ i. record { tag = i.tag; node = i.node }) is)) (stage s)
answer (room_of s b w) = reply_of (λ l. fits (length l.instrs) (length l.marks)) (lower_into s b w)
answer (resolve_of s m b) = reply_printed (printed (resolve s m b))
answer (view_of s n) = reply_of part (view s n)
answer (store_of s b) = reply_printed (printed (store s b))
answer (restore_of s b) = reply_printed (printed (restore s b))
answer (strip_of s) = part (strip s)
answer (pair_of s t) = cond (same_bytes s t) equal (cond (same_bytes (strip s) (strip t)) alike unlike)
answer (strip_room_of s b) = reply_of part (strip_into s b)

-- 2. Short forms

pub record Example : Type 0 where
  pub question : Question
  pub reply : Reply

abbrev example : Question → Reply → Example
example q r = record { question = q; reply = r }

-- a distance onward, or a label; a distance back
abbrev on : ℕ → ℤ
on n = pos n

abbrev back : ℕ → ℤ
back n = neg_ℤ (pos n)

-- printed lines: with no label, with one, with two, of an invoke
abbrev values : (start tag small value : ℕ) → Line
values o t m v = record { start = o; tag = t; small = m; first = on 0; second = on 0; line = 0; flags = 0; value = v }

abbrev first : (start tag : ℕ) → ℤ → (value : ℕ) → Line
first o t d v = record { start = o; tag = t; small = 0; first = d; second = on 0; line = 0; flags = 0; value = v }

abbrev both : (start tag : ℕ) → ℤ → ℤ → Line
both o t d e = record { start = o; tag = t; small = 0; first = d; second = e; line = 0; flags = 0; value = 0 }

abbrev invokes : (start tag : ℕ) → ℤ → (line flags value : ℕ) → Line
invokes o t d l f v = record { start = o; tag = t; small = 0; first = d; second = on 0; line = l; flags = f; value = v }

-- a record with this tag, emitted by the node at `at`
abbrev by : (tag at : ℕ) → Origin
by t at = record { tag = t; node = at }

-- units that are too long to write out
unfoldable pub run_of : List ℕ → List ℕ
run_of s = bytes 4 (length s) ++ s

unfoldable pub node_of : (kind : ℕ) → List ℕ → List ℕ
node_of k s = run_of (k ∷ s)

-- a unit of these statements, and the statement of an expression
unfoldable pub unit_of : List ℕ → List ℕ
unit_of s = 1 ∷ run_of (0 ∷ run_of s)

unfoldable pub expression : List ℕ → List ℕ
expression e = node_of 1 e

unfoldable pub times : ℕ → List ℕ → List ℕ
times zero s = []
times (suc n) s = s ++ times n s

unfoldable pub nop_nodes : ℕ → List ℕ
nop_nodes n = times n (node_of 1 [])

-- AsRef of a Nop, with its short-circuit mark
unfoldable pub as_ref_node : (short : ℕ) → List ℕ
as_ref_node m = node_of 12 (28 ∷ m ∷ 1 ∷ (bytes 4 7 ++ run_of (nop_nodes 1)))

-- function 1, name 2, line 3, so many parameters and these arguments; a free call
unfoldable pub call_of : (params : ℕ) → List ℕ → List ℕ
call_of n args = bytes 4 1 ++ (bytes 4 2 ++ (bytes 2 3 ++ (0 ∷ n ∷ (times n (0 ∷ []) ++ run_of args))))

unfoldable pub free_call_of : (params : ℕ) → List ℕ → List ℕ
free_call_of n args = node_of 13 (call_of n args)

-- an instance call with so many parameters
unfoldable pub instance_call_of : (params : ℕ) → (receiver args : List ℕ) → List ℕ
instance_call_of n e args = node_of 15 (0 ∷ (e ++ call_of n args))

-- units of one node, for a field that is to be looked at: an expression of a kind, a constant, a closure call with no argument, a statement of a kind
unfoldable pub unit_with : (kind : ℕ) → List ℕ → List ℕ
unit_with k s = unit_of (expression (node_of k s))

unfoldable pub const_unit : (byte width value : ℕ) → List ℕ
const_unit b w v = unit_with 2 (b ∷ bytes w v)

-- a free call: function, name, line, flag byte and one mark
unfoldable pub call_unit : (function name line flags mark : ℕ) → List ℕ
call_unit f n l b m = unit_with 13 (bytes 4 f ++ (bytes 4 n ++ (bytes 2 l ++ (b ∷ 1 ∷ m ∷ run_of []))))

unfoldable pub closure_unit : (name line : ℕ) → List ℕ
closure_unit n l = unit_with 16 (nop_nodes 1 ++ (bytes 4 n ++ (bytes 2 l ++ run_of [])))

-- a Switch with one case and a default
unfoldable pub switch_unit : (type defaultIndex : ℕ) → List ℕ
switch_unit t i = unit_of (node_of 5 (bytes 4 t ++ (nop_nodes 1 ++ (bytes 4 i ++ (1 ∷ (run_of (nop_nodes 1 ++ run_of []) ++ run_of []))))))

-- a listing of one record
unfoldable pub listing_of : (tag first value node : ℕ) → List ℕ
listing_of t l v at = listing_bytes (record { tag = t; small = 0; first = l; second = 0; line = 0; flags = 0; value = v; node = at } ∷ [])

-- the resolved listing of a unit; none where it is refused
unfoldable pub resolved_of : (unit : List ℕ) → List ℕ
resolved_of s = code_in (stage s)
  where
    code_in : Result (List Instr) → List ℕ
    code_in (made is) = listing_bytes is
    code_in (refusal n p x) = []

-- a listing of one record with two distances
unfoldable pub listing_of_two : (tag first second : ℕ) → List ℕ
listing_of_two t l m = listing_bytes (record { tag = t; small = 0; first = l; second = m; line = 0; flags = 0; value = 0; node = 0 } ∷ [])

-- 3. The table

unfoldable pub table : List Example
table =
    -- (a) while (false) { break }: starts 0, 3, 4, 7; sizes 3, 1, 3, 3; distances 10, 6 and -7
    example (stage_of (bytes 31 0x010000001A0000000015000000110300000003020F00000000050000000108)) (prints 4 10 (
    first 0 JumpIfFalse (on 10) 0 ∷ values 3 FalseConst 0 0 ∷ first 4 Jump (on 6) 0 ∷ first 7 Jump (back 7) 0 ∷ []))
    -- (a) its text, letter by letter
    ∷ example (text_of (bytes 31 0x010000001A0000000015000000110300000003020F00000000050000000108)) (says (
    letters "code 4 10\n" ++
    (letters "0 20 0 10 0 0 0 0000000000000000\n" ++
    (letters "3 14 0 0 0 0 0 0000000000000000\n" ++
    (letters "4 1F 0 6 0 0 0 0000000000000000\n" ++
    letters "7 1F 0 -7 0 0 0 0000000000000000\n")))))
    -- (b) an empty block: no instruction
    ∷ example (stage_of (bytes 10 0x01000000050000000000)) (prints 0 0 [])
    ∷ example (text_of (bytes 10 0x01000000050000000000)) (says (letters "code 0 0\n"))
    -- (c) a lone Break
    ∷ example (stage_of (bytes 15 0x010000000A00000000050000000108)) (refuses 10 10 0)
    ∷ example (text_of (bytes 15 0x010000000A00000000050000000108)) (says (letters "refused 10 10 0\n"))
    -- (d) continue in a switch in a loop lands on JumpIfFalse
    ∷ example (stage_of (bytes 61 0x010000003800000000330000002F03000000010100000025000000210500000009000000010100000000000000000E0000000101000000050000000109)) (prints 8 28 (
    first 0 JumpIfFalse (on 28) 0 ∷ values 3 Nop 0 0 ∷ first 4 Switch (on 12) 9 ∷ values 15 Nop 0 0 ∷ both 16 SwitchLabel (on 9) (on 6) ∷
    values 21 Nop 0 0 ∷ first 22 Jump (back 22) 0 ∷ first 25 Jump (back 25) 0 ∷ []))
    -- (e) the same without the loop
    ∷ example (stage_of (bytes 47 0x010000002A0000000025000000210500000009000000010100000000000000000E0000000101000000050000000109)) (refuses 11 42 0)
    -- (f) no branches, no default: 2 labels, the second marked 0
    ∷ example (labelled_of (bytes 20 0x010000000F000000000A00000006040000000000)) (labels 0 0 (unmarked ∷ 0 ∷ []) [])
    -- (g) I32 0, 1, 2: sizes 1, 1, 5
    ∷ example (stage_of (bytes 55 0x0100000032000000002D0000000B01000000060209000000000000000B01000000060209000000010000000B0100000006020900000002)) (prints 3 7 (
    values 0 I32Zero 0 0 ∷ values 1 I32One 0 0 ∷ values 2 I32Const 0 2 ∷ []))
    -- (h) two cases, no default, the first empty: one body label
    ∷ example (labelled_of (bytes 56 0x0100000033000000002E0000002A050000000900000001010000000000000000170000000101000000000000000101000000050000000108)) (labels 7 27 (27 ∷ 12 ∷ 24 ∷ 18 ∷ 27 ∷ []) (
    first 0 Switch (on 1) 9 ∷ values 11 Nop 0 0 ∷ both 12 SwitchLabel (on 3) (on 2) ∷ values 17 Nop 0 0 ∷
    both 18 SwitchLabel (on 4) (on 2) ∷ values 23 Nop 0 0 ∷ first 24 Jump (on 0) 0 ∷ []))
    -- (h) its distances: both bodies after the second matcher
    ∷ example (stage_of (bytes 56 0x0100000033000000002E0000002A050000000900000001010000000000000000170000000101000000000000000101000000050000000108)) (prints 7 27 (
    first 0 Switch (on 12) 9 ∷ values 11 Nop 0 0 ∷ both 12 SwitchLabel (on 6) (on 12) ∷ values 17 Nop 0 0 ∷
    both 18 SwitchLabel (on 9) (on 6) ∷ values 23 Nop 0 0 ∷ first 24 Jump (on 3) 0 ∷ []))
    -- (i) default_index equal to the case count: default last
    ∷ example (stage_of (bytes 67 0x010000003E0000000039000000350500000009000000010100000001010000001300000001010000000A000000060100000001010000000B0000000701000000020300)) (prints 7 21 (
    first 0 Switch (on 12) 9 ∷ values 11 Nop 0 0 ∷ both 12 SwitchLabel (on 7) (on 6) ∷ values 17 Nop 0 0 ∷ values 18 Nop 0 0 ∷
    values 19 SwitchDefault 0 0 ∷ values 20 Null 0 0 ∷ []))
    -- switches
    -- a group of three whose first two blocks are empty: all three bodies after the third matcher
    ∷ example (stage_of (bytes 65 0x010000003C000000003700000033050000000900000001010000000000000000200000000101000000000000000101000000000000000101000000050000000108)) (prints 9 33 (
    first 0 Switch (on 12) 9 ∷ values 11 Nop 0 0 ∷ both 12 SwitchLabel (on 6) (on 18) ∷ values 17 Nop 0 0 ∷
    both 18 SwitchLabel (on 6) (on 12) ∷ values 23 Nop 0 0 ∷ both 24 SwitchLabel (on 9) (on 6) ∷ values 29 Nop 0 0 ∷
    first 30 Jump (on 3) 0 ∷ []))
    -- two groups: the second case ends the first, the last case ends the second though it is empty
    ∷ example (labelled_of (bytes 70 0x0100000041000000003C000000380500000009000000010100000000000000002500000001010000000000000001010000000A00000006010000000101000000010100000000)) (labels 9 31 (31 ∷ 12 ∷ 24 ∷ 18 ∷ 25 ∷ 31 ∷ 31 ∷ []) (
    first 0 Switch (on 1) 9 ∷ values 11 Nop 0 0 ∷ both 12 SwitchLabel (on 3) (on 2) ∷ values 17 Nop 0 0 ∷
    both 18 SwitchLabel (on 4) (on 2) ∷ values 23 Nop 0 0 ∷ values 24 Nop 0 0 ∷ both 25 SwitchLabel (on 6) (on 5) ∷ values 30 Nop 0 0 ∷ []))
    -- a block that holds one empty block is not empty
    ∷ example (labelled_of (bytes 65 0x010000003C000000003700000033050000000900000001010000000000000000200000000101000000090000000502000000000000000101000000050000000108)) (labels 7 27 (27 ∷ 12 ∷ 18 ∷ 18 ∷ 24 ∷ 27 ∷ []) (
    first 0 Switch (on 1) 9 ∷ values 11 Nop 0 0 ∷ both 12 SwitchLabel (on 3) (on 2) ∷ values 17 Nop 0 0 ∷
    both 18 SwitchLabel (on 5) (on 4) ∷ values 23 Nop 0 0 ∷ first 24 Jump (on 0) 0 ∷ []))
    -- a mid default at index 1: all matchers, SwitchDefault, Jump, then block 0, the default, block 1
    ∷ example (stage_of (bytes 86 0x0100000051000000004C000000480500000009000000010100000001010000002200000001010000000B000000070100000002030000000001010000000500000001080000000F0000000B0100000006020901020304)) (prints 11 37 (
    first 0 Switch (on 12) 9 ∷ values 11 Nop 0 0 ∷ both 12 SwitchLabel (on 6) (on 16) ∷ values 17 Nop 0 0 ∷
    both 18 SwitchLabel (on 6) (on 16) ∷ values 23 Nop 0 0 ∷ values 24 SwitchDefault 0 0 ∷ first 25 Jump (on 4) 0 ∷ values 28 Null 0 0 ∷
    values 29 I32Const 0 16909060 ∷ first 34 Jump (on 3) 0 ∷ []))
    -- no case and a default: Switch lands on SwitchDefault
    ∷ example (stage_of (bytes 42 0x010000002500000000200000001C05000000090000000101000000000100000000000000050000000108)) (prints 4 16 (
    first 0 Switch (on 12) 9 ∷ values 11 Nop 0 0 ∷ values 12 SwitchDefault 0 0 ∷ first 13 Jump (on 3) 0 ∷ []))
    -- default_index is ignored without a default
    ∷ example (stage_of (bytes 47 0x010000002A0000000025000000210500000009000000010100000005000000000E0000000101000000050000000108)) (prints 5 21 (
    first 0 Switch (on 12) 9 ∷ values 11 Nop 0 0 ∷ both 12 SwitchLabel (on 9) (on 6) ∷ values 17 Nop 0 0 ∷ first 18 Jump (on 3) 0 ∷ []))
    -- other statements
    -- Branches: JumpIfFalse past its Jump, Jump past the statement; the last next is unmarked
    ∷ example (labelled_of (bytes 57 0x0100000034000000002F0000002B030000000101000000210000001D040000000E000000010100000005000000010901000000050000000108)) (labels 8 20 (0 ∷ 20 ∷ 14 ∷ 17 ∷ unmarked ∷ []) (
    first 0 JumpIfFalse (on 1) 0 ∷ values 3 Nop 0 0 ∷ first 4 JumpIfFalse (on 2) 0 ∷ values 7 Nop 0 0 ∷ first 8 Jump (on 0) 0 ∷
    first 11 Jump (on 3) 0 ∷ first 14 Jump (on 1) 0 ∷ first 17 Jump (on 0) 0 ∷ []))
    -- InitDefault of another aggregate: the index is ignored
    ∷ example (stage_of (bytes 24 0x0100000013000000000E0000000A07000000030300000009)) (prints 3 11 (
    values 0 Assign 0 0 ∷ values 1 Local 0 3 ∷ values 10 Null 0 0 ∷ []))
    -- of a String: the index is stored
    ∷ example (stage_of (bytes 24 0x0100000013000000000E0000000A07000000030500000009)) (prints 3 15 (
    values 0 Assign 0 0 ∷ values 1 Local 0 3 ∷ values 10 StringConst 0 9 ∷ []))
    -- of a primitive with no value
    ∷ example (stage_of (bytes 24 0x0100000013000000000E0000000A07000000031600000009)) (prints 2 10 (
    values 0 Assign 0 0 ∷ values 1 Local 0 3 ∷ []))
    -- Return of nothing in a unit with a return value
    ∷ example (stage_of (bytes 16 0x010000000B0100000006000000020A00)) (prints 2 2 (
    values 0 Return 0 0 ∷ values 1 Nop 0 0 ∷ []))
    -- expressions
    -- a closure call: Context lands on its InvokeVirtual
    ∷ example (stage_of (bytes 45 0x010000002800000000230000001F010000001A10000000060B000000000000000006004D000000050000000101)) (prints 5 21 (
    first 0 Context (on 4) 0 ∷ values 3 This 0 0 ∷ invokes 4 InvokeVirtual (on 17) 77 0 6 ∷ values 19 Nop 0 0 ∷ values 20 ParamEnd 0 0 ∷ []))
    -- an instance call by weak reference, a Skip and an absent parameter
    ∷ example (stage_of (bytes 57 0x0100000034000000002F0000002B01000000260F01000000060B02000000040000000500000006000708030100010000000700000003020F01)) (prints 9 35 (
    first 0 Context (on 35) 0 ∷ values 3 WeakRefToRef 0 0 ∷ values 4 Param 0 4 ∷ invokes 13 InvokeStatic (on 22) 7 0 5 ∷
    first 28 Skip (on 4) 0 ∷ values 31 TrueConst 0 0 ∷ values 32 Nop 0 0 ∷ values 33 Nop 0 0 ∷ values 34 ParamEnd 0 0 ∷ []))
    -- a static call: a label that nothing carries
    ∷ example (labelled_of (bytes 36 0x010000001F000000001A0000001601000000110E00000005000000060007000000000000)) (labels 2 16 (16 ∷ 16 ∷ []) (
    invokes 0 InvokeVirtual (on 1) 7 0 6 ∷ values 15 ParamEnd 0 0 ∷ []))
    -- an absent short-circuit parameter: a Nop and no Skip
    ∷ example (stage_of (bytes 37 0x0100000020000000001B0000001701000000120D0000000500000006000701010100000000)) (prints 3 17 (
    invokes 0 InvokeStatic (on 17) 7 0 5 ∷ values 15 Nop 0 0 ∷ values 16 ParamEnd 0 0 ∷ []))
    -- AsRef of a Deref is not flagged
    ∷ example (stage_of (bytes 74 0x010000004500000000400000003C01000000370D0000000100000002000300010000000025000000210C1C00010000000700000015000000110C1D000100000007000000050000000101)) (prints 5 35 (
    invokes 0 InvokeVirtual (on 35) 3 0 2 ∷ values 15 AsRef 0 7 ∷ values 24 Deref 0 7 ∷ values 33 Nop 0 0 ∷ values 34 ParamEnd 0 0 ∷ []))
    -- the node of every record: the one whose own rule makes it, never a child or a holder
    -- (a): both jumps of the While, the Jump of the Break inside it
    ∷ example (origins_of (bytes 31 0x010000001A0000000015000000110300000003020F00000000050000000108)) (origins (
    by JumpIfFalse 10 ∷ by FalseConst 15 ∷ by Jump 26 ∷ by Jump 10 ∷ []))
    -- a Block emits nothing itself; Continue
    ∷ example (origins_of (bytes 43 0x010000002600000000210000001D0200000018000000140300000001010000000A00000001090000000108)) (origins (
    by JumpIfFalse 19 ∷ by Nop 24 ∷ by Jump 33 ∷ by Jump 38 ∷ by Jump 19 ∷ []))
    -- Branches: every JumpIfFalse and Jump; an Expr statement emits nothing itself
    ∷ example (origins_of (bytes 62 0x0100000039000000003400000030040000001C00000001010000000A00000006010000000101000000010100000000010000000A00000006010000000101)) (origins (
    by JumpIfFalse 10 ∷ by Nop 19 ∷ by Nop 33 ∷ by Jump 10 ∷ by JumpIfFalse 10 ∷ by Nop 38 ∷ by Jump 10 ∷ by Nop 57 ∷ []))
    -- Switch: both SwitchLabels and SwitchDefault are its own
    ∷ example (origins_of (bytes 70 0x0100000041000000003C000000380500000009000000010100000009010000001700000001010000000000000001010000000500000001080000000A00000006010000000101)) (origins (
    by Switch 10 ∷ by Nop 19 ∷ by SwitchLabel 10 ∷ by Nop 33 ∷ by SwitchLabel 10 ∷ by Nop 42 ∷ by Jump 51 ∷ by SwitchDefault 10 ∷ by Nop 65 ∷ []))
    -- a mid default: the Jump after SwitchDefault too
    ∷ example (origins_of (bytes 80 0x010000004B0000000046000000420500000009000000010100000001010000002100000001010000000A0000000601000000010100000001010000000500000001080000000A00000006010000000101)) (origins (
    by Switch 10 ∷ by Nop 19 ∷ by SwitchLabel 10 ∷ by Nop 33 ∷ by SwitchLabel 10 ∷ by Nop 52 ∷ by SwitchDefault 10 ∷ by Jump 10 ∷ by Nop 47 ∷ by Nop 75 ∷
    by Jump 61 ∷ []))
    -- InitArray: its three, and four before each element
    ∷ example (origins_of (bytes 42 0x010000002500000000200000001C0600000003000000040000000F0000000101000000060B0100000003)) (origins (
    by ArrayResize 10 ∷ by Local 10 ∷ by U64Const 10 ∷ by Assign 10 ∷ by ArrayElement 10 ∷ by Local 10 ∷ by U64Const 10 ∷ by Nop 27 ∷ by Assign 10 ∷
    by ArrayElement 10 ∷ by Local 10 ∷ by U64Const 10 ∷ by Local 32 ∷ []))
    -- InitDefault: of an enum, of an array, of a String
    ∷ example (origins_of (bytes 52 0x010000002F000000002A0000000A070000000304000000090000000A070000000301000000090000000A07000000030500000009)) (origins (
    by Assign 10 ∷ by Local 10 ∷ by I32ToEnum 10 ∷ by I8Const 10 ∷ by ArrayClear 24 ∷ by Local 24 ∷ by Assign 38 ∷ by Local 38 ∷ by StringConst 38 ∷ []))
    -- Return after its value, and the Nop after it; without a value
    ∷ example (origins_of (bytes 27 0x01000000160000000011000000070A010000000101000000020A00)) (origins (
    by Nop 16 ∷ by Return 10 ∷ by Nop 10 ∷ by Return 21 ∷ by Nop 21 ∷ []))
    -- Return before its value
    ∷ example (origins_of (bytes 21 0x0100000010010000000B000000070A010000000101)) (origins (
    by Return 10 ∷ by Nop 16 ∷ []))
    -- fields, by weak reference, of a struct, of an object
    ∷ example (origins_of (bytes 55 0x0100000032000000002D0000002901000000240702000000050000001A07000000000600000010070100000007000000060B0000000000)) (origins (
    by Context 15 ∷ by WeakRefToRef 15 ∷ by StructField 25 ∷ by Context 35 ∷ by This 45 ∷ by ObjectField 35 ∷ by ObjectField 15 ∷ []))
    -- kinds that are one record and then their parts, and Conditional
    ∷ example (origins_of (bytes 119 0x0100000072000000006D000000690100000064060000001A080100000007000000060B01000000030000000602090000000200000041090000000203000000000504000000080000002D0500000009000000240000000B0A00000001010000000101000000110C1D000100000007000000050000000101)) (origins (
    by Assign 15 ∷ by ArrayElement 20 ∷ by Local 30 ∷ by I32Const 40 ∷ by Conditional 50 ∷ by Null 55 ∷ by New 61 ∷ by Construct 70 ∷ by DynamicCast 83 ∷
    by Nop 93 ∷ by Deref 98 ∷ by Nop 114 ∷ []))
    -- an instance call by weak reference: Context, WeakRefToRef, the invoke, a Skip, the Nop of each absent parameter, ParamEnd
    ∷ example (origins_of (bytes 55 0x0100000032000000002D0000002901000000240F01000000060B0000000000000000010000000200030003010000000000050000000101)) (origins (
    by Context 15 ∷ by WeakRefToRef 15 ∷ by This 21 ∷ by InvokeVirtual 15 ∷ by Skip 15 ∷ by Nop 50 ∷ by Nop 15 ∷ by Nop 15 ∷ by ParamEnd 15 ∷ []))
    -- a free call as an argument of a static call: each has its own
    ∷ example (origins_of (bytes 65 0x010000003C000000003700000033010000002E0E00000001000000020003000200010000001B0000000101000000120D0000000100000002000301010000000000)) (origins (
    by InvokeVirtual 15 ∷ by Nop 38 ∷ by Skip 15 ∷ by InvokeStatic 43 ∷ by Nop 43 ∷ by ParamEnd 43 ∷ by ParamEnd 15 ∷ []))
    -- a closure call
    ∷ example (origins_of (bytes 45 0x010000002800000000230000001F010000001A10000000060B000000000000000006004D000000050000000101)) (origins (
    by Context 15 ∷ by This 20 ∷ by InvokeVirtual 15 ∷ by Nop 40 ∷ by ParamEnd 15 ∷ []))
    -- the walk refuses
    -- flagged arguments at index 0 to 16 that are refused by 14 too: 13 is first
    ∷ example (stage_of (unit_of (expression (free_call_of 17 (times 17 (as_ref_node 1)))))) (refuses 13 389 17)
    -- with a mid default all matchers come before all blocks: the second matcher's 14 is met before the first block's 11
    ∷ example (stage_of (bytes 71 0x0100000042000000003D000000390500000009000000010100000000010000002200000001010000000500000001090000000C0C20000100000007000000000000000000000000)) (refuses 14 47 0)
    -- an instance call's receiver comes before its flags: 14 of the receiver, not 13
    ∷ example (stage_of (unit_of (expression (instance_call_of 17 (bytes 16 0x0000000C0C2000010000000700000000) (times 17 (as_ref_node 0)))))) (refuses 14 21 0)
    -- reading refuses
    -- a condition without its block: 3, where the block would stand
    ∷ example (stage_of (bytes 25 0x0100000014000000000F0000000B0400000005000000010100)) (refuses 3 24 0)
    -- a bad mark (2) before a missing one (3)
    ∷ example (stage_of (bytes 34 0x010000001D000000001800000014010000000F0D0000000100000002000100030002)) (refuses 2 15 0)
    -- bytes left come before 5
    ∷ example (stage_of (bytes 48 0x010000002B000000002600000022010000001D0D000000010000000200030001000000000A0000000101000000010100)) (refuses 3 15 0)
    -- the whole unit is read before the walk
    ∷ example (stage_of (bytes 20 0x010000000F000000000A0000000108000000010C)) (refuses 2 15 0)
    -- room, listings and resolving
    -- (a) needs 5 + 22 * 4 bytes
    ∷ example (room_of (bytes 31 0x010000001A0000000015000000110300000003020F00000000050000000108) 92 2) (refuses 20 0 0)
    -- and 2 words; 20 comes before 21
    ∷ example (room_of (bytes 31 0x010000001A0000000015000000110300000003020F00000000050000000108) 93 1) (refuses 21 0 0)
    -- and no more
    ∷ example (room_of (bytes 31 0x010000001A0000000015000000110300000003020F00000000050000000108) 93 2) (fits 4 2)
    -- a listing of no record needs 5 bytes
    ∷ example (room_of (bytes 10 0x01000000050000000000) 4 0) (refuses 20 0 0)
    -- a slice under 5 bytes
    ∷ example (view_of (bytes 4 0x01000000) 0) (refuses 30 0 0)
    -- a part record
    ∷ example (view_of (bytes 6 0x010000000100) 0) (refuses 30 0 0)
    -- a tag that the base does not emit
    ∷ example (view_of (listing_of 0x15 0 0 0) 0) (refuses 30 0 0)
    -- an unused field that is not 0
    ∷ example (view_of (listing_of Nop 0 1 0) 0) (refuses 30 0 0)
    -- a used field is not checked further: an I8Const with high bits
    ∷ example (view_of (listing_of I8Const 0 0x100 0) 0) (part (bytes 22 0x04000000000000000000000000000000010000000000))
    -- the node is not checked at all
    ∷ example (view_of (listing_of Nop 0 0 0xFFFFFFFE) 0) (part (bytes 22 0x000000000000000000000000000000000000FFFFFFFE))
    -- a record of 18 bytes is a part record; eleven of them are nine of 22
    ∷ example (view_of (1 ∷ run_of (times 18 (0 ∷ []))) 0) (refuses 30 0 0)
    ∷ example (view_of (1 ∷ run_of (times 198 (0 ∷ []))) 9) (refuses 22 9 0)
    -- record 1 of one
    ∷ example (view_of (listing_of Nop 0 0 0) 1) (refuses 22 1 0)
    -- a Jump to a label that is marked 3
    ∷ example (resolve_of (listing_of Jump 0 0 0) (3 ∷ []) 27) (prints 1 3 (first 0 Jump (on 3) 0 ∷ []))
    -- outside the table
    ∷ example (resolve_of (listing_of Jump 1 0 0) (3 ∷ []) 27) (refuses 31 0 0)
    -- unmarked
    ∷ example (resolve_of (listing_of Jump 0 0 0) (4294967295 ∷ []) 27) (refuses 31 0 0)
    -- too distant: before the room
    ∷ example (resolve_of (listing_of Jump 0 0 0) (4294967294 ∷ []) 0) (refuses 32 0 0)
    -- the first too distant distance
    ∷ example (resolve_of (listing_of Jump 0 0 0) (32768 ∷ []) 27) (refuses 32 0 0)
    -- a byte too few
    ∷ example (resolve_of (listing_of Jump 0 0 0) (32767 ∷ []) 26) (refuses 20 0 0)
    -- what the loader stores
    -- (a): 10, 6 and -7 less 3
    ∷ example (store_of (resolved_of (bytes 31 0x010000001A0000000015000000110300000003020F00000000050000000108)) 93) (prints 4 10 (
    first 0 JumpIfFalse (on 7) 0 ∷ values 3 FalseConst 0 0 ∷ first 4 Jump (on 3) 0 ∷ first 7 Jump (back 10) 0 ∷ []))
    -- 3 off Skip, Context and both invokes; 3 and 5 off Conditional and SwitchLabel; 11 off Switch
    ∷ example (store_of (listing_of Skip 10 0 0) 27) (prints 1 3 (first 0 Skip (on 7) 0 ∷ []))
    ∷ example (store_of (listing_of Context 10 0 0) 27) (prints 1 3 (first 0 Context (on 7) 0 ∷ []))
    ∷ example (store_of (listing_of InvokeStatic 20 0 0) 27) (prints 1 15 (first 0 InvokeStatic (on 17) 0 ∷ []))
    ∷ example (store_of (listing_of InvokeVirtual 20 0 0) 27) (prints 1 15 (first 0 InvokeVirtual (on 17) 0 ∷ []))
    ∷ example (store_of (listing_of_two Conditional 10 20) 27) (prints 1 5 (both 0 Conditional (on 7) (on 15) ∷ []))
    ∷ example (store_of (listing_of_two SwitchLabel 10 20) 27) (prints 1 5 (both 0 SwitchLabel (on 7) (on 15) ∷ []))
    ∷ example (store_of (listing_of Switch 20 9 0) 27) (prints 1 11 (first 0 Switch (on 9) 9 ∷ []))
    -- and on again
    ∷ example (restore_of (listing_of Switch 9 9 0) 27) (prints 1 11 (first 0 Switch (on 20) 9 ∷ []))
    ∷ example (restore_of (listing_of_two Conditional 7 15) 27) (prints 1 5 (both 0 Conditional (on 10) (on 20) ∷ []))
    -- a field that carries no label is copied
    ∷ example (store_of (listing_of StructField 0 9 0) 27) (prints 1 9 (values 0 StructField 0 9 ∷ []))
    -- -32,765 has room for 3, -32,766 has not; 32,764 has room for 3 more, 32,765 has not
    ∷ example (store_of (listing_of Jump 0x8003 0 0) 27) (prints 1 3 (first 0 Jump (back 32768) 0 ∷ []))
    ∷ example (store_of (listing_of Jump 0x8002 0 0) 27) (refuses 33 0 0)
    ∷ example (restore_of (listing_of Jump 0x7FFC 0 0) 27) (prints 1 3 (first 0 Jump (on 32767) 0 ∷ []))
    ∷ example (restore_of (listing_of Jump 0x7FFD 0 0) 27) (refuses 33 0 0)
    -- a second has extra 1, and the first comes first
    ∷ example (store_of (listing_of_two SwitchLabel 10 0x8004) 27) (refuses 33 0 1)
    ∷ example (store_of (listing_of_two SwitchLabel 0x8002 0x8004) 27) (refuses 33 0 0)
    -- 30 before 33, 33 before 20, 20
    ∷ example (store_of (listing_of 0x15 0x8002 0 0) 27) (refuses 30 0 0)
    ∷ example (store_of (listing_of Jump 0x8002 0 0) 26) (refuses 33 0 0)
    ∷ example (store_of (listing_of Jump 10 0 0) 26) (refuses 20 0 0)
    -- stripped units
    -- a static call with a free call as argument: functions, names and lines go; flags, counts, marks and lengths stay
    ∷ example (strip_of (bytes 65 0x010000003C000000003700000033010000002E0E00000001000000020003000200010000001B0000000101000000120D0000000100000002000301010000000000))
    (part (bytes 65 0x010000003C000000003700000033010000002E0E00000000000000000000000200010000001B0000000101000000120D0000000000000000000001010000000000))
    -- constants: I32 0, 1, 2 to 0, 0, 2
    ∷ example (strip_of (bytes 55 0x0100000032000000002D0000000B01000000060209000000000000000B01000000060209000000010000000B0100000006020900000002))
    (part (bytes 55 0x0100000032000000002D0000000B01000000060209000000000000000B01000000060209000000000000000B0100000006020900000002))
    -- (d) a Switch in a loop: its type goes, default_index stays
    ∷ example (strip_of (bytes 61 0x010000003800000000330000002F03000000010100000025000000210500000009000000010100000007000000000E0000000101000000050000000109))
    (part (bytes 61 0x010000003800000000330000002F03000000010100000025000000210500000000000000010100000007000000000E0000000101000000050000000109))
    -- reading is refused at the second statement: what was passed before is blanked, and all bytes from there on stay
    ∷ example (strip_of (unit_of (expression (node_of 4 (bytes 4 7)) ++ node_of 11 (bytes 4 7)))) (part (unit_of (expression (node_of 4 (bytes 4 0)) ++ node_of 11 (bytes 4 7))))
    -- a Bool of 3 is passed, so it becomes the 2 of its class, and refused then: the next statement stays
    ∷ example (strip_of (unit_of (expression (node_of 2 (15 ∷ 3 ∷ [])) ++ expression (node_of 4 (bytes 4 7)))))
    (part (unit_of (expression (node_of 2 (15 ∷ 2 ∷ [])) ++ expression (node_of 4 (bytes 4 7)))))
    -- a front that is not good: nothing is read, so nothing is blanked
    ∷ example (strip_of (2 ∷ run_of (0 ∷ run_of (expression (node_of 4 (bytes 4 7)))))) (part (2 ∷ run_of (0 ∷ run_of (expression (node_of 4 (bytes 4 7))))))
    -- as much room as the unit; a unit that reading refuses is no refusal
    ∷ example (strip_room_of (bytes 15 0x010000000A00000000050000000108) 14) (refuses 20 0 0)
    ∷ example (strip_room_of (bytes 15 0x010000000A00000000050000000108) 15) (part (bytes 15 0x010000000A00000000050000000108))
    ∷ example (strip_room_of (bytes 3 0x010000) 3) (part (bytes 3 0x010000))
    -- alike, field by field: class of NewInstance, of Construct and of DynCast
    ∷ example (pair_of (unit_with 4 (bytes 4 7)) (unit_with 4 (bytes 4 9))) alike
    ∷ example (pair_of (unit_with 5 (bytes 4 7 ++ run_of [])) (unit_with 5 (bytes 4 9 ++ run_of []))) alike
    ∷ example (pair_of (unit_with 10 (bytes 4 7 ++ (1 ∷ nop_nodes 1))) (unit_with 10 (bytes 4 9 ++ (1 ∷ nop_nodes 1)))) alike
    -- a field; the type of Index; a Local; the index of an intrinsic
    ∷ example (pair_of (unit_with 7 (1 ∷ (bytes 4 7 ++ nop_nodes 1))) (unit_with 7 (1 ∷ (bytes 4 9 ++ nop_nodes 1)))) alike
    ∷ example (pair_of (unit_with 8 (1 ∷ (bytes 4 7 ++ nop_nodes 2))) (unit_with 8 (1 ∷ (bytes 4 9 ++ nop_nodes 2)))) alike
    ∷ example (pair_of (unit_with 11 (1 ∷ bytes 4 7)) (unit_with 11 (1 ∷ bytes 4 9))) alike
    ∷ example (pair_of (unit_with 12 (29 ∷ 0 ∷ 1 ∷ (bytes 4 7 ++ run_of (nop_nodes 1)))) (unit_with 12 (29 ∷ 0 ∷ 1 ∷ (bytes 4 9 ++ run_of (nop_nodes 1))))) alike
    -- function, name and line of a call; name and line of a closure call
    ∷ example (pair_of (call_unit 1 2 3 0 1) (call_unit 4 2 3 0 1)) alike
    ∷ example (pair_of (call_unit 1 2 3 0 1) (call_unit 1 4 3 0 1)) alike
    ∷ example (pair_of (call_unit 1 2 3 0 1) (call_unit 1 2 4 0 1)) alike
    ∷ example (pair_of (closure_unit 2 3) (closure_unit 4 3)) alike
    ∷ example (pair_of (closure_unit 2 3) (closure_unit 2 4)) alike
    -- the type of a Switch; local and type of InitArray; local and index of InitDefault
    ∷ example (pair_of (switch_unit 7 0) (switch_unit 9 0)) alike
    ∷ example (pair_of (unit_of (node_of 6 (bytes 4 3 ++ (bytes 4 7 ++ run_of (nop_nodes 1))))) (unit_of (node_of 6 (bytes 4 4 ++ (bytes 4 9 ++ run_of (nop_nodes 1)))))) alike
    ∷ example (pair_of (unit_of (node_of 7 (bytes 4 3 ++ (5 ∷ bytes 4 7)))) (unit_of (node_of 7 (bytes 4 4 ++ (5 ∷ bytes 4 9))))) alike
    -- constants: a Str, an Enum, an F64; an I32 in both of its classes, a Bool in its first
    ∷ example (pair_of (const_unit 0 4 7) (const_unit 0 4 9)) alike
    ∷ example (pair_of (const_unit 4 8 0x700000001) (const_unit 4 8 0x900000002)) alike
    ∷ example (pair_of (const_unit 6 8 0) (const_unit 6 8 0x3FF0000000000000)) alike
    ∷ example (pair_of (const_unit 9 4 0) (const_unit 9 4 1)) alike
    ∷ example (pair_of (const_unit 9 4 2) (const_unit 9 4 0xFFFFFFFF)) alike
    ∷ example (pair_of (const_unit 15 1 0) (const_unit 15 1 1)) alike
    -- Bools above 1 are all refused alike
    ∷ example (pair_of (const_unit 15 1 2) (const_unit 15 1 3)) alike
    -- not alike: an I32 1 for a 2, a Bool 1 for a 2, another default_index, flag byte, mark, default byte, const byte
    ∷ example (pair_of (const_unit 9 4 1) (const_unit 9 4 2)) unlike
    ∷ example (pair_of (const_unit 15 1 1) (const_unit 15 1 2)) unlike
    ∷ example (pair_of (switch_unit 7 0) (switch_unit 7 1)) unlike
    ∷ example (pair_of (call_unit 1 2 3 0 1) (call_unit 1 2 3 1 1)) unlike
    ∷ example (pair_of (call_unit 1 2 3 0 1) (call_unit 1 2 3 0 0)) unlike
    ∷ example (pair_of (unit_of (node_of 7 (bytes 4 3 ++ (5 ∷ bytes 4 7)))) (unit_of (node_of 7 (bytes 4 3 ++ (6 ∷ bytes 4 7))))) unlike
    ∷ example (pair_of (const_unit 0 4 7) (const_unit 1 4 7)) unlike
    -- units that reading refuses: alike in what was passed before, not in what stands behind
    ∷ example (pair_of (unit_of (expression (node_of 4 (bytes 4 7)) ++ (0 ∷ []))) (unit_of (expression (node_of 4 (bytes 4 9)) ++ (0 ∷ [])))) alike
    ∷ example (pair_of (unit_of (node_of 11 [] ++ expression (node_of 4 (bytes 4 7)))) (unit_of (node_of 11 [] ++ expression (node_of 4 (bytes 4 9))))) unlike
    ∷ []

-- 4. What is taken off of a record's fields: something off a field exactly if it carries a label, of every tag from 0 on

unfoldable pub taken_off : (tag : ℕ) → List Row → List (Bool × Bool)
taken_off t [] = []
taken_off t (r ∷ rs) = (ltb 0 (less_of t).first, ltb 0 (less_of t).second) ∷ taken_off (suc t) rs
