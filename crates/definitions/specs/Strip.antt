-- Stripped units: a unit without its names, lines and constants. What may differ in two units that lower alike is set to the least of its class.
-- Two units are equal but for what may differ exactly if they strip to the same bytes.
use Rattle.std.specs.Prelude.{ℕ, zero, suc, ◌+◌, ◌-◌, Bool, true, false, cond, not, ◌&&◌, ◌||◌, List, [], ◌∷◌, ◌++◌, leb, ltb, eqb, length, get_or, take, drop}
use Rattle.std.proofs.Math.Option.{Option, none, some}
use Rattle.std.proofs.Math.ListN.{get_elem?}
use Rattle.definitions.specs.Answer.{Result, made, refusal, checked}
use Rattle.definitions.specs.Bytes.{number, bytes}
use Rattle.definitions.specs.Tag.{const_widths}
use Rattle.definitions.specs.Read.{depth_limit, front_good}
use Rattle.definitions.specs.Stage.{over}

-- 1. What a node has after its kind, part by part

pub data Part : Type 0 where
  -- w bytes that may differ: a pool index, a line
  free : (w : ℕ) → Part
  -- w bytes that may not
  kept : (w : ℕ) → Part
  -- a byte below a bound, which may not: a form, a code, a mark, a flag byte, a default byte
  small : (bound : ℕ) → Part
  -- a const byte, and its payload, which may differ within its class
  constant : Part
  -- a parameter count byte and a mark for each
  params : Part
  -- an expression; a run of expressions; a run that ends its node and has no more items than there are parameters
  value : Part
  values : Part
  arguments : Part
  -- a block; a run of conditions (matchers) and blocks
  block : Part
  arms : Part
  -- an expression, a block, if the mark that was passed last is 1
  value_if : Part
  block_if : Part

-- "indices are u32"; "Marks are bytes 0 or 1"
abbrev pub index : Part
index = free 4

abbrev pub mark : Part
mark = small 2

-- "function, name, u16 line, flag byte, parameter count byte, one mark a parameter for short-circuit, run"
abbrev pub call : List Part
call = index ∷ index ∷ free 2 ∷ small 16 ∷ params ∷ arguments ∷ []

-- the 16 kinds of expressions, in order
unfoldable pub expr_parts : List (List Part)
expr_parts =
    -- Nop, Const, Null, NewInstance, Construct, Assign
    []
    ∷ (constant ∷ [])
    ∷ (mark ∷ [])
    ∷ (index ∷ [])
    ∷ (index ∷ values ∷ [])
    ∷ (value ∷ value ∷ [])
    -- Field, Index, Conditional, DynCast, Local or Capture
    ∷ (small 3 ∷ index ∷ value ∷ [])
    ∷ (mark ∷ index ∷ value ∷ value ∷ [])
    ∷ (value ∷ value ∷ value ∷ [])
    ∷ (index ∷ mark ∷ value ∷ [])
    ∷ (small 4 ∷ index ∷ [])
    -- intrinsic, free, static, instance and closure call
    ∷ (small 34 ∷ mark ∷ kept 1 ∷ index ∷ values ∷ [])
    ∷ call
    ∷ call
    ∷ (mark ∷ value ∷ call)
    ∷ (value ∷ index ∷ free 2 ∷ values ∷ [])
    ∷ []

-- the 10 kinds of statements, in order
unfoldable pub stmt_parts : List (List Part)
stmt_parts =
    -- Expr, Block, While, Branches, Switch
    (value ∷ [])
    ∷ (block ∷ [])
    ∷ (value ∷ block ∷ [])
    ∷ (arms ∷ mark ∷ block_if ∷ [])
    ∷ (index ∷ value ∷ kept 4 ∷ mark ∷ arms ∷ block_if ∷ [])
    -- InitArray, InitDefault, Break, Continue, Return
    ∷ (index ∷ index ∷ values ∷ [])
    ∷ (index ∷ small 23 ∷ index ∷ [])
    ∷ []
    ∷ []
    ∷ (mark ∷ value_if ∷ [])
    ∷ []

-- the parts of a kind; 0 is no kind
unfoldable pub parts_of : List (List Part) → (kind : ℕ) → Option (List Part)
parts_of all zero = none
parts_of all (suc k) = get_elem? all k

-- 2. Steps. A step says what stands from `at` on, with `rest` for all that follows what it passes; where reading is refused, all bytes stay

abbrev pub Strip : Type 0
Strip = (rest : ℕ → List ℕ) (at : ℕ) → List ℕ

abbrev pub stop : (s : List ℕ) → Strip
stop s = λ rest at. drop at s

abbrev pub nothing : Strip
nothing = λ rest. rest

-- a step, where reading goes on
abbrev pub only : (s : List ℕ) → Bool → Strip → Strip
only s b p = cond b p (stop s)

infixr 10 ◌and◌
abbrev pub ◌and◌ : Strip → Strip → Strip
◌and◌ p q = λ rest. p (q rest)

-- a field of w bytes as it is, if it fits; `next` has its value
unfoldable pub keep : (s : List ℕ) (end w : ℕ) → (ℕ → Strip) → Strip
keep s end w next = λ rest at. elim (leb (at + w) end) [ true ↦ take w (drop at s) ++ next (number w s at) rest (at + w) | false ↦ drop at s ]

-- a field of w bytes with another value in its place
unfoldable pub blank : (s : List ℕ) (end w : ℕ) → (to : ℕ → ℕ) → (ℕ → Strip) → Strip
blank s end w to next =
    λ rest at. elim (leb (at + w) end) [ true ↦ bytes w (to (number w s at)) ++ next (number w s at) rest (at + w) | false ↦ drop at s ]

-- one byte below `bound`
abbrev pub keep_below : (s : List ℕ) (end bound : ℕ) → (ℕ → Strip) → Strip
keep_below s end bound next = keep s end 1 λ v. only s (ltb v bound) (next v)

-- n marks
unfoldable pub keep_marks : (s : List ℕ) (end n : ℕ) → Strip → Strip
keep_marks s end zero next = next
keep_marks s end (suc n) next = keep_below s end 2 λ m. keep_marks s end n next

-- the least of a payload's class: an I32 (9) or a Bool (15) of 0 or 1 is in the one, any other I32 or Bool in the other; all other payloads are alike
unfoldable pub least : (byte value : ℕ) → ℕ
least b v = cond (eqb b 9 || eqb b 15) (cond (ltb v 2) 0 2) 0

-- the payload of a const byte; a Bool above 1 is passed, and refused then
unfoldable pub blank_payload : (s : List ℕ) (end byte : ℕ) → Strip → Strip
blank_payload s end b next = blank s end (get_or const_widths b 0) (least b) λ v. only s (not (eqb b 15) || ltb v 2) next

-- a length, where what it counts fits too; `next` has the end of that
unfoldable pub keep_length : (s : List ℕ) (end : ℕ) → (ℕ → Strip) → Strip
keep_length s end next = keep s end 4 λ n rest at. only s (leb (at + n) end) (next (at + n)) rest at

-- items up to `end`, of which n are passed; each is a byte at least, so fuel that is more than the bytes does not run out
unfoldable pub strip_items : (s : List ℕ) → (item : Strip) → (fuel end n : ℕ) → (ℕ → Strip) → Strip
strip_items s item zero end n next = stop s
strip_items s item (suc fuel) end n next =
    λ rest at. elim (ltb at end) [ true ↦ item (strip_items s item fuel end (suc n) next rest) at | false ↦ next n rest end ]

-- a run within `end`; `next` has how many items there are
unfoldable pub strip_run : (s : List ℕ) (end : ℕ) → (item : ℕ → Strip) → (ℕ → Strip) → Strip
strip_run s end item next = keep_length s end λ to rest at. strip_items s (item to) (suc (to - at)) to 0 next rest at

-- 3. Nodes

-- the parts of a node that ends at `end`, with `v` for the expressions in it and `c` for the statements; n is the mark or count that was passed last
unfoldable pub strip_parts : (s : List ℕ) → (v c : ℕ → Strip) → (end : ℕ) → List Part → (n : ℕ) → Strip
strip_parts s v c end [] n = λ rest at. only s (eqb at end) nothing rest at
strip_parts s v c end (free w ∷ ps) n = blank s end w (λ x. 0) λ x. strip_parts s v c end ps n
strip_parts s v c end (kept w ∷ ps) n = keep s end w λ x. strip_parts s v c end ps n
strip_parts s v c end (small bound ∷ ps) n = keep_below s end bound λ x. strip_parts s v c end ps x
strip_parts s v c end (constant ∷ ps) n = keep_below s end 16 λ b. blank_payload s end b (strip_parts s v c end ps n)
strip_parts s v c end (params ∷ ps) n = keep s end 1 λ k. keep_marks s end k (strip_parts s v c end ps k)
strip_parts s v c end (value ∷ ps) n = v end and strip_parts s v c end ps n
strip_parts s v c end (values ∷ ps) n = strip_run s end v λ k. strip_parts s v c end ps n
strip_parts s v c end (arguments ∷ ps) n = strip_run s end v λ k rest at. only s (eqb at end && leb k n) (strip_parts s v c end ps n) rest at
strip_parts s v c end (block ∷ ps) n = strip_run s end c λ k. strip_parts s v c end ps n
strip_parts s v c end (arms ∷ ps) n = strip_run s end (λ to. v to and strip_run s to c (λ k. nothing)) λ k. strip_parts s v c end ps n
strip_parts s v c end (value_if ∷ ps) zero = strip_parts s v c end ps zero
strip_parts s v c end (value_if ∷ ps) (suc n) = v end and strip_parts s v c end ps (suc n)
strip_parts s v c end (block_if ∷ ps) zero = strip_parts s v c end ps zero
strip_parts s v c end (block_if ∷ ps) (suc n) = strip_run s end c λ k. strip_parts s v c end ps (suc n)

unfoldable pub strip_kind : (s : List ℕ) → (v c : ℕ → Strip) → (end : ℕ) → Option (List Part) → Strip
strip_kind s v c end none = stop s
strip_kind s v c end (some ps) = strip_parts s v c end ps 0

unfoldable pub strip_node : (s : List ℕ) (holder : ℕ) → List (List Part) → (v c : ℕ → Strip) → Strip
strip_node s holder all v c = keep_length s holder λ end. keep s end 1 λ kind. strip_kind s v c end (parts_of all kind)

-- at most `depth` nodes one in another
unfoldable pub strip_expr : (depth : ℕ) → (s : List ℕ) → (holder : ℕ) → Strip
strip_expr zero s holder = stop s
strip_expr (suc d) s holder = strip_node s holder expr_parts (strip_expr d s) (λ end. stop s)

unfoldable pub strip_stmt : (depth : ℕ) → (s : List ℕ) → (holder : ℕ) → Strip
strip_stmt zero s holder = stop s
strip_stmt (suc d) s holder = strip_node s holder stmt_parts (strip_expr d s) (strip_stmt d s)

-- 4. The unit: its front stays; behind it stands one block, and nothing else

unfoldable pub strip : (s : List ℕ) → List ℕ
strip s = elim (front_good s) [
  | true ↦ take 6 s ++ strip_parts s (strip_expr depth_limit s) (strip_stmt depth_limit s) (length s) (block ∷ []) 0 (λ at. []) 6
  | false ↦ s
]

-- 5. Into a lent buffer of so many bytes: 20 where it is too short. What cannot be read is no refusal here

unfoldable pub strip_into : (s : List ℕ) (space : ℕ) → Result (List ℕ)
strip_into s space = checked (leb (length s) space) 20 0 0 (made (strip s))

-- how many bytes are written, and the buffer; or the refusal
pub data Stripping : Type 0 where
  stripped : (count : ℕ) (out : List ℕ) → Stripping
  unstripped : (number place extra : ℕ) (out : List ℕ) → Stripping

-- the stripped unit over what the buffer held; a refusal leaves it
unfoldable pub strip_to : Result (List ℕ) → (out : List ℕ) → Stripping
strip_to (made t) o = stripped (length t) (over t o)
strip_to (refusal n p x) o = unstripped n p x o
