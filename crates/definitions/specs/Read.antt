-- Reading: from the bytes of a unit to its tree, or the first refusal. "A place not named is the unit offset of the node being read."
use Rattle.std.specs.Prelude.{ℕ, zero, suc, ◌+◌, ◌-◌, Bool, true, false, ◌&&◌, List, [], ◌∷◌, leb, ltb, eqb, length, get_or}
use Rattle.definitions.specs.Answer.{Answer, ok, refused, bind}
use Rattle.definitions.specs.Bytes.{number}
use Rattle.definitions.specs.Tag.{const_widths}
use Rattle.definitions.specs.Tree.{Callee, Expr, Exprs, Stmt, Block, Default, Script, nop, const, null, new_instance, construct, assign, field, index, conditional, dyn_cast, local, intrinsic, free_call, static_call, instance_call, closure_call, expr, block, while, branches, switch, init_array, init_default, break, continue, return, return_nothing, absent, present, exprs_of, block_of, branches_of, cases_of}

-- from where a field begins to its value
abbrev pub Parser : Type 0 → Type 0
Parser A = ℕ → Answer A

infixr 10 ◌>>=◌
unfoldable pub ◌>>=◌ : {A B : Type 0} → Parser A → (A → Parser B) → Parser B
◌>>=◌ p f = λ at. bind (p at) f

unfoldable pub give : {A : Type 0} → A → Parser A
give a = λ at. ok a at

-- "unknown kind" 2, of the node at that place
unfoldable pub unknown_kind : {A : Type 0} → (node : ℕ) → Parser A
unknown_kind node = λ at. refused 2 node 0

-- 1. Fields. `s` is the unit, `node` the place of the node that is read, `end` where it ends

-- the number in w bytes; "past the node's end" 3
unfoldable pub unsigned : (s : List ℕ) (node end w : ℕ) → Parser ℕ
unsigned s node end w = λ at. elim (leb (at + w) end) [ true ↦ ok (number w s at) (at + w) | false ↦ refused 3 node 0 ]

-- "indices are u32"
abbrev pub u32 : (s : List ℕ) (node end : ℕ) → Parser ℕ
u32 s node end = unsigned s node end 4

abbrev pub u16 : (s : List ℕ) (node end : ℕ) → Parser ℕ
u16 s node end = unsigned s node end 2

abbrev pub u8 : (s : List ℕ) (node end : ℕ) → Parser ℕ
u8 s node end = unsigned s node end 1

-- one byte below `bound`, in the field at `at`; "a field that fits but has a value not listed" 2
unfoldable pub byte_below : (s : List ℕ) (node end bound : ℕ) → Parser ℕ
byte_below s node end bound = λ at. bind (u8 s node end at) (λ v next. elim (ltb v bound) [ true ↦ ok v next | false ↦ refused 2 node 0 ])

-- "Marks are bytes 0 or 1"
abbrev pub mark_byte : (s : List ℕ) (node end : ℕ) → Parser ℕ
mark_byte s node end = byte_below s node end 2

-- n marks, one field each
unfoldable pub mark_bytes : (s : List ℕ) (node end n : ℕ) → Parser (List ℕ)
mark_bytes s node end zero = give []
mark_bytes s node end (suc n) = do
  m ← mark_byte s node end
  ms ← mark_bytes s node end n
  give (m ∷ ms)

-- where n bytes from the cursor, which stays, end: within `end`; else 3
unfoldable pub room : (node end n : ℕ) → Parser ℕ
room node end n = λ at. elim (leb (at + n) end) [ true ↦ ok (at + n) at | false ↦ refused 3 node 0 ]

-- a length and where what it counts ends; "a block or run reports its own length's offset, also where that length doesn't fit"
unfoldable pub span : (s : List ℕ) (end : ℕ) → Parser ℕ
span s end = λ at. (do
  n ← u32 s at end
  room at end n) at

-- 2. Runs: "a u32 length and items that fill it"

-- items up to `end`; each is a byte at least, so fuel that is more than the bytes does not run out
unfoldable pub items : {A : Type 0} → Parser A → (fuel end : ℕ) → Parser (List A)
items p zero end at = refused 3 at 0
items p (suc fuel) end at =
    elim (ltb at end) [ true ↦ bind (p at) (λ x next. bind (items p fuel end next) (λ xs. ok (x ∷ xs))) | false ↦ ok [] end ]

-- items up to `stop`, which is the end of their holder
unfoldable pub filling : {A : Type 0} → (ℕ → Parser A) → (stop : ℕ) → Parser (List A)
filling p stop = λ at. items (p stop) (suc (stop - at)) stop at

unfoldable pub run : {A : Type 0} → (s : List ℕ) (end : ℕ) → (ℕ → Parser A) → Parser (List A)
run s end p = do
  stop ← span s end
  filling p stop

-- 3. Nodes: "a u32 length of its rest, a kind byte, fields, children"

-- the kind and where the node ends; "its length past its holder, or no kind" 3
unfoldable pub head : (s : List ℕ) (holder : ℕ) → Parser (ℕ × ℕ)
head s holder = λ at. (do
  end ← span s holder
  kind ← u8 s at end
  give (kind, end)) at

-- "bytes left at a node's end" 3
unfoldable pub ended : {A : Type 0} → (node end : ℕ) → A → Parser A
ended node end a = λ at. elim (eqb at end) [ true ↦ ok a at | false ↦ refused 3 node 0 ]

unfoldable pub node : {A : Type 0} → (s : List ℕ) (holder : ℕ) → ((kind at end : ℕ) → Parser A) → Parser A
node s holder body = λ at. (do
  h ← head s holder
  a ← body h.0 at h.1
  ended at h.1 a) at

-- the entry of a list at a kind
unfoldable pub pick : {A : Type 0} → List (Parser A) → (at kind : ℕ) → Parser A
pick [] at k = unknown_kind at
pick (p ∷ ps) at zero = p
pick (p ∷ ps) at (suc k) = pick ps at k

-- 4. Expressions: what stands in the node at `at` up to `end`, with `child` for the expressions in it

unfoldable pub as_nop : (at : ℕ) → Parser Expr
as_nop at = give (nop at)

-- the payload of a const byte: a mark for Bool, else a number of its width
unfoldable pub payload : (s : List ℕ) (at end byte : ℕ) → Parser ℕ
payload s at end b = elim (eqb b 15) [ true ↦ mark_byte s at end | false ↦ unsigned s at end (get_or const_widths b 0) ]

unfoldable pub as_const : (s : List ℕ) (at end : ℕ) → Parser Expr
as_const s at end = do
  b ← byte_below s at end 16
  v ← payload s at end b
  give (const at b v)

unfoldable pub as_null : (s : List ℕ) (at end : ℕ) → Parser Expr
as_null s at end = do
  w ← mark_byte s at end
  give (null at w)

unfoldable pub as_new_instance : (s : List ℕ) (at end : ℕ) → Parser Expr
as_new_instance s at end = do
  c ← u32 s at end
  give (new_instance at c)

unfoldable pub as_construct : (s : List ℕ) → (ℕ → Parser Expr) → (at end : ℕ) → Parser Expr
as_construct s child at end = do
  c ← u32 s at end
  xs ← run s end child
  give (construct at c (exprs_of xs))

unfoldable pub as_assign : (ℕ → Parser Expr) → (at end : ℕ) → Parser Expr
as_assign child at end = do
  p ← child end
  e ← child end
  give (assign at p e)

unfoldable pub as_field : (s : List ℕ) → (ℕ → Parser Expr) → (at end : ℕ) → Parser Expr
as_field s child at end = do
  f ← byte_below s at end 3
  n ← u32 s at end
  e ← child end
  give (field at f n e)

unfoldable pub as_index : (s : List ℕ) → (ℕ → Parser Expr) → (at end : ℕ) → Parser Expr
as_index s child at end = do
  d ← mark_byte s at end
  t ← u32 s at end
  a ← child end
  i ← child end
  give (index at d t a i)

unfoldable pub as_conditional : (ℕ → Parser Expr) → (at end : ℕ) → Parser Expr
as_conditional child at end = do
  c ← child end
  t ← child end
  e ← child end
  give (conditional at c t e)

unfoldable pub as_dyn_cast : (s : List ℕ) → (ℕ → Parser Expr) → (at end : ℕ) → Parser Expr
as_dyn_cast s child at end = do
  c ← u32 s at end
  w ← mark_byte s at end
  e ← child end
  give (dyn_cast at c w e)

unfoldable pub as_local : (s : List ℕ) (at end : ℕ) → Parser Expr
as_local s at end = do
  f ← byte_below s at end 4
  i ← u32 s at end
  give (local at f i)

unfoldable pub as_intrinsic : (s : List ℕ) → (ℕ → Parser Expr) → (at end : ℕ) → Parser Expr
as_intrinsic s child at end = do
  k ← byte_below s at end 34
  m ← mark_byte s at end
  t ← u8 s at end
  i ← u32 s at end
  xs ← run s end child
  give (intrinsic at k m t i (exprs_of xs))

-- "function, name, u16 line, flag byte, parameter count byte, one mark a parameter"; flag bits from the lowest: final, static, native, ForceStatic
unfoldable pub callee : (s : List ℕ) (at end : ℕ) → Parser Callee
callee s at end = do
  f ← u32 s at end
  n ← u32 s at end
  l ← u16 s at end
  b ← byte_below s at end 16
  k ← u8 s at end
  ms ← mark_bytes s at end k
  give (record { function = f; name = n; line = l; flags = b; params = ms })

-- arguments up to the node's end; "after that, more arguments than parameters" 5
unfoldable pub arguments : (s : List ℕ) → (ℕ → Parser Expr) → (at end params : ℕ) → Parser Exprs
arguments s child at end params = do
  xs ← run s end child
  all ← ended at end xs
  λ next. elim (leb (length all) params) [ true ↦ ok (exprs_of all) next | false ↦ refused 5 at 0 ]

unfoldable pub as_free_call : (s : List ℕ) → (ℕ → Parser Expr) → (at end : ℕ) → Parser Expr
as_free_call s child at end = do
  c ← callee s at end
  xs ← arguments s child at end (length c.params)
  give (free_call at c xs)

unfoldable pub as_static_call : (s : List ℕ) → (ℕ → Parser Expr) → (at end : ℕ) → Parser Expr
as_static_call s child at end = do
  c ← callee s at end
  xs ← arguments s child at end (length c.params)
  give (static_call at c xs)

unfoldable pub as_instance_call : (s : List ℕ) → (ℕ → Parser Expr) → (at end : ℕ) → Parser Expr
as_instance_call s child at end = do
  w ← mark_byte s at end
  e ← child end
  c ← callee s at end
  xs ← arguments s child at end (length c.params)
  give (instance_call at w e c xs)

unfoldable pub as_closure_call : (s : List ℕ) → (ℕ → Parser Expr) → (at end : ℕ) → Parser Expr
as_closure_call s child at end = do
  e ← child end
  n ← u32 s at end
  l ← u16 s at end
  xs ← run s end child
  give (closure_call at e n l (exprs_of xs))

unfoldable pub expr_kinds : (s : List ℕ) → (ℕ → Parser Expr) → (at end : ℕ) → List (Parser Expr)
expr_kinds s child at end =
    unknown_kind at
    ∷ as_nop at
    ∷ as_const s at end
    ∷ as_null s at end
    ∷ as_new_instance s at end
    ∷ as_construct s child at end
    ∷ as_assign child at end
    ∷ as_field s child at end
    ∷ as_index s child at end
    ∷ as_conditional child at end
    ∷ as_dyn_cast s child at end
    ∷ as_local s at end
    ∷ as_intrinsic s child at end
    ∷ as_free_call s child at end
    ∷ as_static_call s child at end
    ∷ as_instance_call s child at end
    ∷ as_closure_call s child at end
    ∷ []

unfoldable pub expr_body : (s : List ℕ) → (ℕ → Parser Expr) → (kind at end : ℕ) → Parser Expr
expr_body s child kind at end = pick (expr_kinds s child at end) at kind

-- an expression with at most `depth` nodes one in another; else 4, before anything else of the node
unfoldable pub parse_expr : (depth : ℕ) → (s : List ℕ) → (holder : ℕ) → Parser Expr
parse_expr zero s holder = λ at. refused 4 at 0
parse_expr (suc d) s holder = node s holder (expr_body s (parse_expr d s))

-- 5. Statements: the same, with `value` for the expressions and `child` for the statements

unfoldable pub as_expr : (ℕ → Parser Expr) → (at end : ℕ) → Parser Stmt
as_expr value at end = do
  e ← value end
  give (expr at e)

unfoldable pub as_block : (s : List ℕ) → (ℕ → Parser Stmt) → (at end : ℕ) → Parser Stmt
as_block s child at end = do
  b ← run s end child
  give (block at (block_of b))

unfoldable pub as_while : (s : List ℕ) → (ℕ → Parser Expr) → (ℕ → Parser Stmt) → (at end : ℕ) → Parser Stmt
as_while s value child at end = do
  c ← value end
  b ← run s end child
  give (while at c (block_of b))

-- an item of Branches or Switch: a condition or matcher, and a block
unfoldable pub arm : (s : List ℕ) → (ℕ → Parser Expr) → (ℕ → Parser Stmt) → (end : ℕ) → Parser (Expr × Block)
arm s value child end = do
  c ← value end
  b ← run s end child
  give (c, block_of b)

-- "default block if 1"
unfoldable pub block_if : (mark : ℕ) → Parser (List Stmt) → Parser Default
block_if zero p = give absent
block_if (suc m) p = do
  b ← p
  give (present (block_of b))

unfoldable pub as_branches : (s : List ℕ) → (ℕ → Parser Expr) → (ℕ → Parser Stmt) → (at end : ℕ) → Parser Stmt
as_branches s value child at end = do
  bs ← run s end (arm s value child)
  m ← mark_byte s at end
  d ← block_if m (run s end child)
  give (branches at (branches_of bs) d)

unfoldable pub as_switch : (s : List ℕ) → (ℕ → Parser Expr) → (ℕ → Parser Stmt) → (at end : ℕ) → Parser Stmt
as_switch s value child at end = do
  t ← u32 s at end
  e ← value end
  i ← u32 s at end
  m ← mark_byte s at end
  cs ← run s end (arm s value child)
  d ← block_if m (run s end child)
  give (switch at t e i (cases_of cs) d)

unfoldable pub as_init_array : (s : List ℕ) → (ℕ → Parser Expr) → (at end : ℕ) → Parser Stmt
as_init_array s value at end = do
  l ← u32 s at end
  t ← u32 s at end
  xs ← run s end value
  give (init_array at l t (exprs_of xs))

unfoldable pub as_init_default : (s : List ℕ) (at end : ℕ) → Parser Stmt
as_init_default s at end = do
  l ← u32 s at end
  b ← byte_below s at end 23
  i ← u32 s at end
  give (init_default at l b i)

unfoldable pub as_break : (at : ℕ) → Parser Stmt
as_break at = give (break at)

unfoldable pub as_continue : (at : ℕ) → Parser Stmt
as_continue at = give (continue at)

-- "expression if 1"
unfoldable pub return_if : (mark at : ℕ) → Parser Expr → Parser Stmt
return_if zero at p = give (return_nothing at)
return_if (suc m) at p = do
  e ← p
  give (return at e)

unfoldable pub as_return : (s : List ℕ) → (ℕ → Parser Expr) → (at end : ℕ) → Parser Stmt
as_return s value at end = do
  m ← mark_byte s at end
  return_if m at (value end)

unfoldable pub stmt_kinds : (s : List ℕ) → (ℕ → Parser Expr) → (ℕ → Parser Stmt) → (at end : ℕ) → List (Parser Stmt)
stmt_kinds s value child at end =
    unknown_kind at
    ∷ as_expr value at end
    ∷ as_block s child at end
    ∷ as_while s value child at end
    ∷ as_branches s value child at end
    ∷ as_switch s value child at end
    ∷ as_init_array s value at end
    ∷ as_init_default s at end
    ∷ as_break at
    ∷ as_continue at
    ∷ as_return s value at end
    ∷ []

unfoldable pub stmt_body : (s : List ℕ) → (ℕ → Parser Expr) → (ℕ → Parser Stmt) → (kind at end : ℕ) → Parser Stmt
stmt_body s value child kind at end = pick (stmt_kinds s value child at end) at kind

unfoldable pub parse_stmt : (depth : ℕ) → (s : List ℕ) → (holder : ℕ) → Parser Stmt
parse_stmt zero s holder = λ at. refused 4 at 0
parse_stmt (suc d) s holder = node s holder (stmt_body s (parse_expr d s) (parse_stmt d s))

-- 6. The unit: "a version byte 1, a u32 length of what follows, a byte 0 or 1 (has_return_value), one block. At most 1,048,576 bytes"

abbrev pub unit_limit : ℕ
unit_limit = 1048576

-- "At most 200 nodes may be nested"
abbrev pub depth_limit : ℕ
depth_limit = 200

unfoldable pub front_good : (s : List ℕ) → Bool
front_good s =
    leb 6 (length s) && leb (length s) unit_limit && eqb (get_or s 0 0) 1 && eqb (5 + number 4 s 1) (length s) && ltb (get_or s 5 0) 2

-- "a top statement is at depth 1"; bytes left after the block are 3 at its place, 6
unfoldable pub parse_unit : (s : List ℕ) → Answer Script
parse_unit s = elim (front_good s) [
  | true ↦ (do
    b ← run s (length s) (parse_stmt depth_limit s)
    ended 6 (length s) (record { returns = get_or s 5 0; body = block_of b })) 6
  | false ↦ refused 1 0 0
]
