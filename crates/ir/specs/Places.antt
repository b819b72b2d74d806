-- Where the parts of a node are that the parser reads, that they read too, and the node's tree in terms of theirs: a record for each kind.
-- A node stands at `at` and ends at `stop`; the nodes in it have the depth d.
use Rattle.std.specs.Prelude.{ℕ, suc, ◌+◌, ◌≤◌, ◌<◌, List, ◌≡◌, length, get_or}
use Rattle.definitions.specs.Answer.{ok}
use Rattle.definitions.specs.Bytes.{number}
use Rattle.definitions.specs.Tag.{const_widths}
use Rattle.definitions.specs.Tree.{Callee, Expr, Stmt, Block, Default, Script, nop, const, null, new_instance, construct, assign, field, index, conditional, dyn_cast, local, intrinsic, free_call, static_call, instance_call, closure_call, expr, block, while, branches, switch, init_array, init_default, break, continue, return, return_nothing, absent, present, exprs_of, block_of, branches_of, cases_of}
use Rattle.definitions.specs.Read.{Parser, filling, arm, parse_expr, parse_stmt, unit_limit, depth_limit}

-- where what begins with its length ends
abbrev pub end_of : (s : List ℕ) (at : ℕ) → ℕ
end_of s at = at + 4 + number 4 s at

-- 1. Parts

-- a node that ends at `next`, within its holder
pub record ExprAt (d : ℕ) (s : List ℕ) (holder at : ℕ) (e : Expr) (next : ℕ) : Type 0 where
  pub reads : parse_expr d s holder at ≡ ok e next
  pub deep : 0 < d
  pub head : at + 5 ≤ next
  pub tail : next ≤ holder
  pub ends : next ≡ end_of s at

pub record StmtAt (d : ℕ) (s : List ℕ) (holder at : ℕ) (e : Stmt) (next : ℕ) : Type 0 where
  pub reads : parse_stmt d s holder at ≡ ok e next
  pub deep : 0 < d
  pub head : at + 5 ≤ next
  pub tail : next ≤ holder
  pub ends : next ≡ end_of s at

-- a run whose length stands at `at` and whose items end at `next`, within its holder
pub record RunAt {A : Type 0} (s : List ℕ) (holder : ℕ) (p : ℕ → Parser A) (at : ℕ) (xs : List A) (next : ℕ) : Type 0 where
  pub reads : filling p next (at + 4) ≡ ok xs next
  pub head : at + 4 ≤ next
  pub tail : next ≤ holder
  pub ends : next ≡ end_of s at

-- a byte within the node, below its bound
pub record ByteAt (s : List ℕ) (stop bound at : ℕ) : Type 0 where
  pub fits : at + 1 ≤ stop
  pub small : get_or s at 0 < bound

-- a function: its fields, of which the marks are `params`, begin at `at`; its arguments' run stands at `list` and ends the node
pub record CallAt (d : ℕ) (s : List ℕ) (stop at : ℕ) (c : Callee) (args : List Expr) (list : ℕ) : Type 0 where
  pub flags : ByteAt s stop 16 (at + 10)
  pub count : get_or s (at + 11) 0 ≡ length c.params
  pub list_is : list ≡ at + 12 + length c.params
  pub marks : (i : ℕ) → i < length c.params → get_or c.params i 0 ≡ get_or s (at + 12 + i) 0
  pub function_is : c.function ≡ number 4 s at
  pub name_is : c.name ≡ number 4 s (at + 4)
  pub line_is : c.line ≡ number 2 s (at + 8)
  pub flags_is : c.flags ≡ get_or s (at + 10) 0
  pub run : RunAt s stop (parse_expr d s) list args stop
  pub enough : length args ≤ length c.params

-- 2. Expressions

pub record NopAt (at stop : ℕ) (e : Expr) : Type 0 where
  pub ends : at + 5 ≡ stop
  pub tree : e ≡ nop at

pub record ConstAt (s : List ℕ) (at stop : ℕ) (e : Expr) : Type 0 where
  pub byte : ByteAt s stop 16 (at + 5)
  pub ends : at + 6 + get_or const_widths (get_or s (at + 5) 0) 0 ≡ stop
  pub tree : e ≡ const at (get_or s (at + 5) 0) (number (get_or const_widths (get_or s (at + 5) 0) 0) s (at + 6))

pub record NullAt (s : List ℕ) (at stop : ℕ) (e : Expr) : Type 0 where
  pub weak : ByteAt s stop 2 (at + 5)
  pub ends : at + 6 ≡ stop
  pub tree : e ≡ null at (get_or s (at + 5) 0)

pub record NewInstanceAt (s : List ℕ) (at stop : ℕ) (e : Expr) : Type 0 where
  pub ends : at + 9 ≡ stop
  pub tree : e ≡ new_instance at (number 4 s (at + 5))

pub record ConstructAt (d : ℕ) (s : List ℕ) (at stop : ℕ) (e : Expr) : Type 0 where
  pub args : List Expr
  pub run : RunAt s stop (parse_expr d s) (at + 9) args stop
  pub tree : e ≡ construct at (number 4 s (at + 5)) (exprs_of args)

pub record AssignAt (d : ℕ) (s : List ℕ) (at stop : ℕ) (e : Expr) : Type 0 where
  pub place : Expr
  pub value : Expr
  pub second : ℕ
  pub one : ExprAt d s stop (at + 5) place second
  pub two : ExprAt d s stop second value stop
  pub tree : e ≡ assign at place value

pub record FieldAt (d : ℕ) (s : List ℕ) (at stop : ℕ) (e : Expr) : Type 0 where
  pub receiver : Expr
  pub form : ByteAt s stop 3 (at + 5)
  pub one : ExprAt d s stop (at + 10) receiver stop
  pub tree : e ≡ field at (get_or s (at + 5) 0) (number 4 s (at + 6)) receiver

pub record IndexAt (d : ℕ) (s : List ℕ) (at stop : ℕ) (e : Expr) : Type 0 where
  pub array : Expr
  pub subscript : Expr
  pub second : ℕ
  pub dynamic : ByteAt s stop 2 (at + 5)
  pub one : ExprAt d s stop (at + 10) array second
  pub two : ExprAt d s stop second subscript stop
  pub tree : e ≡ index at (get_or s (at + 5) 0) (number 4 s (at + 6)) array subscript

pub record ConditionalAt (d : ℕ) (s : List ℕ) (at stop : ℕ) (e : Expr) : Type 0 where
  pub test : Expr
  pub then : Expr
  pub else : Expr
  pub second : ℕ
  pub third : ℕ
  pub one : ExprAt d s stop (at + 5) test second
  pub two : ExprAt d s stop second then third
  pub three : ExprAt d s stop third else stop
  pub tree : e ≡ conditional at test then else

pub record DynCastAt (d : ℕ) (s : List ℕ) (at stop : ℕ) (e : Expr) : Type 0 where
  pub value : Expr
  pub weak : ByteAt s stop 2 (at + 9)
  pub one : ExprAt d s stop (at + 10) value stop
  pub tree : e ≡ dyn_cast at (number 4 s (at + 5)) (get_or s (at + 9) 0) value

pub record LocalAt (s : List ℕ) (at stop : ℕ) (e : Expr) : Type 0 where
  pub form : ByteAt s stop 4 (at + 5)
  pub ends : at + 10 ≡ stop
  pub tree : e ≡ local at (get_or s (at + 5) 0) (number 4 s (at + 6))

pub record IntrinsicAt (d : ℕ) (s : List ℕ) (at stop : ℕ) (e : Expr) : Type 0 where
  pub args : List Expr
  pub code : ByteAt s stop 34 (at + 5)
  pub short : ByteAt s stop 2 (at + 6)
  pub run : RunAt s stop (parse_expr d s) (at + 12) args stop
  pub tree : e ≡ intrinsic at (get_or s (at + 5) 0) (get_or s (at + 6) 0) (get_or s (at + 7) 0) (number 4 s (at + 8)) (exprs_of args)

pub record FreeCallAt (d : ℕ) (s : List ℕ) (at stop : ℕ) (e : Expr) : Type 0 where
  pub callee : Callee
  pub args : List Expr
  pub list : ℕ
  pub call : CallAt d s stop (at + 5) callee args list
  pub tree : e ≡ free_call at callee (exprs_of args)

pub record StaticCallAt (d : ℕ) (s : List ℕ) (at stop : ℕ) (e : Expr) : Type 0 where
  pub callee : Callee
  pub args : List Expr
  pub list : ℕ
  pub call : CallAt d s stop (at + 5) callee args list
  pub tree : e ≡ static_call at callee (exprs_of args)

pub record InstanceCallAt (d : ℕ) (s : List ℕ) (at stop : ℕ) (e : Expr) : Type 0 where
  pub receiver : Expr
  pub callee : Callee
  pub args : List Expr
  pub second : ℕ
  pub list : ℕ
  pub weak : ByteAt s stop 2 (at + 5)
  pub one : ExprAt d s stop (at + 6) receiver second
  pub call : CallAt d s stop second callee args list
  pub tree : e ≡ instance_call at (get_or s (at + 5) 0) receiver callee (exprs_of args)

pub record ClosureCallAt (d : ℕ) (s : List ℕ) (at stop : ℕ) (e : Expr) : Type 0 where
  pub closure : Expr
  pub args : List Expr
  pub second : ℕ
  pub one : ExprAt d s stop (at + 5) closure second
  pub run : RunAt s stop (parse_expr d s) (second + 6) args stop
  pub tree : e ≡ closure_call at closure (number 4 s second) (number 2 s (second + 4)) (exprs_of args)

-- 3. Statements

pub record EvalAt (d : ℕ) (s : List ℕ) (at stop : ℕ) (t : Stmt) : Type 0 where
  pub value : Expr
  pub one : ExprAt d s stop (at + 5) value stop
  pub tree : t ≡ expr at value

pub record BlockAt (d : ℕ) (s : List ℕ) (at stop : ℕ) (t : Stmt) : Type 0 where
  pub body : List Stmt
  pub run : RunAt s stop (parse_stmt d s) (at + 5) body stop
  pub tree : t ≡ block at (block_of body)

pub record WhileAt (d : ℕ) (s : List ℕ) (at stop : ℕ) (t : Stmt) : Type 0 where
  pub test : Expr
  pub body : List Stmt
  pub second : ℕ
  pub one : ExprAt d s stop (at + 5) test second
  pub run : RunAt s stop (parse_stmt d s) second body stop
  pub tree : t ≡ while at test (block_of body)

-- an item of Branches or Switch, which ends at `next`
pub record ArmAt (d : ℕ) (s : List ℕ) (holder at : ℕ) (c : Expr) (b : Block) (next : ℕ) : Type 0 where
  pub body : List Stmt
  pub second : ℕ
  pub one : ExprAt d s holder at c second
  pub run : RunAt s holder (parse_stmt d s) second body next
  pub block_is : b ≡ block_of body

-- what a mark says is there, up to the node's end
pub data DefaultAt (d : ℕ) (s : List ℕ) (stop at : ℕ) : (mark : ℕ) → Default → Type 0 where
  none : at ≡ stop → DefaultAt d s stop at 0 absent
  some : {m : ℕ} (body : List Stmt) → RunAt s stop (parse_stmt d s) at body stop → DefaultAt d s stop at (suc m) (present (block_of body))

pub record BranchesAt (d : ℕ) (s : List ℕ) (at stop : ℕ) (t : Stmt) : Type 0 where
  pub arms : List (Expr × Block)
  pub default : Default
  pub list : ℕ
  pub run : RunAt s stop (arm s (parse_expr d s) (parse_stmt d s)) (at + 5) arms list
  pub mark : ByteAt s stop 2 list
  pub last : DefaultAt d s stop (list + 1) (get_or s list 0) default
  pub tree : t ≡ branches at (branches_of arms) default

pub record SwitchAt (d : ℕ) (s : List ℕ) (at stop : ℕ) (t : Stmt) : Type 0 where
  pub scrutinee : Expr
  pub cases : List (Expr × Block)
  pub default : Default
  pub second : ℕ
  pub list : ℕ
  pub one : ExprAt d s stop (at + 9) scrutinee second
  pub mark : ByteAt s stop 2 (second + 4)
  pub run : RunAt s stop (arm s (parse_expr d s) (parse_stmt d s)) (second + 5) cases list
  pub last : DefaultAt d s stop list (get_or s (second + 4) 0) default
  pub tree : t ≡ switch at (number 4 s (at + 5)) scrutinee (number 4 s second) (cases_of cases) default

pub record InitArrayAt (d : ℕ) (s : List ℕ) (at stop : ℕ) (t : Stmt) : Type 0 where
  pub elements : List Expr
  pub run : RunAt s stop (parse_expr d s) (at + 13) elements stop
  pub tree : t ≡ init_array at (number 4 s (at + 5)) (number 4 s (at + 9)) (exprs_of elements)

pub record InitDefaultAt (s : List ℕ) (at stop : ℕ) (t : Stmt) : Type 0 where
  pub byte : ByteAt s stop 23 (at + 9)
  pub ends : at + 14 ≡ stop
  pub tree : t ≡ init_default at (number 4 s (at + 5)) (get_or s (at + 9) 0) (number 4 s (at + 10))

pub record BreakAt (at stop : ℕ) (t : Stmt) : Type 0 where
  pub ends : at + 5 ≡ stop
  pub tree : t ≡ break at

pub record ContinueAt (at stop : ℕ) (t : Stmt) : Type 0 where
  pub ends : at + 5 ≡ stop
  pub tree : t ≡ continue at

-- by its mark
pub data ReturnAt (d : ℕ) (s : List ℕ) (at stop : ℕ) : (mark : ℕ) → Stmt → Type 0 where
  nothing : at + 6 ≡ stop → ReturnAt d s at stop 0 (return_nothing at)
  value : {m : ℕ} (e : Expr) → ExprAt d s stop (at + 6) e stop → ReturnAt d s at stop (suc m) (return at e)

-- 4. The unit: its block's run stands at 6 and ends the unit

pub record UnitAt (s : List ℕ) (u : Script) (next : ℕ) : Type 0 where
  pub body : List Stmt
  pub short : length s ≤ unit_limit
  pub mark : get_or s 5 0 < 2
  pub run : RunAt s (length s) (parse_stmt depth_limit s) 6 body (length s)
  pub ends : next ≡ length s
  pub tree : u ≡ record { returns = get_or s 5 0; body = block_of body }
