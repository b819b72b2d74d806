-- The parser of a node, by its class, and of what a run holds.
use Rattle.std.specs.Prelude.{ℕ, List}
use Rattle.definitions.specs.Tree.{Expr, Stmt, Block}
use Rattle.definitions.specs.Read.{Parser, parse_expr, parse_stmt, expr_body, stmt_body, arm}
use Rattle.ir.specs.declared.Class.{Class}
use Rattle.ir.specs.declared.Class.TheVariants.{Statement, Expression}
use Rattle.ir.specs.declared.Item.{Item}
use Rattle.ir.specs.declared.Item.TheVariants.{Node, Arm}

-- the tree of a node
abbrev pub TreeOf : Class → Type 0
TreeOf Statement = Stmt
TreeOf Expression = Expr

-- a node
abbrev pub node_of : (class : Class) (depth : ℕ) (s : List ℕ) (holder : ℕ) → Parser (TreeOf class)
node_of Statement = parse_stmt
node_of Expression = parse_expr

-- what its kind asks, with depth for the nodes in it
abbrev pub kind_of : (class : Class) (depth : ℕ) (s : List ℕ) (kind at end : ℕ) → Parser (TreeOf class)
kind_of Statement d s = stmt_body s (parse_expr d s) (parse_stmt d s)
kind_of Expression d s = expr_body s (parse_expr d s)

-- an item of a run
abbrev pub ItemTree : Item → Type 0
ItemTree (Node class) = TreeOf class
ItemTree Arm = Expr × Block

abbrev pub item_of : (item : Item) (depth : ℕ) (s : List ℕ) (holder : ℕ) → Parser (ItemTree item)
item_of (Node class) d s = node_of class d s
item_of Arm d s = arm s (parse_expr d s) (parse_stmt d s)
