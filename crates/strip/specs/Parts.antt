-- A list of parts, and nodes and items by their class, in the words of the definitions.
use Rattle.std.specs.Prelude.{ℕ, List, [], ◌∷◌, ◌++◌, Option, Some, None}
use Rattle.std.proofs.Math.Option as math
use Rattle.std.proofs.Math.Option.{none, some}
use Rattle.definitions.specs.Strip as definition
use Rattle.definitions.specs.Strip.{Strip, nothing, ◌and◌, strip_run, strip_expr, strip_stmt, expr_parts, stmt_parts}
use Rattle.ir.specs.declared.Class.{Class}
use Rattle.ir.specs.declared.Class.TheVariants.{Statement, Expression}
use Rattle.ir.specs.declared.Item.{Item}
use Rattle.ir.specs.declared.Item.TheVariants.{Node, Arm}
use Rattle.strip.specs.declared.Part.{Part}
use Rattle.strip.specs.declared.Part.TheVariants.{Free, Kept, Small, Constant, Params, Value, Run, Arguments, ValueIf, BlockIf}

-- a part
abbrev pub part_is : Part → List definition.Part
part_is (Free w) = definition.free w ∷ []
part_is (Kept w) = definition.kept w ∷ []
part_is (Small bound) = definition.small bound ∷ []
part_is Constant = definition.constant ∷ []
part_is Params = definition.params ∷ []
part_is Value = definition.value ∷ []
part_is (Run (Node Expression)) = definition.values ∷ []
part_is (Run (Node Statement)) = definition.block ∷ []
part_is (Run Arm) = definition.arms ∷ []
part_is Arguments = definition.arguments ∷ []
part_is ValueIf = definition.value_if ∷ []
part_is BlockIf = definition.block_if ∷ []

abbrev pub listed : List Part → List definition.Part
listed [] = []
listed (p ∷ ps) = part_is p ++ listed ps

-- the parts of a kind, if it is one
abbrev pub maybe_listed : Option (List Part) → math.Option (List definition.Part)
maybe_listed None = none
maybe_listed (Some ps) = some (listed ps)

-- the parts of the kinds of a class
abbrev pub of_class : Class → List (List definition.Part)
of_class Statement = stmt_parts
of_class Expression = expr_parts

-- how many statements may stand one in another in a node of a class: an expression has no blocks
abbrev pub blocks_of : Class → (depth : ℕ) → ℕ
blocks_of Statement d = d
blocks_of Expression d = 0

-- a node in a holder
abbrev pub node_of : (class : Class) (depth : ℕ) (s : List ℕ) (holder : ℕ) → Strip
node_of Statement = strip_stmt
node_of Expression = strip_expr

-- how many nodes of a class may stand one in another: `depth` for expressions, `blocks` for statements
abbrev pub depth_of : (class : Class) (depth blocks : ℕ) → ℕ
depth_of Statement d b = b
depth_of Expression d b = d

-- an item of a run
abbrev pub item_of : (item : Item) (depth blocks : ℕ) (s : List ℕ) (holder : ℕ) → Strip
item_of (Node class) d b s = node_of class (depth_of class d b) s
item_of Arm d b s = λ to. strip_expr d s to and strip_run s to (strip_stmt b s) (λ k. nothing)
