-- What storing or the way back answers and leaves where it takes all fields.
use Rattle.std.specs.Prelude.{ℕ, cond, List, leb, length}
use Rattle.definitions.specs.Stage.{over, Resolving, coded, unresolved}

-- a listing of so many records, these bytes, stands in the lent buffer before what stood behind it; 20, if the buffer is shorter
unfoldable pub into : (records : ℕ) (listing out : List ℕ) → Resolving
into n s o = cond (leb (length s) (length o)) (coded n (over s o)) (unresolved 20 0 0 o)
