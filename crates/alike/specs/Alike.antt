-- What is promised of two units that are equal but for what may differ: distances don't depend on what studios blank.
use Rattle.std.specs.Prelude.{ℕ, ◌≡◌, List, length, take}
use Rattle.definitions.specs.Resolve.{resolve}
use Rattle.definitions.specs.Stage.{measure, lower_into, listed, lower_to, stage}
use Rattle.landing.specs.Walk.{Bytes}
use Rattle.resolve.specs.Delivered.{listing_in}
use Rattle.alike.specs.Outline.{lowering, resolving}

-- each by one equation: the same refusal in all three numbers, or the same in every record. That a unit is refused in reading is no exception
pub record Alike (s t : List ℕ) : Type 0 where
  -- measuring: records, labels and total size
  pub measures : measure s ≡ measure t
  -- lowering into buffers of equal lengths: as many records with the same starts, sizes, labels and nodes, and the same label table
  pub lowers : (bytes words : ℕ) → lowering (lower_into s bytes words) ≡ lowering (lower_into t bytes words)
  -- resolving what lowering left in the buffers lent to it, into equal space: as many records with the same starts, sizes, distances and nodes
  pub resolves : Bytes s → Bytes t → (o m o' m' : List ℕ) (total k n total' k' n' : ℕ) (out marks out' marks' : List ℕ)
      → lower_to (lower_into s (length o) (length m)) o m ≡ listed total k n out marks → lower_to (lower_into t (length o') (length m')) o' m' ≡ listed total' k' n' out' marks'
      → (w w' : List ℕ) → take k w ≡ take k marks → take k' w' ≡ take k' marks' → (space : ℕ)
      → resolving (resolve (listing_in n out) w space) ≡ resolving (resolve (listing_in n' out') w' space)
  -- the whole stage, whatever room is lent
  pub stages : resolving (stage s) ≡ resolving (stage t)
