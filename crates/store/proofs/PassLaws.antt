-- Storing and the way back as passes that map the fields of records. Assumes nothing.
use Prim.Native.Nat.{ℕ, suc, ◌+◌}
use mathlib.Core.Path.{◌≡◌, refl, ap}
use mathlib.Core.List.{List, [], ◌∷◌}
use Rattle.definitions.specs.Answer.{onward}
use Rattle.definitions.specs.Instr.{Instr, size}
use Rattle.definitions.specs.Listing.{read_listing}
use Rattle.definitions.specs.Resolve.{fitting}
use Rattle.definitions.specs.Stored.{Way, move_field, move_record, move_records, move}
use Rattle.laws.proofs.Results.{onward_same}
use Rattle.resolve.specs.Mapping.{map_field, map_record, map_records, rewrite}
use Rattle.resolve.proofs.PassLaws.{record_maps}
use Rattle.store.specs.Values.{moved}

moves_record : (way : Way) (start k : ℕ) (i : Instr) → map_record (moved way) start k i ≡ move_record way k i
unfolding map_field move_field move_record
moves_record way start k i = record_maps (moved way) start k i

-- where a record starts does not matter
pub moves_records : (way : Way) (start k : ℕ) (is : List Instr) → map_records (moved way) start k is ≡ move_records way k is
unfolding map_records move_records
moves_records way start k [] = refl
moves_records way start k (i ∷ is) = rw (moves_record way start k i, moves_records way (start + size i) (suc k) is)

pub moves : (way : Way) (s : List ℕ) (space : ℕ) → rewrite (moved way) s space ≡ move way s space
unfolding rewrite move onward
moves way s space = onward_same (read_listing s) _ _ (λ is _. ap (λ r. onward r (fitting space)) (moves_records way 0 0 is))
