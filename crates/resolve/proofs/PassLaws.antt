-- Resolving as a pass that maps the fields of records. Assumes nothing.
use Prim.Native.Nat.{ℕ, suc, ◌+◌}
use mathlib.Core.Path.{◌≡◌, refl, ap}
use mathlib.Core.List.{List, [], ◌∷◌}
use Rattle.definitions.specs.Answer.{Result, made, refusal, onward}
use Rattle.definitions.specs.Tag.{row_of}
use Rattle.definitions.specs.Instr.{Instr, size}
use Rattle.definitions.specs.Resolve.{resolve_field, resolve_record, resolve_records, fitting, resolve}
use Rattle.definitions.specs.Listing.{read_listing}
use Rattle.laws.proofs.Results.{onward_same}
use Rattle.resolve.specs.Mapping.{Mapped, distances, map_field, map_fields, relabelled, map_record, map_records, rewrite}

-- the two fields of a record, and then the record with them
pub both : (i : Instr) (x y : Result ℕ) → onward {A = ℕ × ℕ} (onward x (λ f. onward y (λ s. made (f, s)))) (λ p. made (relabelled i p.0 p.1)) ≡ onward x (λ f. onward y (λ s. made (relabelled i f s)))
unfolding onward
both i (made f) (made s) = refl
both i (made f) (refusal n p e) = refl
both i (refusal n p e) y = refl

pub record_maps : (m : Mapped) (start k : ℕ) (i : Instr) → map_record m start k i ≡
    onward (map_field m (row_of i.tag).first i.tag start k 0 i.first) (λ f. onward (map_field m (row_of i.tag).second i.tag start k 1 i.second) (λ s. made (relabelled i f s)))
unfolding map_record map_fields
record_maps m start k i = both i (map_field m (row_of i.tag).first i.tag start k 0 i.first) (map_field m (row_of i.tag).second i.tag start k 1 i.second)

resolves_record : (marks : List ℕ) (start k : ℕ) (i : Instr) → map_record (distances marks) start k i ≡ resolve_record marks start k i
unfolding map_field resolve_field resolve_record
resolves_record marks start k i = record_maps (distances marks) start k i

pub resolves_records : (marks : List ℕ) (start k : ℕ) (is : List Instr) → map_records (distances marks) start k is ≡ resolve_records marks start k is
unfolding map_records resolve_records
resolves_records marks start k [] = refl
resolves_records marks start k (i ∷ is) = rw (resolves_record marks start k i, resolves_records marks (start + size i) (suc k) is)

pub resolves : (s marks : List ℕ) (space : ℕ) → rewrite (distances marks) s space ≡ resolve s marks space
unfolding rewrite resolve onward
resolves s marks space = onward_same (read_listing s) _ _ (λ is _. ap (λ r. onward r (fitting space)) (resolves_records marks 0 0 is))
