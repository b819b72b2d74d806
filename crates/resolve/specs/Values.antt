-- The resolver's answers, in the words of the definitions.
use Rattle.std.specs.Prelude.{ℕ, cond, List, Option, Some, None, Result, Ok, Err}
use Rattle.std.proofs.Math.IntN.{sub_ℕ}
use Rattle.definitions.specs.Resolve.{in_range, word}
use Rattle.definitions.specs.Stage.{Resolving, coded, unresolved}
use Rattle.instr.specs.declared.refusals.Refusal.{Refusal}
use Rattle.instr.specs.Refusals.{number_of}
use Rattle.resolve.specs.declared.mapping.Operand.{Operand}
use Rattle.resolve.specs.declared.mapping.Operand.TheVariants.{First, Second}
pub use Rattle.resolve.specs.Mapping.{relabelled}

-- "extra 0 first, 1 second"
abbrev pub extra_of : Operand → ℕ
extra_of First = 0
extra_of Second = 1

-- the distance of a mark, where it is in range
unfoldable pub near : (mark start : ℕ) → Option ℕ
near mark start = cond (in_range (sub_ℕ mark start)) (Some (word (sub_ℕ mark start))) None

-- the answer, and what the buffer holds then
unfoldable pub resolving : Result ℕ Refusal → (out : List ℕ) → Resolving
resolving (Ok n) o = coded n o
resolving (Err q) o = unresolved (number_of q.reason) q.place q.extra o
