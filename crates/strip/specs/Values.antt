-- The answer, in the words of the definitions.
use Rattle.std.specs.Prelude.{ℕ, List, Result, Ok, Err}
use Rattle.definitions.specs.Strip.{Stripping, stripped, unstripped}
use Rattle.instr.specs.declared.refusals.Refusal.{Refusal}
use Rattle.instr.specs.Refusals.{number_of}

-- the answer, and what the buffer holds then
unfoldable pub stripping : Result ℕ Refusal → (out : List ℕ) → Stripping
stripping (Ok n) o = stripped n o
stripping (Err q) o = unstripped (number_of q.reason) q.place q.extra o
