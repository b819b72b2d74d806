-- After i turns the value is the number in i bytes, and fits them.
use Prim.Native.Nat.{◌+◌, ◌<◌, ◌^◌}
use mathlib.Core.Path.{◌≡◌}
use Rattle.definitions.specs.Bytes.{number}
use Rattle.instr.proofs.numbers.number_after.Given as goal

abbrev pub invariant-loop-i : goal.invariant-loop-i
invariant-loop-i l = (l.v ≡ number l.i l.s (l.at + l.k)) × (l.v < 256 ^ l.i)
