-- After i turns the value is the number in i bytes, and fits them.
use Prim.Native.Nat.{◌<◌, ◌^◌}
use mathlib.Core.Path.{◌≡◌}
use Rattle.definitions.specs.Bytes.{number}
use Rattle.instr.proofs.numbers.number_inside.Given as goal

abbrev pub invariant-loop-i : goal.invariant-loop-i
invariant-loop-i g l = (l.v ≡ number l.i l.s l.at) × (l.v < 256 ^ l.i)
