-- After k turns the last k bytes of the number stand in their place.
use Prim.Native.Nat.{◌+◌, ◌-◌, ◌/◌, ◌^◌}
use mathlib.Core.Path.{◌≡◌}
use mathlib.Core.List.{◌++◌}
use lib.ListN.{length, take, drop}
use Rattle.definitions.specs.Bytes.{bytes}
use Rattle.instr.proofs.numbers.put_number.Given as goal

abbrev pub invariant-loop-k : goal.invariant-loop-k
invariant-loop-k l = record {
  same_length : length l.part ≡ length l.initial.part;
  left : l.rest ≡ l.v / 256 ^ l.k;
  put : l.part ≡ take (l.at + (l.w - l.k)) l.initial.part ++ (bytes l.k l.v ++ drop (l.at + l.w) l.initial.part);
}
