-- The proof of the cycle of calls that strips a node. A function's measure is twenty times the depth that is left, and its place among those of one depth.
-- Assumes nothing.
use Rattle.strip.proofs.NodeLaws.{Filling, rank}
use Rattle.strip.proofs.PartLaws.{Through}
use Rattle.strip.specs.Parts.{item_of}
use Prim.Native.Nat.{◌+◌, ◌*◌, ◌-◌}
use Rattle.strip.proofs.fields.Holder.+nodes.Given as goal

abbrev pub decreases-item : goal.decreases-item
decreases-item l = 20 * l.self.now.values + 5 * rank l.item + 1

abbrev pub decreases-items : goal.decreases-items
decreases-items l = 20 * l.self.now.values + 5 * rank l.item + 2

abbrev pub decreases-node : goal.decreases-node
decreases-node l = 20 * l.self.now.values

abbrev pub decreases-part : goal.decreases-part
decreases-part l = 20 * l.self.now.values + 14

abbrev pub decreases-parts : goal.decreases-parts
decreases-parts l = 20 * l.self.now.values + 15

abbrev pub decreases-run : goal.decreases-run
decreases-run l = 20 * l.self.now.values + 5 * rank l.item + 3

abbrev pub invariant-items-loop-next : goal.invariant-items-loop-next
invariant-items-loop-next l = Filling l.self.unit.now l.initial.out l.fn.at l.self.end (item_of l.item l.self.values l.self.blocks l.self.unit.now l.self.end) l.out l.next.at l.next.last

abbrev pub decreases-items-loop-next : goal.decreases-items-loop-next
decreases-items-loop-next l = l.self.end - l.next.at

abbrev pub invariant-parts-loop-part : goal.invariant-parts-loop-part
invariant-parts-loop-part l = Through l.self.values l.self.blocks l.self.unit.now l.self.end l.parts l.from.at l.initial.out l.out l.next.at l.next.last l.part-index
