use Prim.Native.Nat.{ℕ}
use mathlib.Core.Path.{◌∙◌, ap}
use native.Mathlib.Nat.{add-zero}
use lib.ListN.{get_or}
use Rattle.instr.proofs.numbers.byte_at.Goals as goal

pub returns : goal.returns
returns c =
    let a = c.args in
    c.byte_after.ensures ∙ ap (λ (k : ℕ). get_or a.s.now k 0) (add-zero a.at)
