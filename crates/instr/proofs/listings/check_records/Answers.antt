-- What is left to check decides as all records do.
use Prim.Native.Nat.{◌+◌, ◌-◌, ◌*◌}
use mathlib.Core.Path.{sym, ◌∙◌}
use native.Mathlib.Omega.{arith}
use Rattle.definitions.specs.Instr.{record_length}
use Rattle.definitions.specs.Listing.{front_length}
use Rattle.instr.proofs.ListingLaws.{bad_at, good_at, records_end}
use Rattle.instr.proofs.listings.check_records.Goals as goal

pub returns-then-not-is_good : goal.returns-then-not-is_good
returns-then-not-is_good c =
    let n = c.loop-n.n in
    bad_at c.args.s.now (c.args.count - n) (front_length + record_length * n) (omega arith) c.loop-n.invariant c.is_good.ensures c.if-not-is_good.true

pub loop-n-preserved : goal.loop-n-preserved
loop-n-preserved c =
    let n = c.loop-n.n in
    let left = c.args.count - n in
    good_at c.args.s.now left (front_length + record_length * n) (c.args.count - (n + 1)) (front_length + record_length * (n + 1)) (omega arith) (omega arith) c.loop-n.invariant c.is_good.ensures c.if-not-is_good.false

pub returns : goal.returns
returns c =
    let n = c.loop-n.n in
    records_end c.args.s.now (c.args.count - n) (front_length + record_length * n) (omega arith) ∙ sym c.loop-n.invariant
