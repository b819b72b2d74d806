-- 30 before 22.
use Rattle.std.proofs.lemmas.Result.{err_from_is_err_and}
use Rattle.instr.specs.Values.{viewed_is}
use Rattle.instr.proofs.ListingLaws.{view_bad, view_seen, view_past}
use Rattle.instr.proofs.listings.view_check.Goals as goal

pub returns-in_err-count : goal.returns-in_err-count
returns-in_err-count c =
    let p = err_from_is_err_and c.from_residual.result c.from_residual.ensures.1 in
    rw (p.1, p.2) (view_bad c.args.s.now c.args.n c.in_err-count.field-0.0 c.in_err-count.ensures)

pub returns-then-n-count : goal.returns-then-n-count
returns-then-n-count c = view_seen c.args.s.now c.args.n c.in_ok-count.count c.in_ok-count.ensures c.if-n-count.true

pub returns-else-n-count : goal.returns-else-n-count
unfolding viewed_is
returns-else-n-count c = rw c.at.ensures (view_past c.args.s.now c.args.n c.in_ok-count.count c.in_ok-count.ensures c.if-n-count.false)
