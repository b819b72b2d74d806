-- 30, then that of a field, then 20, then all is written.
use Rattle.resolve.proofs.Passes.{rewrite_20, rewrite_done}
use Rattle.resolve.proofs.mapping.rewrite.Goals as goal

pub returns-then-out-listing : goal.returns-then-out-listing
returns-then-out-listing g c =
    rw c.of.ensures (rewrite_20 _ _ _ c.in_ok-count.ensures c.in_ok-check_fields.ensures _ c.if-out-listing.true)

pub returns : goal.returns
returns g c = rewrite_done _ _ _ c.in_ok-count.ensures c.in_ok-check_fields.ensures _ _ c.if-out-listing.false c.write_fields.ensures
