-- A record that is seen lies inside the listing, so its bounds fit.
use Prim.Native.Nat.{◌+◌, ◌≤◌}
use mathlib.Core.Path.{sym}
use lib.ListN.{length}
use native.Mathlib.Omega.{arith}
use Rattle.definitions.specs.Instr.{record_length}
use Rattle.definitions.specs.Listing.{listing_length}
use Rattle.instr.proofs.ListingLaws.{unseen, seen_inside, seen_part}
use Rattle.instr.proofs.listings.view.Goals as goal

-- the record lies inside
inside : (c : goal.Else-is_err) → listing_length c.args.n + record_length ≤ length c.args.s.now
inside c = seen_inside c.args.s.now c.args.n c.view_check.result (sym c.if-is_err.ensures.value) c.view_check.ensures

pub returns-then-is_err : goal.returns-then-is_err
returns-then-is_err c = unseen c.args.s.now c.args.n c.view_check.result (sym c.if-is_err.ensures.value) c.view_check.ensures

pub returns : goal.returns
returns c = seen_part c.args.s.now c.args.n c.view_check.result (sym c.if-is_err.ensures.value) c.view_check.ensures

pub overflow_mul-from : goal.overflow_mul-from
overflow_mul-from c = omega (arith, inside c)

pub overflow_add-from : goal.overflow_add-from
overflow_add-from c = omega (arith, inside c)

pub overflow_add-result : goal.overflow_add-result
overflow_add-result c = omega (arith, inside c)

pub slice_bounds-result-end-2 : goal.slice_bounds-result-end-2
slice_bounds-result-end-2 c = omega (arith, inside c)
