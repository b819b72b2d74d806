-- The front, then all records.
use mathlib.Core.Path.{sym}
use Rattle.instr.specs.Refusals.{answer}
use Rattle.instr.proofs.ListingLaws.{front_is_good, front_is_bad, fits_whole, listing_good, listing_front_law, listing_records}
use Rattle.instr.proofs.listings.check_listing.Goals.{in_default-via-in-Some+else-check_records, in_default-via-in_default}
use Rattle.instr.proofs.listings.check_listing.Goals as goal

pub check_records-requires : goal.check_records-requires
check_records-requires c =
    let s = c.args.s.now in
    let f = front_is_good s c.in-Some.count c.in-Some.ensures in
    fits_whole s c.in-Some.count f.0 f.1

pub returns-in-Some : goal.returns-in-Some
returns-in-Some c =
    let s = c.args.s.now in
    let f = front_is_good s c.in-Some.count c.in-Some.ensures in
    listing_good s c.in-Some.count f.0 f.1 (sym c.if-check_records.ensures)

pub returns-in_default : goal.returns-in_default
unfolding answer
returns-in_default c =
    let s = c.args.s.now in
    rw c.of.ensures (elim c.in_default.branch [
      | in_default-via-in-Some+else-check_records w ↦ let n = w.in-Some.count in let f = front_is_good s n w.in-Some.ensures in listing_records s n f.0 f.1 (sym w.if-check_records.ensures)
      | in_default-via-in_default w ↦ listing_front_law s (front_is_bad s w.in_default.ensures)
    ])
