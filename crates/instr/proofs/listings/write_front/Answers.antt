-- A store and a number are the front's bytes before the rest; refused, the part is not touched.
use mathlib.Core.Path.{◌∙◌}
use lib.ListN.{length-set}
use Rattle.instr.proofs.ListingLaws.{front_room, front_over, front_tight, front_none, front_put}
use Rattle.instr.proofs.listings.write_front.Goals as goal

pub returns-then-n-gt-MOST_RECORDS : goal.returns-then-n-gt-MOST_RECORDS
returns-then-n-gt-MOST_RECORDS c =
    let a = c.args in
    let e = front_over a.count a.out.now c.if-n-gt-MOST_RECORDS.true in
    (e, front_none a.count a.out.now e)

pub returns-then-out-lt-FRONT : goal.returns-then-out-lt-FRONT
returns-then-out-lt-FRONT c =
    let a = c.args in
    let e = front_tight a.count a.out.now c.if-out-lt-FRONT.true in
    (e, front_none a.count a.out.now e)

pub returns : goal.returns
returns c =
    let a = c.args in
    let e = front_room a.count a.out.now c.if-n-gt-MOST_RECORDS.false c.if-out-lt-FRONT.false in
    (e, front_put a.count a.out.now e c.if-out-lt-FRONT.false c.put_u32.ensures)

pub shape_of-out : goal.shape_of-out
shape_of-out c = c.put_u32.auto.part ∙ length-set c.args.out.now 0 1
