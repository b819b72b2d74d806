-- No listing; else the length first, and then the text.
use lib.ListN.{length}
use Rattle.std.proofs.lemmas.Result.{err_from_is_err_and}
use Rattle.print.specs.Values.{sign_of}
use Rattle.print.proofs.AnswerLaws.{shown, short_text, whole_text, few_records, code_is, bad_listing}
use Rattle.print.proofs.print_code.Goals as goal

pub returns-in_err-count : goal.returns-in_err-count
returns-in_err-count c =
    let a = c.args in
    let p = err_from_is_err_and c.from_residual.result c.from_residual.ensures.1 in
    rw (p.1, p.2) (bad_listing (sign_of a.form) a.listing.now c.in_err-count.field-0.0 a.out.now c.in_err-count.ensures)

pub invariant_of-listing : goal.invariant_of-listing
invariant_of-listing c = record { few = few_records c.args.listing.now c.in_ok-count.count c.in_ok-count.ensures }

pub returns-then-out-length : goal.returns-then-out-length
returns-then-out-length c =
    let a = c.args in
    let n = c.in_ok-count.count in
    let e = code_is a.listing.now n c.in_ok-count.ensures (sign_of a.form) c.total-total.result (length a.out.now) c.total-total.ensures in
    rw e (short_text (shown (sign_of a.form) a.listing.now n c.total-total.result) c.code-length.ensures a.out.now c.if-out-length.true c.of.ensures)

pub returns : goal.returns
returns c =
    let a = c.args in
    let n = c.in_ok-count.count in
    let e = code_is a.listing.now n c.in_ok-count.ensures (sign_of a.form) c.total-total.result (length a.out.now) c.total-total.ensures in
    rw e (whole_text (shown (sign_of a.form) a.listing.now n c.total-total.result) c.code-length.ensures a.out.now c.if-out-length.false c.code.ensures)
