-- The fields are stored one after the other; a short part is not touched.
use mathlib.Core.Path.{sym}
use borrow.Author.Tests.{lt-leb, le-leb}
use Rattle.instr.specs.Values.{instr_of}
use Rattle.instr.proofs.RecordLaws.{put_fields, write_none}
use Rattle.instr.proofs.records.write_record.Goals as goal

pub returns-then-part-lt-LENGTH : goal.returns-then-part-lt-LENGTH
returns-then-part-lt-LENGTH c =
    let a = c.args in
    (sym (lt-leb _ _ c.if-part-lt-LENGTH.true), write_none (instr_of a.r) a.part.now c.if-part-lt-LENGTH.true)

pub returns : goal.returns
returns c =
    let fits = c.if-part-lt-LENGTH.false in
    let a = c.args in
    let put = put_fields (instr_of a.r) a.part.now fits c.put_u8.ensures c.put_u8-2.ensures c.put_u16.ensures c.put_u16-2.ensures c.put_u16-3.ensures c.put_u16-4.ensures c.put_u64.ensures c.put_u32.ensures in
    (sym (le-leb _ _ fits), put)
