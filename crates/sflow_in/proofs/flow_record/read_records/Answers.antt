use Rattle.std.proofs.Common.{sym}
use Rattle.std.proofs.lemmas.Result.{err_from_is_err_and}
use Rattle.sflow_in.proofs.RecordLemmas.{told_refused, told_step}
use Rattle.sflow_in.proofs.flow_record.read_records.Goals as goal

pub loop-preserved : goal.loop-preserved
loop-preserved c =
    rw (c.and-told.ensures, c.rest_of-rest.ensures.rest)
    (told_step c.loop.told c.in_ok-read_record.field-0 c.args.count c.loop.counter c.loop.rest.now _ c.loop-test.true (sym c.if-is_cut.ensures)
    (rw (c.format_of.ensures, c.body_of.ensures) at c.in_ok-read_record.ensures) c.loop.invariant)

pub returns-in_err-read_record : goal.returns-in_err-read_record
returns-in_err-read_record c =
    let p = err_from_is_err_and c.from_residual.result c.from_residual.ensures.1 in
    rw (p.1, p.2)
    (told_refused c.loop.told c.in_err-read_record.field-0.0 c.args.count c.loop.counter c.loop.rest.now _ c.loop-test.true (sym c.if-is_cut.ensures)
    (rw (c.format_of.ensures, c.body_of.ensures) at c.in_err-read_record.ensures) c.loop.invariant)
