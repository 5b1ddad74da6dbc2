use Rattle.std.proofs.Common.{[], ◌+◌, ◌-◌, ◌++◌, arith, sym}
use Rattle.flow_templates.specs.Changes.{nothing_staged}
use Rattle.sflow_in.specs.Samples.{notices_in, rows_in}
use Rattle.sflow_in.proofs.SampleLemmas.{none_left, nothing_before, said_refused, said_step}
use Rattle.sflow_in.proofs.datagram.failure_of.Goals as goal

pub loop-init : goal.loop-init
loop-init c = (record { rows = []; notices = []; changes = nothing_staged }, nothing_before c.args.exporter c.args.source_id (c.args.count - 0) c.args.count c.args.octets.now (omega arith))

pub returns-in-Err : goal.returns-in-Err
returns-in-Err c =
    let so = c.loop.invariant in
    said_refused c.args.exporter c.args.source_id so.0.rows so.0.notices c.in-Err.cause c.args.count c.loop.counter c.loop.rest.now _
    c.loop-test.true (sym c.if-is_cut.ensures) (rw (c.format_of.ensures, c.body_of.ensures) at c.in-Err.ensures.sample) so.1

pub loop-preserved : goal.loop-preserved
loop-preserved c =
    let so = c.loop.invariant in (
      record { rows = so.0.rows ++ rows_in c.in-Ok.field-0; notices = so.0.notices ++ notices_in (c.loop.counter + 1) c.in-Ok.field-0; changes = nothing_staged },
      rw c.rest_of-rest.ensures.rest
          (said_step c.args.exporter c.args.source_id so.0.rows so.0.notices c.in-Ok.field-0 c.args.count c.loop.counter c.loop.rest.now _
          c.loop-test.true (sym c.if-is_cut.ensures) (rw (c.format_of.ensures, c.body_of.ensures) at c.in-Ok.ensures.sample) so.1),
    )

pub returns : goal.returns
returns c =
    let so = c.loop.invariant in
    none_left so.0.rows so.0.notices c.loop.counter (c.args.count - c.loop.counter) c.args.exporter c.args.source_id c.loop.rest.now _ (omega (arith, c.loop-test.false)) so.1
