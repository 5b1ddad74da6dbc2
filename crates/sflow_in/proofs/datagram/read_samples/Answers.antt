use Rattle.std.proofs.Common.{◌≤◌, length, arith, length-append, sym}
use Rattle.sflow_in.specs.Samples.{rows_in}
use Rattle.sflow_in.proofs.SampleLemmas.{few_in, said_refused, said_step, small_in}
use Rattle.sflow_in.proofs.datagram.read_samples.Goals as goal

pub returns-in-Err-clause-answer : goal.returns-in-Err-clause-answer
returns-in-Err-clause-answer c =
    said_refused c.args.exporter c.args.source_id c.loop-index.decoded.rows c.loop-index.decoded.notices c.in-Err.cause c.args.count c.loop-index.index c.loop-index.rest.now _
    c.loop-index-test.true (sym c.if-is_cut.ensures) (rw (c.format_of.ensures, c.body_of.ensures) at c.in-Err.ensures.sample) c.loop-index.invariant.all

pub loop-index-preserved : goal.loop-index-preserved
loop-index-preserved c =
    let kept = c.loop-index.invariant in
    let one : length (rows_in c.in-Ok.sample) ≤ 1 = few_in c.in-Ok.sample in
    record {
      all = rw (c.in-Ok-add.ensures.rows, c.in-Ok-add.ensures.notices, c.rest_of-rest.ensures.rest)
          (said_step c.args.exporter c.args.source_id c.loop-index.decoded.rows c.loop-index.decoded.notices c.in-Ok.sample c.args.count c.loop-index.index c.loop-index.rest.now _
          c.loop-index-test.true (sym c.if-is_cut.ensures) (rw (c.format_of.ensures, c.body_of.ensures) at c.in-Ok.ensures.sample) kept.all);
      few = rw (c.in-Ok-add.ensures.rows, length-append) (omega (arith, kept.few, one, c.rest_of-rest.ensures.shorter));
      counts = rw c.in-Ok-add.ensures.rows (small_in c.loop-index.decoded.rows c.in-Ok.sample kept.counts c.in-Ok.ensures.small);
    }
