use Rattle.std.proofs.Common.{◌^◌}
use Rattle.std.proofs.lemmas.Grind.{common_steps}
use Rattle.std.proofs.lemmas.List.Elements.{All-push}
use Rattle.acct_types.specs.Counts.{IsBelow}
use Rattle.std.proofs.Common.{append_assoc, arith, length-drop}
use Rattle.netflow_in.proofs.Records.{records_next}
use Rattle.netflow_in.proofs.version5.read_records.Goals as goal

pub loop-preserved : goal.loop-preserved
loop-preserved c =
    let kept = c.loop.invariant in
    let next = records_next c.args.exporter c.args.source_id c.args.header_rate c.args.count c.loop.counter c.loop.rest.now c.loop-test.true in
    record {
      all = rw (c.after-rest.ensures, c.in_ok-push.ensures.items, append_assoc, c.read_flow.ensures.flow) (rw next at kept.all);
      count = grind (arith, common_steps);
      counts = rw c.in_ok-push.ensures.items (All-push (λ row. IsBelow (2 ^ 64) row.flow.counts) _ _ kept.counts c.read_flow.ensures.counts);
      room = rw (c.after-rest.ensures) (omega (arith, length-drop 48 c.loop.rest.now, kept.room, c.loop-test.true));
    }
