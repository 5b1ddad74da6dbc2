use Rattle.collect_core.specs.Course.{unrouted}
use Rattle.collect_core.proofs.LoadLemmas.{row_loaded}
use Rattle.collect_core.proofs.loads.loads_of.Goals as goal

pub loop-index-preserved : goal.loop-index-preserved
loop-index-preserved c =
    row_loaded c.args.job.now unrouted c.args.datagram c.args.moment c.args.rows.now c.loop-index.index _ _ _ c.loop-index-test.true c.loop-index.invariant c.in_ok-append_loads.ensures
