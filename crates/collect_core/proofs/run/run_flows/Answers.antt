use Rattle.std.proofs.Common.{map}
use Rattle.outside_io.specs.Calls.{handed_out}
use Rattle.collect_core.specs.Flows.{flows_in}
use Rattle.collect_core.specs.Most.{most_in}
use Rattle.collect_core.proofs.CallLemmas.{if_ok_three, is_run}
use Rattle.collect_core.proofs.run.run_flows.Goals as goal

pub take_all-requires : goal.take_all-requires
take_all-requires g c = record { begun = (map g.W.Sink.state c.args.outs, c.in_ok-running.ensures (g.A.Sink.state c.args.audit.now)) }

pub returns-clause-run : goal.returns-clause-run
returns-clause-run g c =
    let job = c.args.job.now in
    let most = most_in c.args.limits.now in
    let starts = map g.W.Sink.state c.args.outs in
    let start = g.A.Sink.state c.args.audit.now in
    let taken = c.in_ok-flow.ensures.run starts (c.in_ok-running.ensures start) in
    if_ok_three _ _ _ _ c.finish.result
    (λ end outputs flow route calm. is_run job most g.F.Datagrams.call g.F.Datagrams.state _ _ starts start _ _ _ _ _ c.in_ok-flow.flow _ taken flow route (outputs calm))
    (c.finish.ensures.outputs job most starts start (flows_in job most (handed_out taken.answers)) taken.run) c.finish.ensures.flow c.finish.ensures.route
