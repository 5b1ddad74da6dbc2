use Rattle.std.proofs.Common.{List, []}
use Rattle.outside_io.specs.Calls.{handed_out}
use Rattle.outside_io.specs.States.{SinkState}
use Rattle.collect_core.specs.Ends.{Answer}
use Rattle.collect_core.specs.Most.{most_in}
use Rattle.collect_core.specs.Running.{GoesOn, HasAnswered}
use Rattle.collect_core.proofs.running.take_all.Given as goal

-- All datagrams so far were taken, and passed no limit.
abbrev pub invariant-loop-datagram : goal.invariant-loop-datagram
invariant-loop-datagram g l = record {
  answers : List Answer;
  answered : HasAnswered g.F.Datagrams.call l.fn.flows l.flows
      (g.F.Datagrams.state l.fn.flows)
      (g.F.Datagrams.state l.flows) answers;
  goes_on : (starts : List SinkState)
      → GoesOn l.job (most_in l.limits) starts (g.A.Sink.state l.fn.audit) [] l.fn.running.collector l.fn.running.plugins.items l.fn.running.log
      (g.A.Sink.state l.fn.audit) l.fn.running.left
      → GoesOn l.job (most_in l.limits) starts (g.A.Sink.state l.fn.audit) (handed_out answers) l.running.collector l.running.plugins.items l.running.log
      (g.A.Sink.state l.audit) l.running.left;
}

abbrev pub decreases-loop-datagram : goal.decreases-loop-datagram
decreases-loop-datagram g l = l.running.left
