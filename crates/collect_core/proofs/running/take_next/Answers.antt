use Rattle.std.proofs.Common.{◌∷◌, ◌++◌, [], ℕ, subst, sym}
use Rattle.collect_core.specs.Most.{most_in}
use Rattle.collect_core.specs.Running.{GoesOn}
use Rattle.collect_core.proofs.RunLemmas.{goes_on, not_more, stops_by_octets, stops_by_records}
use Rattle.collect_core.proofs.running.take_next.Goals as goal

pub returns-then-octets-running-clause-stops : goal.returns-then-octets-running-clause-stops
returns-then-octets-running-clause-stops g c = λ starts start handed on.
    stops_by_octets c.args.job.now (most_in c.args.limits.now) starts start handed c.args.datagram.now _ _ _ _ c.args.running.now.left on (rw c.event_octets-octets.ensures at c.if-octets-running.true)

pub returns-then-passes-clause-stops : goal.returns-then-passes-clause-stops
returns-then-passes-clause-stops g c = λ starts start handed on.
    stops_by_records c.args.job.now (most_in c.args.limits.now) starts start handed c.args.datagram.now _ _ _ _ _ _ _ _ c.args.running.now.left on (rw c.event_octets-octets.ensures at c.if-octets-running.false)
    (c.in_ok-passes.ensures.run starts start handed on.run) ((c.in_ok-passes.ensures.passes starts start handed on.run on.within.records).0 c.if-passes.true)

pub returns-else-passes-clause-next : goal.returns-else-passes-clause-next
returns-else-passes-clause-next g c = λ starts start handed on _.
    let here = rw c.event_octets-octets.ensures at c.if-octets-running.false in
    let left = rw c.event_octets-octets.ensures at c.in_ok-passes.ensures.left in
    subst (λ (left : ℕ). GoesOn c.args.job.now (most_in c.args.limits.now) starts start (handed ++ c.args.datagram.now ∷ [])
    c.take_datagram.new.running.collector c.take_datagram.new.running.plugins.items c.take_datagram.new.running.log (g.A.Sink.state c.take_datagram.new.audit) left) (sym left)
    (goes_on c.args.job.now (most_in c.args.limits.now) starts start handed c.args.datagram.now _ _ _ _ _ _ _ _ c.args.running.now.left on here
    (c.in_ok-passes.ensures.run starts start handed on.run)
    (not_more c.args.limits.now.records _ c.in_ok-passes.passes (c.in_ok-passes.ensures.passes starts start handed on.run on.within.records).1 c.if-passes.false))
