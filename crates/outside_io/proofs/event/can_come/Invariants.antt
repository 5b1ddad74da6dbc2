use Rattle.std.proofs.Common.{◌≡◌, drop}
use Rattle.outside_io.specs.CanCome.{can_come}
use Rattle.outside_io.proofs.event.can_come.Given as goal

abbrev pub invariant-loop-event : goal.invariant-loop-event
invariant-loop-event g l = can_come g.T.InputEvent.moment_of g.T.InputEvent.octets_of l.since (drop l.event-index l.events) ≡ can_come g.T.InputEvent.moment_of g.T.InputEvent.octets_of 0 l.events
