-- Which events an input can hand out.
use Rattle.std.specs.Prelude.{ℕ, Bool, true, List, [], ◌∷◌, length, nat_le, ◌&&◌}
use Rattle.acct_types.specs.declared.datagram.Datagram.{Datagram}
use Rattle.acct_types.specs.RouteEvents.{act_octets}
use Rattle.acct_types.specs.declared.route_event.RouteEvent.{RouteEvent}

-- Whether an input can hand out these events after that moment: none has an earlier moment than the one before it, and each has at
-- most 65,535 octets.
abbrev pub can_come : {T : Type 0} → (T → ℕ) → (T → List ℕ) → ℕ → List T → Bool
can_come moment_of octets_of since [] = true
can_come moment_of octets_of since (event ∷ later) =
    nat_le since (moment_of event) && nat_le (length (octets_of event)) 65535 && can_come moment_of octets_of (moment_of event) later

-- the same of datagrams
abbrev pub flows_can_come : ℕ → List Datagram → Bool
flows_can_come since datagrams = can_come (λ d. d.moment) (λ d. d.octets) since datagrams

-- the same of what happens to sessions
abbrev pub route_events_can_come : ℕ → List RouteEvent → Bool
route_events_can_come since events = can_come (λ event. event.moment) (λ event. act_octets event.act) since events
