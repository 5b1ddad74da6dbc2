-- A capture file: the magic, and then events to the end of the file. The first argument of each definition says which
-- capture: true one of flows, false one of routes.
use Rattle.std.specs.Prelude.{ℕ, zero, suc, ◌+◌, Bool, true, false, List, [], ◌∷◌, length, take, drop, max, bytes_eq, codes, if◌then◌else◌, Ok, Err}
use Rattle.acct_types.specs.declared.datagram.Datagram.{Datagram}
use Rattle.acct_types.specs.declared.route_event.RouteEvent.{RouteEvent}
use Rattle.capture_file.specs.declared.flows.CaptureEnd.{CaptureEnd}
use Rattle.capture_file.specs.declared.flows.CaptureEnd.TheVariants.{Ended, BadMagic}
use Rattle.capture_file.specs.Event.{judged, datagram_at, route_event_at, stamp_of}

-- the octets that a capture begins with
abbrev pub magic : List ℕ
magic = codes "PMACAP01"

abbrev pub has_magic : List ℕ → Bool
has_magic octets = bytes_eq (take 8 octets) magic

-- The whole events at the front, up to the first place where none stands. An event takes at least an octet, so
-- as much fuel as there are octets is enough.
abbrev pub events_from : Bool → ℕ → ℕ → ℕ → List ℕ → List (List ℕ)
events_from flows zero most used octets = []
events_from flows (suc fuel) most used octets = elim (judged flows most used octets) [
  | Ok width ↦ take width octets ∷ events_from flows fuel most (used + width) (drop width octets)
  | Err end ↦ []
]

-- why they end there
abbrev pub end_from : Bool → ℕ → ℕ → ℕ → List ℕ → CaptureEnd
end_from flows zero most used octets = Ended
end_from flows (suc fuel) most used octets = elim (judged flows most used octets) [
  | Ok width ↦ end_from flows fuel most (used + width) (drop width octets)
  | Err end ↦ end
]

-- the events of a file's octets, of which at most `most` octets are read
abbrev pub events_of : Bool → ℕ → List ℕ → List (List ℕ)
events_of flows most octets = if has_magic octets then events_from flows (length octets) most 0 (drop 8 octets) else []

-- why the events of a file end
abbrev pub end_of_events : Bool → ℕ → List ℕ → CaptureEnd
end_of_events flows most octets = if has_magic octets then end_from flows (length octets) most 0 (drop 8 octets) else BadMagic

-- Events behind a moment, each read behind the greatest stamp before it.
abbrev pub read_behind : {E : Type 0} → (ℕ → List ℕ → E) → ℕ → List (List ℕ) → List E
read_behind read moment [] = []
read_behind read moment (event ∷ events) = read moment event ∷ read_behind read (max moment (stamp_of event)) events

-- the datagrams of a file's octets
abbrev pub datagrams_of : ℕ → List ℕ → List Datagram
datagrams_of most octets = read_behind datagram_at 0 (events_of true most octets)

-- why the datagrams of a file end
abbrev pub end_of : ℕ → List ℕ → CaptureEnd
end_of most octets = end_of_events true most octets

-- the route events of a file's octets
abbrev pub route_events_of : ℕ → List ℕ → List RouteEvent
route_events_of most octets = read_behind route_event_at 0 (events_of false most octets)

-- why the route events of a file end
abbrev pub route_end_of : ℕ → List ℕ → CaptureEnd
route_end_of most octets = end_of_events false most octets
