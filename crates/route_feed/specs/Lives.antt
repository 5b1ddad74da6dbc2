-- The lives of the BGP session with an address. One begins at each Up. It ends at the first of these: an event at whose moment its hold time has
-- passed, the next Up, a Down, octets by which its octets joined show a fault or a NOTIFICATION. Events that come in no life do nothing to it.
use Rattle.std.specs.Prelude.{ℕ, ◌&&◌, ◌||◌, Bool, false, List, [], ◌∷◌, Option, Some, None, is_some, option_map, if◌then◌else◌}
use Rattle.acct_types.specs.declared.addr.Addr.{Addr}
use Rattle.acct_types.specs.declared.route_event.RouteEvent.{RouteEvent}
use Rattle.bgp_session.specs.Lives.{closed_by}
use Rattle.bgp_session.specs.Moments.{Piece, expired_at, joined}
use Rattle.bgp_session.specs.declared.progress.Local.{Local}
use Rattle.route_feed.specs.Events.{is_down, is_of, is_up, pieces_of}

-- the events behind the last Up of the session with an address, where it came up
abbrev pub since_up : Addr → List RouteEvent → Option (List RouteEvent)
since_up address [] = None
since_up address (event ∷ earlier) =
    if is_of address event && is_up event.act then Some [] else option_map (λ since. event ∷ since) (since_up address earlier)

-- whether an event ends a life that went on behind those before it: they are the events since its Up
abbrev pub ends : Local → Addr → List RouteEvent → RouteEvent → Bool
ends local address before event =
    expired_at local (pieces_of address before) event.moment || is_of address event && is_down event.act || is_some (closed_by (joined (pieces_of address (event ∷ before))))

-- whether one of the events since its Up ended a life
abbrev pub is_over : Local → Addr → List RouteEvent → Bool
is_over local address [] = false
is_over local address (event ∷ before) = is_over local address before || ends local address before event

-- the pieces of a life that goes on
abbrev pub life_since : Local → Addr → Option (List RouteEvent) → Option (List Piece)
life_since local address None = None
life_since local address (Some since) = if is_over local address since then None else Some (pieces_of address since)

-- The life of the session with an address behind events, where one goes on: its pieces, the newest first.
unfoldable pub life_of : Local → List RouteEvent → Addr → Option (List Piece)
life_of local events address = life_since local address (since_up address events)

-- whether a life's hold time has passed at a moment
abbrev pub is_expired : Local → ℕ → Option (List Piece) → Bool
is_expired local moment None = false
is_expired local moment (Some pieces) = expired_at local pieces moment
