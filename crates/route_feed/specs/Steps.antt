-- One event, step by step.
use Rattle.std.specs.Prelude.{ℕ, ◌≡◌, List, [], ◌∷◌, ◌++◌, filter, map, not, Option, Some, None, is_some, if◌then◌else◌}
use Rattle.std.specs.BTreeMap.{is_at}
use Rattle.std.specs.Map.{keys_of}
use Rattle.acct_types.specs.Order.{addr_cmp}
use Rattle.acct_types.specs.Updates.{message_view}
use Rattle.acct_types.specs.declared.addr.Addr.{Addr}
use Rattle.acct_types.specs.declared.route_event.Act.{Act}
use Rattle.acct_types.specs.declared.route_event.Act.TheVariants.{Up, Bytes, Down, Tick}
use Rattle.acct_types.specs.declared.route_event.RouteEvent.{RouteEvent}
use Rattle.bgp_session.specs.Lives.{closed_by}
use Rattle.bgp_session.specs.Moments.{Piece, joined}
use Rattle.bgp_session.specs.Sessions.{has_expired}
use Rattle.bgp_session.specs.declared.progress.Local.{Local}
use Rattle.route_feed.specs.Lives.{life_of}
use Rattle.route_feed.specs.Routings.{AreOf, Sessions}
use Rattle.route_feed.specs.Told.{closures_at, closures_by, messages_at, messages_by, replies_at, replies_by}
use Rattle.route_feed.specs.declared.turn.RouteTurn.{RouteTurn}

-- the sessions that are expired at a moment, in their order
abbrev pub expired_of : ℕ → Sessions → List Addr
expired_of moment sessions = keys_of (filter (λ entry. has_expired entry.1 moment) sessions)

-- the other ones
abbrev pub unexpired_of : ℕ → Sessions → Sessions
unexpired_of moment sessions = filter (λ entry. not (has_expired entry.1 moment)) sessions

-- a life behind octets, an act that comes to its session
abbrev pub life_with : ℕ → List ℕ → Option (List Piece) → Option (List Piece)
life_with moment octets None = None
life_with moment octets (Some before) = if is_some (closed_by (joined before ++ octets)) then None else Some (record { moment = moment; octets = octets } ∷ before)

abbrev pub life_after : ℕ → Act → Option (List Piece) → Option (List Piece)
life_after moment Up life = Some []
life_after moment (Bytes octets) life = life_with moment octets life
life_after moment Down life = None
life_after moment Tick life = life

-- one life in the place of another
abbrev pub with_life : Addr → Option (List Piece) → (Addr → Option (List Piece)) → Addr → Option (List Piece)
with_life address life lives other = if is_at (addr_cmp address) other then life else lives other

-- an act came to the session with an address
pub record Acted (local : Local) (moment : ℕ) (address : Addr) (act : Act) (earlier : Addr → Option (List Piece)) (sessions : Sessions) (before now : RouteTurn) : Type 0 where
  pub lives : AreOf local sessions (with_life address (life_after moment act (earlier address)) earlier)
  pub messages : map message_view now.messages ≡ map message_view before.messages ++ messages_by moment address act (earlier address)
  pub replies : now.replies ≡ before.replies ++ replies_by local address act (earlier address)
  pub closures : now.closures ≡ before.closures ++ closures_by moment address act (earlier address)

-- an event came behind others
pub record Heard (local : Local) (earlier : List RouteEvent) (event : RouteEvent) (sessions : Sessions) (before now : RouteTurn) : Type 0 where
  pub lives : AreOf local sessions (life_of local (event ∷ earlier))
  pub messages : map message_view now.messages ≡ map message_view before.messages ++ messages_at local earlier event
  pub replies : now.replies ≡ before.replies ++ replies_at local earlier event
  pub closures : now.closures ≡ before.closures ++ closures_at local earlier event
