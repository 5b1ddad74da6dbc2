-- What is kept of sessions, and of which events it is. Callers see the daemons that are on, what this side says of itself, whether it is live, and the
-- moment of the last event; of the rest, which is by the events alone, they see HasHeard.
use Rattle.std.specs.Prelude.{ℕ, ◌≡◌, ◌≤◌, Bool, true, List, Option, Some, None}
use Rattle.std.specs.BTreeMap.{is_at}
use Rattle.std.specs.Map.{lookup}
use Rattle.acct_types.specs.Order.{addr_cmp}
use Rattle.acct_types.specs.declared.addr.Addr.{Addr}
use Rattle.acct_types.specs.declared.route_event.RouteEvent.{RouteEvent}
use Rattle.bgp_session.specs.Moments.{Piece}
use Rattle.bgp_session.specs.Sessions as session
use Rattle.bgp_session.specs.Sessions.{SessionState}
use Rattle.bgp_session.specs.declared.progress.Local.{Local}
use Rattle.route_feed.specs.Events.{events_on}
use Rattle.route_feed.specs.Lives.{life_of}
use Rattle.route_feed.specs.declared.daemons.Daemons.{Daemons}

-- the sessions by address
abbrev pub Sessions : Type 0
Sessions = List (Addr × SessionState)

pub record RoutingState : Type 0 where
  pub daemons : Daemons
  pub local : Local
  pub live : Bool
  pub moment : ℕ
  pub sessions : Sessions

abbrev pub session_at : Addr → Sessions → Option SessionState
session_at address sessions = lookup (is_at (addr_cmp address)) sessions

-- a session that goes on, of which nothing came behind a moment
pub record GoesOn (moment : ℕ) (state : SessionState) : Type 0 where
  pub live : session.is_live state ≡ true
  pub earlier : state.moment ≤ moment

abbrev pub GoesOnIf : ℕ → Option SessionState → Type 0
GoesOnIf moment None = Unit {0}
GoesOnIf moment (Some state) = GoesOn moment state

-- all sessions that are kept go on
unfoldable pub AllGoOn : ℕ → Sessions → Type 0
AllGoOn moment sessions = (address : Addr) → GoesOnIf moment (session_at address sessions)

-- a session of this side took these pieces
pub record HasTaken (local : Local) (state : SessionState) (pieces : List Piece) : Type 0 where
  pub of_side : state.local ≡ local
  pub heard : session.HasHeard state pieces

abbrev pub IsOf : Local → Option SessionState → Option (List Piece) → Type 0
IsOf local None None = Unit {0}
IsOf local None (Some pieces) = ⊥
IsOf local (Some state) None = ⊥
IsOf local (Some state) (Some pieces) = HasTaken local state pieces

-- there is a session for each of these lives, which took its pieces, and no other one
unfoldable pub AreOf : Local → Sessions → (Addr → Option (List Piece)) → Type 0
AreOf local sessions lives = (address : Addr) → IsOf local (session_at address sessions) (lives address)

-- The sessions that are kept are those of the lives that go on behind these events, the newest first.
unfoldable pub HasHeard : RoutingState → List RouteEvent → Type 0
HasHeard routing events = AreOf routing.local routing.sessions (life_of routing.local (events_on routing.daemons events))
