-- Laws of the definitions, in words of their own.
use Rattle.std.specs.Prelude.{ℕ, ◌≤◌, Bool, false, List, [], ◌∷◌, ◌++◌, map, Option, Some, None, is_none, if◌then◌else◌}
use Rattle.std.specs.BTreeMap.{is_at}
use Rattle.std.specs.List.{IsDistinct}
use Rattle.std.specs.Ordering.{eq_by_cmp}
use Rattle.acct_types.specs.Order.{addr_cmp}
use Rattle.acct_types.specs.Updates.{Message, Said}
use Rattle.acct_types.specs.declared.addr.Addr.{Addr}
use Rattle.acct_types.specs.declared.rib.RibSource.TheVariants as source
use Rattle.acct_types.specs.declared.rib.RouteScope.{RouteScope}
use Rattle.acct_types.specs.declared.rib.RouteScope.TheVariants.{Peer, Router}
use Rattle.acct_types.specs.declared.route_event.Reply.{Reply}
use Rattle.acct_types.specs.declared.route_event.RouteEvent.{RouteEvent}
use Rattle.bgp_session.specs.Lives.{updates_in}
use Rattle.bgp_session.specs.Moments.{Piece, joined}
use Rattle.route_feed.specs.Told.{reset}
use Rattle.route_feed.specs.declared.closure.Closure.{Closure}

abbrev pub is_reset : Message → Bool
is_reset message = is_none message.said

-- the reset that the end of a session gives
abbrev pub reset_for : Closure → Message
reset_for closure = reset closure.moment closure.address

-- no two replies are to one address
abbrev pub AreToOthers : List Reply → Type 0
AreToOthers replies = IsDistinct (eq_by_cmp addr_cmp) (map (λ reply. reply.to) replies)

-- moments from one on that never fall
abbrev pub NeverFall : ℕ → List ℕ → Type 0
NeverFall since [] = Unit {0}
NeverFall since (moment ∷ later) = (since ≤ moment) × NeverFall moment later

-- the moment of the last event, 0 before the first: the newest event comes first
abbrev pub last_moment : List RouteEvent → ℕ
last_moment [] = 0
last_moment (event ∷ earlier) = event.moment

-- no event has a lower moment than one before it
abbrev pub AreInOrder : List RouteEvent → Type 0
AreInOrder [] = Unit {0}
AreInOrder (event ∷ earlier) = (last_moment earlier ≤ event.moment) × AreInOrder earlier

-- ---- what was learned of a session since its last reset

abbrev pub is_of_address : Addr → RouteScope → Bool
is_of_address address (Peer (source.Bgp other)) = is_at (addr_cmp address) other
is_of_address address (Peer (source.Bmp router peer)) = false
is_of_address address (Router router) = false

abbrev pub learned_with : List Said → Option Said → List Said
learned_with before None = []
learned_with before (Some said) = before ++ said ∷ []

-- what messages say of the BGP session with an address behind its last reset, where these were learned before them
abbrev pub learned_behind : Addr → List Said → List Message → List Said
learned_behind address before [] = before
learned_behind address before (message ∷ later) =
    learned_behind address (if is_of_address address message.scope then learned_with before message.said else before) later

-- what the octets of a life say, nothing where none goes on
abbrev pub learned_by : Option (List Piece) → List Said
learned_by None = []
learned_by (Some pieces) = updates_in (joined pieces)
