-- What happened to sessions. A list of events has the newest first.
use Rattle.std.specs.Prelude.{ℕ, ◌&&◌, ◌||◌, Bool, true, false, List, [], ◌∷◌, filter, flat_map, if◌then◌else◌}
use Rattle.std.specs.BTreeMap.{is_at}
use Rattle.acct_types.specs.Order.{addr_cmp}
use Rattle.acct_types.specs.declared.addr.Addr.{Addr}
use Rattle.acct_types.specs.declared.route_event.Act.{Act}
use Rattle.acct_types.specs.declared.route_event.Act.TheVariants.{Up, Bytes, Down, Tick}
use Rattle.acct_types.specs.declared.route_event.RouteEvent.{RouteEvent}
use Rattle.acct_types.specs.declared.route_event.Side.{Side}
use Rattle.acct_types.specs.declared.route_event.Side.TheVariants.{Bgp, Bmp}
use Rattle.bgp_session.specs.Moments.{Piece}
use Rattle.route_feed.specs.declared.daemons.Daemons.{Daemons}

-- whether an event is one of a daemon that is on: a tick is one of both
abbrev pub is_on : Daemons → Side → Act → Bool
is_on daemons side Tick = daemons.bgp || daemons.bmp
is_on daemons Bgp Up = daemons.bgp
is_on daemons Bgp (Bytes octets) = daemons.bgp
is_on daemons Bgp Down = daemons.bgp
is_on daemons Bmp Up = daemons.bmp
is_on daemons Bmp (Bytes octets) = daemons.bmp
is_on daemons Bmp Down = daemons.bmp

-- the events of the daemons that are on
abbrev pub events_on : Daemons → List RouteEvent → List RouteEvent
events_on daemons events = filter (λ event. is_on daemons event.side event.act) events

abbrev pub is_bgp : Side → Bool
is_bgp Bgp = true
is_bgp Bmp = false

abbrev pub is_up : Act → Bool
is_up Up = true
is_up (Bytes octets) = false
is_up Down = false
is_up Tick = false

abbrev pub is_down : Act → Bool
is_down Up = false
is_down (Bytes octets) = false
is_down Down = true
is_down Tick = false

-- whether an event is of the BGP session with an address: whatever the port, a session is one of its address
abbrev pub is_of : Addr → RouteEvent → Bool
is_of address event = is_bgp event.side && is_at (addr_cmp address) event.address

-- the octets that an act brings
abbrev pub pieces_by : ℕ → Act → List Piece
pieces_by moment Up = []
pieces_by moment (Bytes octets) = record { moment = moment; octets = octets } ∷ []
pieces_by moment Down = []
pieces_by moment Tick = []

-- the pieces that events bring to the BGP session with an address
abbrev pub pieces_of : Addr → List RouteEvent → List Piece
pieces_of address events = flat_map (λ event. if is_of address event then pieces_by event.moment event.act else []) events
