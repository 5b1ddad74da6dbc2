-- What events give: messages, replies to the routers, and the ends of lives. At each event the lives whose hold time has passed end first, in the order
-- of their addresses (RFC 4271, 6.5); then the event acts on the life that it finds.
use Rattle.std.specs.Prelude.{ℕ, List, [], ◌∷◌, ◌++◌, drop, filter, length, map, Option, Some, None, if◌then◌else◌, ◌&&◌}
use Rattle.std.specs.BTreeSet.{insert_key}
use Rattle.acct_types.specs.Order.{addr_cmp}
use Rattle.acct_types.specs.Updates.{Message, Said}
use Rattle.acct_types.specs.declared.addr.Addr.{Addr}
use Rattle.acct_types.specs.declared.rib.RibSource.TheVariants as source
use Rattle.acct_types.specs.declared.rib.RouteScope.TheVariants.{Peer}
use Rattle.acct_types.specs.declared.route_event.Act.{Act}
use Rattle.acct_types.specs.declared.route_event.Act.TheVariants.{Up, Bytes, Down, Tick}
use Rattle.acct_types.specs.declared.route_event.Reply.{Reply}
use Rattle.acct_types.specs.declared.route_event.RouteEvent.{RouteEvent}
use Rattle.acct_types.specs.declared.route_event.Side.TheVariants.{Bgp}
use Rattle.bgp_msg.specs.Written.{notification_spelling}
use Rattle.bgp_session.specs.Lives.{closed_by, replies_to, updates_in}
use Rattle.bgp_session.specs.Moments.{Piece, joined}
use Rattle.bgp_session.specs.declared.progress.Local.{Local}
use Rattle.bgp_session.specs.declared.why.Why.{Why}
use Rattle.bgp_session.specs.declared.why.Why.TheVariants as why
use Rattle.route_feed.specs.Events.{events_on, is_bgp, is_up}
use Rattle.route_feed.specs.Lives.{is_expired, life_of}
use Rattle.route_feed.specs.declared.closure.Closure.{Closure}
use Rattle.route_feed.specs.declared.daemons.Daemons.{Daemons}

-- ---- which lives

-- the addresses whose sessions came up, in their order, each once
abbrev pub addresses_up : List RouteEvent → List Addr
addresses_up [] = []
addresses_up (event ∷ earlier) = if is_bgp event.side && is_up event.act then insert_key addr_cmp (addresses_up earlier) event.address else addresses_up earlier

-- the addresses whose lives go on behind events and are expired at a moment, in their order
abbrev pub expired_behind : Local → List RouteEvent → ℕ → List Addr
expired_behind local earlier moment = filter (λ address. is_expired local moment (life_of local earlier address)) (addresses_up earlier)

-- a life, unless it is expired at a moment
abbrev pub unexpired : Local → ℕ → Option (List Piece) → Option (List Piece)
unexpired local moment life = if is_expired local moment life then None else life

-- the life that an event finds: the one of its address, where that isn't expired at its moment
abbrev pub found_by : Local → List RouteEvent → RouteEvent → Option (List Piece)
found_by local earlier event = if is_bgp event.side then unexpired local event.moment (life_of local earlier event.address) else None

-- ---- what an act gives in the life that it finds, of which these are the pieces before

-- what is there now and wasn't before
abbrev pub more_than : {A : Type 0} → List A → List A → List A
more_than before now = drop (length before) now

abbrev pub updates_by : Act → List Piece → List Said
updates_by Up before = []
updates_by (Bytes octets) before = more_than (updates_in (joined before)) (updates_in (joined before ++ octets))
updates_by Down before = []
updates_by Tick before = []

abbrev pub answers_by : Local → Act → List Piece → List ℕ
answers_by local Up before = []
answers_by local (Bytes octets) before = more_than (replies_to local (joined before)) (replies_to local (joined before ++ octets))
answers_by local Down before = []
answers_by local Tick before = []

-- why it ends the life
abbrev pub end_by : Act → List Piece → Option Why
end_by Up before = Some why.Replaced
end_by (Bytes octets) before = closed_by (joined before ++ octets)
end_by Down before = Some why.PeerClosed
end_by Tick before = None

-- ---- messages

-- nothing stands of the session with an address
abbrev pub reset : ℕ → Addr → Message
reset moment address = record { scope = Peer (source.Bgp address); moment = moment; said = None }

-- an UPDATE of the session with an address
abbrev pub update : ℕ → Addr → Said → Message
update moment address said = record { scope = Peer (source.Bgp address); moment = moment; said = Some said }

abbrev pub resets_by : ℕ → Addr → Option Why → List Message
resets_by moment address None = []
resets_by moment address (Some reason) = reset moment address ∷ []

-- the UPDATEs, and a reset where the life ends
abbrev pub messages_by : ℕ → Addr → Act → Option (List Piece) → List Message
messages_by moment address act None = []
messages_by moment address act (Some before) = map (update moment address) (updates_by act before) ++ resets_by moment address (end_by act before)

abbrev pub messages_at : Local → List RouteEvent → RouteEvent → List Message
messages_at local earlier event = map (reset event.moment) (expired_behind local earlier event.moment) ++ messages_by event.moment event.address event.act (found_by local earlier event)

abbrev pub messages_in : Local → List RouteEvent → List Message
messages_in local [] = []
messages_in local (event ∷ earlier) = messages_in local earlier ++ messages_at local earlier event

-- The messages of events, the oldest first.
unfoldable pub messages_of : Daemons → Local → List RouteEvent → List Message
messages_of daemons local events = messages_in local (events_on daemons events)

-- ---- replies

-- one reply, where there is something to send
abbrev pub reply_of : Addr → List ℕ → List Reply
reply_of address [] = []
reply_of address (octet ∷ octets) = record { side = Bgp; to = address; octets = octet ∷ octets } ∷ []

-- Hold Timer Expired is code 4 (RFC 4271, 4.5)
abbrev pub expiry_reply : Addr → Reply
expiry_reply address = record { side = Bgp; to = address; octets = notification_spelling 4 0 }

abbrev pub replies_by : Local → Addr → Act → Option (List Piece) → List Reply
replies_by local address act None = []
replies_by local address act (Some before) = reply_of address (answers_by local act before)

abbrev pub replies_at : Local → List RouteEvent → RouteEvent → List Reply
replies_at local earlier event = map expiry_reply (expired_behind local earlier event.moment) ++ replies_by local event.address event.act (found_by local earlier event)

abbrev pub replies_in : Local → List RouteEvent → List Reply
replies_in local [] = []
replies_in local (event ∷ earlier) = replies_in local earlier ++ replies_at local earlier event

-- What events are answered, the oldest first: one reply an event and session.
unfoldable pub replies_of : Daemons → Local → List RouteEvent → List Reply
replies_of daemons local events = replies_in local (events_on daemons events)

-- ---- ends of lives

abbrev pub closure : ℕ → Why → Addr → Closure
closure moment reason address = record { side = Bgp; address = address; moment = moment; why = reason }

abbrev pub closures_for : ℕ → Addr → Option Why → List Closure
closures_for moment address None = []
closures_for moment address (Some reason) = closure moment reason address ∷ []

abbrev pub closures_by : ℕ → Addr → Act → Option (List Piece) → List Closure
closures_by moment address act None = []
closures_by moment address act (Some before) = closures_for moment address (end_by act before)

abbrev pub closures_at : Local → List RouteEvent → RouteEvent → List Closure
closures_at local earlier event = map (closure event.moment why.HoldExpired) (expired_behind local earlier event.moment) ++ closures_by event.moment event.address event.act (found_by local earlier event)

abbrev pub closures_in : Local → List RouteEvent → List Closure
closures_in local [] = []
closures_in local (event ∷ earlier) = closures_in local earlier ++ closures_at local earlier event

-- The ends of the lives, in the order in which they came.
unfoldable pub closures_of : Daemons → Local → List RouteEvent → List Closure
closures_of daemons local events = closures_in local (events_on daemons events)
