-- The life of a session: an OPEN, then a KEEPALIVE, then KEEPALIVEs and UPDATEs (RFC 4271, 8.2.2). The first message that isn't the one awaited,
-- or that is refused, is a fault, and ends it. A NOTIFICATION ends it at any point.
use Rattle.std.specs.Prelude.{ℕ, ◌==◌, ◌||◌, Bool, false, List, [], ◌∷◌, ◌++◌, flat_map, min, slice_index, Option, Some, None, is_some, option_map, if◌then◌else◌, not}
use Rattle.std.specs.Option.{option_or}
use Rattle.acct_types.specs.Updates.{Said}
use Rattle.bgp_msg.specs.Frames.{fault, kind_of}
use Rattle.bgp_msg.specs.Messages.{body_fault}
use Rattle.bgp_msg.specs.Opens.{hello_of}
use Rattle.bgp_msg.specs.Updates.{said}
use Rattle.bgp_msg.specs.Written.{keepalive_spelling, notification_spelling, open_spelling}
use Rattle.bgp_msg.specs.declared.message.Agreed.{Agreed}
use Rattle.bgp_msg.specs.declared.message.Hello.{Hello}
use Rattle.bgp_session.specs.Stream.{header_end, messages, rest_of}
use Rattle.bgp_session.specs.declared.progress.Local.{Local}
use Rattle.bgp_session.specs.declared.progress.Stage.{Stage}
use Rattle.bgp_session.specs.declared.progress.Stage.TheVariants.{AwaitsOpen, AwaitsKeepalive, Established, Closed}
use Rattle.bgp_session.specs.declared.why.Why.{Why}
use Rattle.bgp_session.specs.declared.why.Why.TheVariants as why

-- whether a message of this type is awaited: 1 is OPEN, 2 UPDATE, 4 KEEPALIVE
abbrev pub fits : Stage → ℕ → Bool
fits AwaitsOpen kind = kind == 1
fits AwaitsKeepalive kind = kind == 4
fits Established kind = kind == 2 || kind == 4
fits Closed kind = false

-- the stage behind a message that was awaited
abbrev pub next : Stage → Stage
next AwaitsOpen = AwaitsKeepalive
next AwaitsKeepalive = Established
next Established = Established
next Closed = Established

abbrev pub nothing_agreed : Agreed
nothing_agreed = record { four_octets = false; path_ids_v4 = false; path_ids_v6 = false }

-- what is agreed with a peer that says this
abbrev pub agreed_with : Hello → Agreed
agreed_with hello = record { four_octets = hello.four_octets; path_ids_v4 = hello.path_ids_v4; path_ids_v6 = hello.path_ids_v6 }

-- What ends a life at a message that comes in this stage. Finite State Machine Error is code 5 (RFC 4271, 6.6); its place is that of the type.
-- A message that isn't awaited is refused for that before its body is looked at.
unfoldable pub end_at : Stage → Agreed → List ℕ → Option Why
end_at stage agreed message =
    if kind_of message == 3 then Some (why.Notified (slice_index message 19) (slice_index message 20))
    else (if not (fits stage (kind_of message)) then Some (why.Fault (fault 5 0 18))
    else option_map (λ fault. why.Fault fault) (body_fault agreed message))

-- the messages up to the one that ends the life, and what ends it
abbrev pub heard_from : Stage → Agreed → List (List ℕ) → List (List ℕ)
heard_from stage agreed [] = []
heard_from stage agreed (message ∷ others) = if is_some (end_at stage agreed message) then [] else message ∷ heard_from (next stage) agreed others

abbrev pub end_from : Stage → Agreed → List (List ℕ) → Option Why
end_from stage agreed [] = None
end_from stage agreed (message ∷ others) = option_or (end_at stage agreed message) (end_from (next stage) agreed others)

-- what is agreed on with the peer: the first message says it, which is the OPEN
abbrev pub agreed_in : List (List ℕ) → Agreed
agreed_in [] = nothing_agreed
agreed_in (open_message ∷ others) = agreed_with (hello_of open_message)

-- the messages that a peer's octets tell, up to the one that ends its life
unfoldable pub heard : List ℕ → List (List ℕ)
heard octets = heard_from AwaitsOpen (agreed_in (messages octets)) (messages octets)

-- Why the life is over, where its octets show it. A header is judged once it is there, and a body once it is whole.
unfoldable pub closed_by : List ℕ → Option Why
closed_by octets = option_or (end_from AwaitsOpen (agreed_in (messages octets)) (messages octets)) (header_end (rest_of octets))

-- ---- what is answered

-- An OPEN is answered by an OPEN and a KEEPALIVE, and a KEEPALIVE by a KEEPALIVE. This side's OPEN has the peer's autonomous system.
unfoldable pub reply_to : Local → List ℕ → List ℕ
reply_to local message =
    if kind_of message == 1 then open_spelling (hello_of message).asn local.hold local.id ++ keepalive_spelling
    else (if kind_of message == 4 then keepalive_spelling
    else [])

-- a fault is answered by a NOTIFICATION of its code, a NOTIFICATION by nothing
abbrev pub farewell_to : Why → List ℕ
farewell_to (why.Fault fault) = notification_spelling fault.code fault.subcode
farewell_to (why.Notified code subcode) = []
farewell_to why.PeerClosed = []
farewell_to why.Replaced = []
farewell_to why.HoldExpired = []
farewell_to why.Terminated = []
farewell_to (why.BmpFault fault) = []

abbrev pub farewell : Option Why → List ℕ
farewell None = []
farewell (Some reason) = farewell_to reason

unfoldable pub replies_to : Local → List ℕ → List ℕ
replies_to local octets = flat_map (reply_to local) (heard octets) ++ farewell (closed_by octets)

-- ---- what is learned

unfoldable pub update_in : Agreed → List ℕ → List Said
update_in agreed message = if kind_of message == 2 then said agreed message ∷ [] else []

-- what the UPDATEs say
unfoldable pub updates_in : List ℕ → List Said
updates_in octets = flat_map (update_in (agreed_in (messages octets))) (heard octets)

-- The agreed hold time in seconds: the lesser of the two (RFC 4271, 4.2), where the peer's OPEN has come. 0 is none.
abbrev pub hold_agreed : Local → List (List ℕ) → ℕ
hold_agreed local [] = 0
hold_agreed local (open_message ∷ others) = min local.hold (hello_of open_message).hold

unfoldable pub hold_of : Local → List ℕ → ℕ
hold_of local octets = hold_agreed local (heard octets)

-- what is awaited behind messages that were heard
abbrev pub stage_behind : List (List ℕ) → Stage
stage_behind [] = AwaitsOpen
stage_behind (open_message ∷ []) = AwaitsKeepalive
stage_behind (open_message ∷ keepalive ∷ others) = Established

unfoldable pub stage_of : List ℕ → Stage
stage_of octets = if is_some (closed_by octets) then Closed else stage_behind (heard octets)
