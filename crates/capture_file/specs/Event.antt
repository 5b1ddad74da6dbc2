-- An event of a capture: kind (1 octet), stamp in milliseconds (8), address (4 or 16), port (2), length (4), and as
-- many octets as the length says. All numbers are big-endian.
use Rattle.std.specs.Prelude.{◌≡◌, refl, true, false, ℕ, ◌+◌, ◌*◌, ◌/◌, ◌%◌, Bool, ◌&&◌, ◌||◌, List, ◌∷◌, ◌++◌, length, drop, max, slice_index, nat_lt, ◌==◌, not, if◌then◌else◌, Result, Ok, Err}
use Rattle.std.proofs.Common.{arith}
use Rattle.std.proofs.lemmas.Grind.{common_steps}
use Rattle.byteorder.specs.Endian.{big_bytes}
use Rattle.acct_types.specs.Numbers.{number_at}
use Rattle.acct_types.specs.declared.addr.Addr.{Addr}
use Rattle.acct_types.specs.declared.addr.Addr.TheVariants.{V4, V6}
use Rattle.acct_types.specs.declared.datagram.Datagram.{Datagram}
use Rattle.acct_types.specs.declared.route_event.Side.{Side}
use Rattle.acct_types.specs.declared.route_event.Side.TheVariants.{Bgp, Bmp}
use Rattle.acct_types.specs.declared.route_event.Act.{Act}
use Rattle.acct_types.specs.declared.route_event.Act.TheVariants.{Up, Bytes, Down, Tick}
use Rattle.acct_types.specs.declared.route_event.RouteEvent.{RouteEvent}
use Rattle.acct_types.specs.RouteEvents.{act_octets, has_its_side}
use Rattle.capture_file.specs.declared.flows.CaptureEnd.{CaptureEnd}
use Rattle.capture_file.specs.declared.flows.CaptureEnd.TheVariants.{Ended, BadKind, Torn, TooLong, TooMany}

abbrev pub kind_of : List ℕ → ℕ
kind_of event = slice_index event 0

-- The high half of a kind: 0 a datagram, 1 BGP up, 2 BGP octets, 3 BGP down, 4 BMP up, 5 BMP octets, 6 BMP down, 7 a tick.
abbrev pub high_half : ℕ → ℕ
high_half kind = kind / 16

-- The low half: 4 for an IPv4 address, 6 for an IPv6 one.
abbrev pub low_half : ℕ → ℕ
low_half kind = kind % 16

-- A flow capture has datagrams alone, a route capture all other kinds.
abbrev pub is_kind : Bool → ℕ → Bool
is_kind flows kind = (low_half kind == 4 || low_half kind == 6) && (if flows then high_half kind == 0 else nat_lt 0 (high_half kind) && nat_lt (high_half kind) 8)

-- the octets of an address
abbrev pub address_width : ℕ → ℕ
address_width kind = if low_half kind == 4 then 4 else 16

-- kind, stamp, address, port and length
abbrev pub header_width : ℕ → ℕ
header_width kind = 15 + address_width kind

-- the most octets that may follow a header
abbrev pub LONGEST : ℕ
LONGEST = 65535

-- only datagrams and the octets of sessions have octets
abbrev pub most_octets : ℕ → ℕ
most_octets kind = if high_half kind == 0 || (high_half kind == 2 || high_half kind == 5) then LONGEST else 0

abbrev pub stamp_of : List ℕ → ℕ
stamp_of event = number_at event 1 8

abbrev pub address_of : List ℕ → Addr
address_of event = if low_half (kind_of event) == 4 then V4 (number_at event 9 4) else V6 (number_at event 9 16)

abbrev pub port_of : List ℕ → ℕ
port_of event = number_at event (9 + address_width (kind_of event)) 2

-- how many octets follow the header
abbrev pub length_of : List ℕ → ℕ
length_of event = number_at event (11 + address_width (kind_of event)) 4

-- the octets that follow the header
abbrev pub octets_of : List ℕ → List ℕ
octets_of event = drop (header_width (kind_of event)) event

-- the octets of the whole event
abbrev pub event_width : List ℕ → ℕ
event_width event = header_width (kind_of event) + length_of event

-- The octets of the event at the front, or why the list ends here. `used` octets of events stand before it, behind
-- the eight of the magic, and at most `most` octets of events are read.
unfoldable pub judged : Bool → ℕ → ℕ → List ℕ → Result ℕ CaptureEnd
judged flows most used octets =
    if length octets == 0 then Err Ended
    else (if not (is_kind flows (kind_of octets)) then Err (BadKind (8 + used))
    else (if nat_lt (length octets) (header_width (kind_of octets)) then Err (Torn (8 + used))
    else (if nat_lt (most_octets (kind_of octets)) (length_of octets) then Err (TooLong (8 + used))
    else (if nat_lt most (used + event_width octets) then Err TooMany
    else (if nat_lt (length octets) (event_width octets) then Err (Torn (8 + used))
    else Ok (event_width octets))))))

-- The datagram of a whole event. Its moment is the greatest stamp so far.
abbrev pub datagram_at : ℕ → List ℕ → Datagram
datagram_at moment event = record {
  moment = max moment (stamp_of event);
  exporter = address_of event;
  port = port_of event;
  octets = octets_of event;
}

-- A tick belongs to both sides, and has the side Bgp.
abbrev pub side_of : List ℕ → Side
side_of event = if nat_lt 3 (high_half (kind_of event)) && nat_lt (high_half (kind_of event)) 7 then Bmp else Bgp

abbrev pub act_of : List ℕ → Act
act_of event =
    let half = high_half (kind_of event) in
    if half == 1 || half == 4 then Up
    else (if half == 2 || half == 5 then Bytes (octets_of event)
    else (if half == 3 || half == 6 then Down
    else Tick))

named : (half : ℕ) → (nat_lt 3 half && nat_lt half 7) ≡ true → ((half == 1 || half == 4) || ((half == 2 || half == 5) || (half == 3 || half == 6))) ≡ true
named half between = grind (arith, common_steps, between)

has_side : (bmp up bytes down : Bool) (octets : List ℕ) → (bmp ≡ true → (up || (bytes || down)) ≡ true)
    → has_its_side (if bmp then Bmp else Bgp) (if up then Up else (if bytes then Bytes octets else (if down then Down else Tick))) ≡ true
has_side false up bytes down octets known = refl
has_side true true bytes down octets known = refl
has_side true false true down octets known = refl
has_side true false false true octets known = refl
has_side true false false false octets known = known refl

pub reads_its_side : (event : List ℕ) → has_its_side (side_of event) (act_of event) ≡ true
reads_its_side event =
    let half = high_half (kind_of event) in
    has_side (nat_lt 3 half && nat_lt half 7) (half == 1 || half == 4) (half == 2 || half == 5) (half == 3 || half == 6) (octets_of event) (named half)

-- the route event of a whole event, likewise
abbrev pub route_event_at : ℕ → List ℕ → RouteEvent
route_event_at moment event = record {
  moment = max moment (stamp_of event);
  side = side_of event;
  address = address_of event;
  port = port_of event;
  act = act_of event;
  of_its_side = reads_its_side event;
}

-- the low half of a kind and the octets of an address
abbrev pub low_half_spelling : Addr → ℕ
low_half_spelling (V4 number) = 4
low_half_spelling (V6 number) = 6

abbrev pub address_spelling : Addr → List ℕ
address_spelling (V4 number) = big_bytes 4 number
address_spelling (V6 number) = big_bytes 16 number

-- the high half of the kind of a route event
abbrev pub high_half_spelling : Side → Act → ℕ
high_half_spelling Bgp Up = 1
high_half_spelling Bgp (Bytes octets) = 2
high_half_spelling Bgp Down = 3
high_half_spelling Bmp Up = 4
high_half_spelling Bmp (Bytes octets) = 5
high_half_spelling Bmp Down = 6
high_half_spelling side Tick = 7

-- an event of these parts
abbrev pub event_spelling : ℕ → ℕ → Addr → ℕ → List ℕ → List ℕ
event_spelling half stamp address port octets =
    (16 * half + low_half_spelling address) ∷ (big_bytes 8 stamp ++ (address_spelling address ++ (big_bytes 2 port ++ (big_bytes 4 (length octets) ++ octets))))

-- the event that a datagram is written as
abbrev pub spelling_of : Datagram → List ℕ
spelling_of d = event_spelling 0 d.moment d.exporter d.port d.octets

-- the event that a route event is written as
abbrev pub route_spelling_of : RouteEvent → List ℕ
route_spelling_of e = event_spelling (high_half_spelling e.side e.act) e.moment e.address e.port (act_octets e.act)
