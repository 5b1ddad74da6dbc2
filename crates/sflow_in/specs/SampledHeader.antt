-- The header of a sampled packet (sFlow version 5, sampled_header): Ethernet with its tags (IEEE 802.3, 802.1Q), IPv4 (RFC 791, 3.1) and
-- IPv6 (RFC 8200, 3).
use Rattle.std.specs.Prelude.{ℕ, ◌+◌, ◌*◌, ◌/◌, ◌%◌, ◌^◌, ◌==◌, ◌||◌, ◌&&◌, Bool, nat_lt, nat_le, List, length, drop, Option, Some, None, Result, Ok, Err, if◌then◌else◌, not, slice_index}
use Rattle.acct_types.specs.Numbers.{number_at}
use Rattle.acct_types.specs.declared.addr.Addr.TheVariants.{V4, V6}
use Rattle.sflow_in.specs.declared.sampled_header.HeaderFault.{HeaderFault}
use Rattle.sflow_in.specs.declared.sampled_header.HeaderFault.TheVariants.{HeaderCut, NotIp}
use Rattle.sflow_in.specs.declared.sampled_header.HeaderFields.{HeaderFields}
use Rattle.sflow_in.specs.declared.sampled_header.Link.{Link}
use Rattle.sflow_in.specs.declared.sampled_header.Ports.{Ports}

abbrev pub no_ports : Ports
no_ports = record { src = 0; dst = 0 }

-- TCP (RFC 9293), UDP (RFC 768) and SCTP (RFC 9260) begin with the two ports
abbrev pub has_ports : ℕ → Bool
has_ports proto = proto == 6 || proto == 17 || proto == 132

-- the ports of what the packet carries from this place on, where both are there
unfoldable pub ports_at : ℕ → ℕ → List ℕ → Ports
ports_at proto place octets =
    if has_ports proto && nat_le (place + 4) (length octets) then record { src = number_at octets place 2; dst = number_at octets (place + 2) 2 }
    else no_ports

-- IPv4: version and header length in words (1 octet), type of service (1), total length (2), identification (2), flags and fragment
-- offset (2), time to live (1), protocol (1), checksum (2), source (4), destination (4).
abbrev pub header_words : List ℕ → ℕ
header_words octets = slice_index octets 0 % 16

-- a later fragment doesn't begin with ports
abbrev pub ports_v4 : List ℕ → Ports
ports_v4 octets = if number_at octets 6 2 % 2 ^ 13 == 0 then ports_at (slice_index octets 9) (4 * header_words octets) octets else no_ports

unfoldable pub fields_v4 : Link → List ℕ → HeaderFields
fields_v4 link octets = record {
  src_mac = link.src_mac;
  dst_mac = link.dst_mac;
  vlan = link.vlan;
  src = V4 (number_at octets 12 4);
  dst = V4 (number_at octets 16 4);
  proto = slice_index octets 9;
  tos = slice_index octets 1;
  src_port = (ports_v4 octets).src;
  dst_port = (ports_v4 octets).dst;
  length = number_at octets 2 2;
}

unfoldable pub packet_v4 : Link → List ℕ → Result HeaderFields HeaderFault
packet_v4 link octets =
    if nat_lt (length octets) 20 then Err HeaderCut
    else (if not (slice_index octets 0 / 16 == 4) || nat_lt (header_words octets) 5 then Err NotIp
    else Ok (fields_v4 link octets))

-- IPv6: version (4 bits), traffic class (8 bits), flow label (20 bits), payload length (2 octets), next header (1), hop limit (1),
-- source (16), destination (16). Extension headers aren't walked.
abbrev pub ports_v6 : List ℕ → Ports
ports_v6 octets = ports_at (slice_index octets 6) 40 octets

unfoldable pub fields_v6 : Link → List ℕ → HeaderFields
fields_v6 link octets = record {
  src_mac = link.src_mac;
  dst_mac = link.dst_mac;
  vlan = link.vlan;
  src = V6 (number_at octets 8 16);
  dst = V6 (number_at octets 24 16);
  proto = slice_index octets 6;
  tos = slice_index octets 0 % 16 * 16 + slice_index octets 1 / 16;
  src_port = (ports_v6 octets).src;
  dst_port = (ports_v6 octets).dst;
  length = number_at octets 4 2 + 40;
}

unfoldable pub packet_v6 : Link → List ℕ → Result HeaderFields HeaderFault
packet_v6 link octets =
    if nat_lt (length octets) 40 then Err HeaderCut
    else (if not (slice_index octets 0 / 16 == 6) then Err NotIp
    else Ok (fields_v6 link octets))

-- Ethernet: destination (6 octets), source (6), up to two tags, type (2). A tag is a type of its own (2) and its control (2).
abbrev pub is_tag : ℕ → Bool
is_tag kind = kind == 0x8100 || kind == 0x88a8

-- how many tags stand before the type
unfoldable pub tags_of : List ℕ → ℕ
tags_of octets =
    if not (is_tag (number_at octets 12 2)) then 0
    else (if not (is_tag (number_at octets 16 2)) then 1
    else 2)

abbrev pub ethernet_length : List ℕ → ℕ
ethernet_length octets = 14 + 4 * tags_of octets

abbrev pub type_of : List ℕ → ℕ
type_of octets = number_at octets (12 + 4 * tags_of octets) 2

-- the low twelve bits of the first control
abbrev pub vlan_of : List ℕ → Option ℕ
vlan_of octets = if tags_of octets == 0 then None else Some (number_at octets 14 2 % 2 ^ 12)

abbrev pub link_of : List ℕ → Link
link_of octets = record { src_mac = Some (number_at octets 6 6); dst_mac = Some (number_at octets 0 6); vlan = vlan_of octets }

unfoldable pub frame : List ℕ → Result HeaderFields HeaderFault
frame octets =
    if nat_lt (length octets) (ethernet_length octets) then Err HeaderCut
    else (if type_of octets == 0x0800 then packet_v4 (link_of octets) (drop (ethernet_length octets) octets)
    else (if type_of octets == 0x86dd then packet_v6 (link_of octets) (drop (ethernet_length octets) octets)
    else Err NotIp))

abbrev pub no_link : Link
no_link = record { src_mac = None; dst_mac = None; vlan = None }

-- What a sampled header says by its protocol (sFlow version 5, header_protocol: 1 Ethernet, 11 IPv4, 12 IPv6), or what is wrong with it.
unfoldable pub sampled_header : ℕ → List ℕ → Result HeaderFields HeaderFault
sampled_header protocol octets =
    if protocol == 1 then frame octets
    else (if protocol == 11 then packet_v4 no_link octets
    else (if protocol == 12 then packet_v6 no_link octets
    else Err NotIp))
