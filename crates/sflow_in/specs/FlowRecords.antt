-- The records of a flow sample (sFlow version 5, flow_record).
use Rattle.std.specs.Prelude.{ℕ, ◌+◌, ◌*◌, ◌==◌, Bool, true, false, nat_lt, List, [], ◌∷◌, length, take, drop, Option, Some, None, Result, Ok, Err, if◌then◌else◌}
use Rattle.std.specs.Option.{option_or}
use Rattle.acct_types.specs.Numbers.{number_at}
use Rattle.acct_types.specs.declared.addr.Addr.{Addr}
use Rattle.acct_types.specs.declared.addr.Addr.TheVariants.{V4, V6}
use Rattle.flow_templates.specs.declared.refusal.Cause.{Cause}
use Rattle.flow_templates.specs.declared.refusal.Cause.TheVariants.{SflowAddress, RecordCut}
use Rattle.sflow_in.specs.declared.flow_record.Masks.{Masks}
use Rattle.sflow_in.specs.declared.flow_record.Packet.{Packet}
use Rattle.sflow_in.specs.declared.flow_record.RecordData.{RecordData}
use Rattle.sflow_in.specs.declared.flow_record.RecordData.TheVariants.{Sampled, Switch, Router, Other}
use Rattle.sflow_in.specs.declared.flow_record.Told.{Told}
use Rattle.sflow_in.specs.declared.sampled_header.HeaderFault.{HeaderFault}
use Rattle.sflow_in.specs.declared.sampled_header.HeaderFields.{HeaderFields}
use Rattle.sflow_in.specs.SampledHeader.{sampled_header}
use Rattle.sflow_in.specs.Xdr.{address_width, pieces}

-- sampled_header (format 1): header protocol (4 octets), frame length (4), stripped (4), header length (4), header.
abbrev pub header_length : List ℕ → ℕ
header_length octets = number_at octets 12 4

abbrev pub header_of : List ℕ → List ℕ
header_of octets = take (header_length octets) (drop 16 octets)

abbrev pub packet_in_header : HeaderFields → Packet
packet_in_header fields = record {
  src_mac = fields.src_mac;
  dst_mac = fields.dst_mac;
  vlan = fields.vlan;
  src = fields.src;
  dst = fields.dst;
  proto = fields.proto;
  tos = fields.tos;
  src_port = fields.src_port;
  dst_port = fields.dst_port;
  length = fields.length;
}

abbrev pub sampled_packet : Result HeaderFields HeaderFault → Result Packet HeaderFault
sampled_packet (Ok fields) = Ok (packet_in_header fields)
sampled_packet (Err fault) = Err fault

unfoldable pub header_record : List ℕ → Result RecordData Cause
header_record octets =
    if nat_lt (length octets) 16 then Err RecordCut
    else (if nat_lt (length octets) (16 + header_length octets) then Err RecordCut
    else Ok (Sampled (sampled_packet (sampled_header (number_at octets 0 4) (header_of octets)))))

-- sampled_ipv4 (format 3) and sampled_ipv6 (format 4): length (4 octets), protocol (4), source (4 or 16), destination (the same), source
-- port (4), destination port (4), TCP flags (4), type of service or priority (4).
abbrev pub ip_width : Bool → ℕ
ip_width ipv6 = if ipv6 then 16 else 4

abbrev pub ip_at : Bool → List ℕ → ℕ → Addr
ip_at ipv6 octets place = if ipv6 then V6 (number_at octets place 16) else V4 (number_at octets place 4)

unfoldable pub packet_in_fields : Bool → List ℕ → Packet
packet_in_fields ipv6 octets = record {
  src_mac = None;
  dst_mac = None;
  vlan = None;
  src = ip_at ipv6 octets 8;
  dst = ip_at ipv6 octets (8 + ip_width ipv6);
  proto = number_at octets 4 4;
  tos = number_at octets (20 + 2 * ip_width ipv6) 4;
  src_port = number_at octets (8 + 2 * ip_width ipv6) 4;
  dst_port = number_at octets (12 + 2 * ip_width ipv6) 4;
  length = number_at octets 0 4;
}

unfoldable pub ip_record : Bool → List ℕ → Result RecordData Cause
ip_record ipv6 octets =
    if nat_lt (length octets) (24 + 2 * ip_width ipv6) then Err RecordCut
    else Ok (Sampled (Ok (packet_in_fields ipv6 octets)))

-- extended_switch (format 1001): source VLAN (4 octets), source priority (4), destination VLAN (4), destination priority (4).
unfoldable pub switch_record : List ℕ → Result RecordData Cause
switch_record octets =
    if nat_lt (length octets) 16 then Err RecordCut
    else Ok (Switch (number_at octets 0 4))

-- extended_router (format 1002): the next hop, as the type of its address (4 octets) and the address, source mask length (4),
-- destination mask length (4).
abbrev pub after_next_hop : List ℕ → ℕ
after_next_hop octets = 4 + address_width (number_at octets 0 4)

unfoldable pub router_record : List ℕ → Result RecordData Cause
router_record octets =
    if nat_lt (length octets) 4 then Err RecordCut
    else (if nat_lt 2 (number_at octets 0 4) then Err SflowAddress
    else (if nat_lt (length octets) (after_next_hop octets + 8) then Err RecordCut
    else Ok (Router (record { src = number_at octets (after_next_hop octets) 4; dst = number_at octets (after_next_hop octets + 4) 4 }))))

-- what a record tells, by its format, or why the datagram is refused for it
unfoldable pub record_of : ℕ → List ℕ → Result RecordData Cause
record_of format octets =
    if format == 1 then header_record octets
    else (if format == 3 then ip_record false octets
    else (if format == 4 then ip_record true octets
    else (if format == 1001 then switch_record octets
    else (if format == 1002 then router_record octets
    else Ok Other))))

abbrev pub packet_of : RecordData → Option (Result Packet HeaderFault)
packet_of (Sampled packet) = Some packet
packet_of (Switch vlan) = None
packet_of (Router masks) = None
packet_of Other = None

abbrev pub vlan_of : RecordData → Option ℕ
vlan_of (Sampled packet) = None
vlan_of (Switch vlan) = Some vlan
vlan_of (Router masks) = None
vlan_of Other = None

abbrev pub masks_of : RecordData → Option Masks
masks_of (Sampled packet) = None
masks_of (Switch vlan) = None
masks_of (Router masks) = Some masks
masks_of Other = None

-- what the first of the records tells that tells it
abbrev pub first : {T : Type 0} → (RecordData → Option T) → List RecordData → Option T
first part [] = None
first part (one ∷ others) = option_or (part one) (first part others)

-- what records tell, and one more after them
abbrev pub also : Told → RecordData → Told
also told one = record {
  packet = option_or told.packet (packet_of one);
  vlan = option_or told.vlan (vlan_of one);
  masks = option_or told.masks (masks_of one);
}

-- the first packet, the first VLAN and the first masks
abbrev pub told_by : List RecordData → Told
told_by records = record { packet = first packet_of records; vlan = first vlan_of records; masks = first masks_of records }

abbrev pub told_in : Result (List RecordData) Cause → Result Told Cause
told_in (Err cause) = Err cause
told_in (Ok records) = Ok (told_by records)

-- so many records, each judged
abbrev pub records_of : ℕ → List ℕ → Result (List RecordData) Cause
records_of count octets = pieces RecordCut record_of count octets
