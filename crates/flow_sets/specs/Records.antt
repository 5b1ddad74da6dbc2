-- Records of data sets. A record is seen as its numbers by their elements.
use Rattle.std.specs.Prelude.{ℕ, suc, zero, nat_lt, List, length, drop, Option, Some, None, option_map, Result, Ok, Err, if◌then◌else◌}
use Rattle.std.specs.Option.{option_or}
use Rattle.acct_types.specs.declared.addr.Addr.{Addr}
use Rattle.acct_types.specs.declared.addr.Addr.TheVariants.{V4, V6}
use Rattle.acct_types.specs.declared.flow.FlowRecord.{FlowRecord}
use Rattle.flow_templates.specs.declared.decoded.RawRecord.{RawRecord}
use Rattle.flow_templates.specs.declared.refusal.Cause.{Cause}
use Rattle.flow_templates.specs.declared.refusal.Cause.TheVariants.{VarCut}
use Rattle.flow_templates.specs.declared.template.Domain.{Domain}
use Rattle.flow_templates.specs.declared.template.Template.{Template}
use Rattle.flow_templates.specs.Decoding.{Said}
use Rattle.flow_templates.specs.Known.{Known}
use Rattle.flow_templates.specs.Templates.{least_length}
use Rattle.flow_sets.specs.Fields.{number_in, record_length}
use Rattle.flow_sets.specs.Rates.{Numbers, learned_rate, own_rate, taught}
use Rattle.flow_sets.specs.Saying.{behind, nothing_said, one_row, taught_alone}

-- the IPv4 address of one element, or else the IPv6 address of the other
abbrev pub address : Numbers → ℕ → ℕ → Option Addr
address number v4 v6 = option_or (option_map V4 (number v4)) (option_map V6 (number v6))

abbrev pub or_zero : Option ℕ → ℕ
or_zero None = 0
or_zero (Some number) = number

-- the number of the first of three elements that is there, or else 0
abbrev pub count : Numbers → ℕ → ℕ → ℕ → ℕ
count number first second third = or_zero (option_or (number first) (option_or (number second) (number third)))

-- The elements are those of IANA's registry: sourceIPv4Address (8), sourceIPv6Address (27), destinationIPv4Address (12),
-- destinationIPv6Address (28), sourceTransportPort (7), destinationTransportPort (11), protocolIdentifier (4), ipClassOfService (5),
-- ingressInterface (10), egressInterface (14), bgpSourceAsNumber (16), bgpDestinationAsNumber (17), sourceIPv4PrefixLength (9),
-- sourceIPv6PrefixLength (29), destinationIPv4PrefixLength (13), destinationIPv6PrefixLength (30), vlanId (58), sourceMacAddress (56),
-- destinationMacAddress (80), bgpNextHopIPv4Address (18), bgpNextHopIPv6Address (63), octetDeltaCount (1), octetTotalCount (85),
-- postOctetDeltaCount (23), packetDeltaCount (2), packetTotalCount (86), postPacketDeltaCount (24).
abbrev pub flow_of : Domain → Numbers → FlowRecord
flow_of domain number = record {
  exporter = domain.exporter;
  source_id = domain.id;
  src = address number 8 27;
  dst = address number 12 28;
  src_port = number 7;
  dst_port = number 11;
  proto = number 4;
  tos = number 5;
  in_iface = number 10;
  out_iface = number 14;
  src_as = number 16;
  dst_as = number 17;
  src_mask = option_or (number 9) (number 29);
  dst_mask = option_or (number 13) (number 30);
  vlan = number 58;
  src_mac = number 56;
  dst_mac = number 80;
  bgp_next_hop = address number 18 63;
  counts = record {
    bytes = count number 1 85 23;
    packets = count number 2 86 24;
    flows = 1;
  };
}

-- the header tells no rate
abbrev pub row_of : Domain → Known → Numbers → RawRecord
row_of domain known number = record {
  flow = flow_of domain number;
  own_rate = own_rate number;
  learned_rate = learned_rate domain known number;
  header_rate = 1;
}

-- what a record says: a flow, or a sampling rate where its template is one of options
abbrev pub record_said : Domain → Known → Template → Numbers → Said
record_said domain known template number =
    if template.options then taught_alone (taught domain number) else one_row (row_of domain known number)

-- The records of a data set, one behind another: as long as the fewest octets of a record are left, there is one more. What is left is
-- padding. A record may pass the end where it has a field of variable width. There are at most as many as `most`.
abbrev pub records_from : ℕ → Domain → Known → Template → List ℕ → Result Said Cause
records_from zero domain known template octets = Ok nothing_said
records_from (suc most) domain known template octets =
    if nat_lt (length octets) (least_length domain.version template.fields) then Ok nothing_said
    else (if nat_lt (length octets) (record_length domain.version template octets) then Err VarCut
    else behind (record_said domain known template (number_in domain.version template octets))
    (records_from most domain known template (drop (record_length domain.version template octets) octets)))

-- each record has an octet at least
abbrev pub data_said : Domain → Known → Template → List ℕ → Result Said Cause
data_said domain known template octets = records_from (length octets) domain known template octets
