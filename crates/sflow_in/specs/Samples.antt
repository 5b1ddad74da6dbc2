-- The samples of a datagram (sFlow version 5, sample_record).
use Rattle.std.specs.Prelude.{ℕ, ◌+◌, ◌*◌, ◌^◌, ◌/◌, ◌%◌, ◌==◌, ◌||◌, Bool, true, false, nat_lt, List, [], ◌∷◌, ◌++◌, length, drop, Option, Some, None, Result, Ok, Err, if◌then◌else◌}
use Rattle.std.specs.Option.{option_map, option_or}
use Rattle.acct_types.specs.Counts.{IsBelow}
use Rattle.acct_types.specs.Numbers.{number_at}
use Rattle.acct_types.specs.declared.addr.Addr.{Addr}
use Rattle.acct_types.specs.declared.flow.FlowRecord.{FlowRecord}
use Rattle.flow_templates.specs.Changes.{nothing_staged}
use Rattle.flow_templates.specs.Decoding.{Said}
use Rattle.flow_templates.specs.declared.decoded.Notice.{Notice}
use Rattle.flow_templates.specs.declared.decoded.NoticeCause.TheVariants as notice
use Rattle.flow_templates.specs.declared.decoded.RawRecord.{RawRecord}
use Rattle.flow_templates.specs.declared.refusal.Cause.{Cause}
use Rattle.flow_templates.specs.declared.refusal.Cause.TheVariants.{SampleCut, RecordCut}
use Rattle.sflow_in.specs.declared.flow_record.Masks.{Masks}
use Rattle.sflow_in.specs.declared.flow_record.Packet.{Packet}
use Rattle.sflow_in.specs.declared.flow_record.Told.{Told}
use Rattle.sflow_in.specs.declared.sample.Sample.{Sample}
use Rattle.sflow_in.specs.declared.sample.Sample.TheVariants.{Row, Note, Nothing}
use Rattle.sflow_in.specs.declared.sampled_header.HeaderFault.{HeaderFault}
use Rattle.sflow_in.specs.declared.sampled_header.HeaderFault.TheVariants.{HeaderCut, NotIp}
use Rattle.sflow_in.specs.FlowRecords.{records_of, told_in}
use Rattle.sflow_in.specs.Xdr.{pieces}

-- flow_sample (format 1) and flow_sample_expanded (format 3): sequence (4 octets), data source (4 or 8), rate (4), pool (4), drops (4),
-- input (4 or 8), output (4 or 8), number of records (4), records. What names a data source or an interface is one number, or in the
-- expanded sample two.
abbrev pub name_width : Bool → ℕ
name_width expanded = if expanded then 8 else 4

abbrev pub sample_rate : Bool → List ℕ → ℕ
sample_rate expanded octets = number_at octets (4 + name_width expanded) 4

abbrev pub input_place : Bool → ℕ
input_place expanded = 16 + name_width expanded

abbrev pub output_place : Bool → ℕ
output_place expanded = 16 + 2 * name_width expanded

abbrev pub record_count : Bool → List ℕ → ℕ
record_count expanded octets = number_at octets (16 + 3 * name_width expanded) 4

abbrev pub head_length : Bool → ℕ
head_length expanded = 20 + 3 * name_width expanded

-- An interface's name has a format and a value: two numbers, or the top two bits and the others of one. Only format 0 names one interface.
abbrev pub interface_format : Bool → List ℕ → ℕ → ℕ
interface_format expanded octets place = if expanded then number_at octets place 4 else number_at octets place 4 / 2 ^ 30

abbrev pub interface_value : Bool → List ℕ → ℕ → ℕ
interface_value expanded octets place = if expanded then number_at octets (place + 4) 4 else number_at octets place 4 % 2 ^ 30

unfoldable pub interface_at : Bool → List ℕ → ℕ → ℕ
interface_at expanded octets place = if interface_format expanded octets place == 0 then interface_value expanded octets place else 0

-- a rate of 0 is there too, and counts as 1
unfoldable pub rate_of : Bool → List ℕ → ℕ
rate_of expanded octets = if sample_rate expanded octets == 0 then 1 else sample_rate expanded octets

-- the flow of a packet: itself once, with its length
unfoldable pub flow_of : Addr → ℕ → Bool → List ℕ → Told → Packet → FlowRecord
flow_of exporter source expanded octets told packet = record {
  exporter = exporter;
  source_id = source;
  src = Some packet.src;
  dst = Some packet.dst;
  src_port = Some packet.src_port;
  dst_port = Some packet.dst_port;
  proto = Some packet.proto;
  tos = Some packet.tos;
  in_iface = Some (interface_at expanded octets (input_place expanded));
  out_iface = Some (interface_at expanded octets (output_place expanded));
  src_as = None;
  dst_as = None;
  src_mask = option_map (λ (masks : Masks). masks.src) told.masks;
  dst_mask = option_map (λ (masks : Masks). masks.dst) told.masks;
  vlan = option_or packet.vlan told.vlan;
  src_mac = packet.src_mac;
  dst_mac = packet.dst_mac;
  bgp_next_hop = None;
  counts = record { bytes = packet.length; packets = 1; flows = 1 };
}

abbrev pub row_of : Addr → ℕ → Bool → List ℕ → Told → Packet → RawRecord
row_of exporter source expanded octets told packet = record {
  flow = flow_of exporter source expanded octets told packet;
  own_rate = Some (rate_of expanded octets);
  learned_rate = None;
  header_rate = 1;
}

-- what a sample gives whose records tell of such a packet
abbrev pub given_packet : (Packet → RawRecord) → Option (Result Packet HeaderFault) → Sample
given_packet row None = Note notice.NotIp
given_packet row (Some (Err HeaderCut)) = Note notice.HeaderCut
given_packet row (Some (Err NotIp)) = Note notice.NotIp
given_packet row (Some (Ok packet)) = Row (row packet)

abbrev pub given_records : Addr → ℕ → Bool → List ℕ → Result Told Cause → Result Sample Cause
given_records exporter source expanded octets (Err cause) = Err cause
given_records exporter source expanded octets (Ok told) = Ok (given_packet (row_of exporter source expanded octets told) told.packet)

unfoldable pub flow_sample : Addr → ℕ → Bool → List ℕ → Result Sample Cause
flow_sample exporter source expanded octets =
    if nat_lt (length octets) (head_length expanded) then Err RecordCut
    else given_records exporter source expanded octets
    (told_in (records_of (record_count expanded octets) (drop (head_length expanded) octets)))

-- What a sample gives, by its format, or why the datagram is refused for it. Those of counters (2 and 4) give nothing.
unfoldable pub sample_of : Addr → ℕ → ℕ → List ℕ → Result Sample Cause
sample_of exporter source format octets =
    if format == 1 then flow_sample exporter source false octets
    else (if format == 3 then flow_sample exporter source true octets
    else (if format == 2 || format == 4 then Ok Nothing
    else Ok (Note (notice.Skipped format))))

-- so many samples, each judged
abbrev pub samples_of : Addr → ℕ → ℕ → List ℕ → Result (List Sample) Cause
samples_of exporter source count octets = pieces SampleCut (sample_of exporter source) count octets

abbrev pub rows_in : Sample → List RawRecord
rows_in (Row row) = row ∷ []
rows_in (Note cause) = []
rows_in Nothing = []

abbrev pub notices_in : ℕ → Sample → List Notice
notices_in number (Row row) = []
notices_in number (Note cause) = record { set = number; cause = cause } ∷ []
notices_in number Nothing = []

abbrev pub rows_of : List Sample → List RawRecord
rows_of [] = []
rows_of (sample ∷ others) = rows_in sample ++ rows_of others

-- the notices of samples that have so many samples before them: each counts, whatever it gives
abbrev pub notices_of : ℕ → List Sample → List Notice
notices_of passed [] = []
notices_of passed (sample ∷ others) = notices_in (passed + 1) sample ++ notices_of (passed + 1) others

abbrev pub said_in : Result (List Sample) Cause → Result Said Cause
said_in (Err cause) = Err cause
said_in (Ok samples) = Ok (record { rows = rows_of samples; notices = notices_of 0 samples; changes = nothing_staged })

-- the counts of what is given are those of one packet
abbrev pub GivesSmall : Sample → Type 0
GivesSmall (Row row) = IsBelow (2 ^ 64) row.flow.counts
GivesSmall (Note cause) = Unit {0}
GivesSmall Nothing = Unit {0}
