-- A NetFlow datagram of version 5: a header of 24 octets, and as many records of 48 octets as it counts. All numbers are big-endian.
use Rattle.std.specs.Prelude.{ℕ, zero, suc, ◌+◌, ◌*◌, ◌%◌, ◌^◌, ◌==◌, ◌||◌, nat_lt, List, [], ◌∷◌, length, drop, Some, None, Result, Ok, Err, if◌then◌else◌, not, slice_index}
use Rattle.acct_types.specs.Numbers.{number_at}
use Rattle.acct_types.specs.declared.addr.Addr.{Addr}
use Rattle.acct_types.specs.declared.addr.Addr.TheVariants.{V4}
use Rattle.acct_types.specs.declared.flow.FlowRecord.{FlowRecord}
use Rattle.flow_templates.specs.declared.refusal.Cause.{Cause}
use Rattle.flow_templates.specs.declared.refusal.Cause.TheVariants.{Short, Version, V5Count, V5Cut}
use Rattle.flow_templates.specs.declared.decoded.RawRecord.{RawRecord}

-- Header: version (2 octets), count (2), sysUptime (4), unix_secs (4), unix_nsecs (4), flow_sequence (4), engine_type (1),
-- engine_id (1), sampling (2).
abbrev pub version_of : List ℕ → ℕ
version_of octets = number_at octets 0 2

abbrev pub count_of : List ℕ → ℕ
count_of octets = number_at octets 2 2

-- the engine's type and id as one number
abbrev pub source_of : List ℕ → ℕ
source_of octets = slice_index octets 20 * 256 + slice_index octets 21

-- the low fourteen bits of the sampling field, below the two bits of its mode
abbrev pub interval_of : List ℕ → ℕ
interval_of octets = number_at octets 22 2 % 2 ^ 14

-- an interval of 0 says nothing: the rate is 1
abbrev pub rate_of : List ℕ → ℕ
rate_of octets = if interval_of octets == 0 then 1 else interval_of octets

-- Record: srcaddr (4), dstaddr (4), nexthop (4), input (2), output (2), dPkts (4), dOctets (4), First (4), Last (4), srcport (2),
-- dstport (2), pad (1), tcp_flags (1), prot (1), tos (1), src_as (2), dst_as (2), src_mask (1), dst_mask (1), pad (2).
-- It has no BGP next hop: nexthop is the router's, and is passed over.
abbrev pub flow_of : Addr → ℕ → List ℕ → FlowRecord
flow_of exporter source octets = record {
  exporter = exporter;
  source_id = source;
  src = Some (V4 (number_at octets 0 4));
  dst = Some (V4 (number_at octets 4 4));
  src_port = Some (number_at octets 32 2);
  dst_port = Some (number_at octets 34 2);
  proto = Some (slice_index octets 38);
  tos = Some (slice_index octets 39);
  in_iface = Some (number_at octets 12 2);
  out_iface = Some (number_at octets 14 2);
  src_as = Some (number_at octets 40 2);
  dst_as = Some (number_at octets 42 2);
  src_mask = Some (slice_index octets 44);
  dst_mask = Some (slice_index octets 45);
  vlan = None;
  src_mac = None;
  dst_mac = None;
  bgp_next_hop = None;
  counts = record {
    bytes = number_at octets 20 4;
    packets = number_at octets 16 4;
    flows = 1;
  };
}

-- that many records, one after another
abbrev pub records_of : Addr → ℕ → ℕ → ℕ → List ℕ → List RawRecord
records_of exporter source rate zero octets = []
records_of exporter source rate (suc count) octets =
    record { flow = flow_of exporter source octets; own_rate = None; learned_rate = None; header_rate = rate }
    ∷ records_of exporter source rate count (drop 48 octets)

-- The records of a datagram, or the first cause to refuse it. Octets past the records are ignored.
unfoldable pub decoded_v5 : Addr → List ℕ → Result (List RawRecord) Cause
decoded_v5 exporter octets =
    if nat_lt (length octets) 2 then Err Short
    else (if not (version_of octets == 5) then Err (Version (version_of octets))
    else (if nat_lt (length octets) 24 then Err Short
    else (if count_of octets == 0 || nat_lt 30 (count_of octets) then Err V5Count
    else (if nat_lt (length octets) (24 + 48 * count_of octets) then Err V5Cut
    else Ok (records_of exporter (source_of octets) (rate_of octets) (count_of octets) (drop 24 octets))))))
