-- An sFlow datagram (sFlow version 5, sample_datagram_v5): version (4 octets), type of the agent's address (4), that address (4 or 16),
-- sub-agent (4), sequence (4), uptime (4), number of samples (4), samples.
use Rattle.std.specs.Prelude.{ℕ, ◌+◌, ◌==◌, ◌||◌, Bool, nat_lt, List, length, drop, Result, Err, if◌then◌else◌, not}
use Rattle.acct_types.specs.Numbers.{number_at}
use Rattle.acct_types.specs.declared.addr.Addr.{Addr}
use Rattle.flow_templates.specs.Decoding.{Said}
use Rattle.flow_templates.specs.declared.refusal.Cause.{Cause}
use Rattle.flow_templates.specs.declared.refusal.Cause.TheVariants.{Short, Version, SflowAddress}
use Rattle.sflow_in.specs.Samples.{said_in, samples_of}
use Rattle.sflow_in.specs.Xdr.{address_width}

abbrev pub version_of : List ℕ → ℕ
version_of octets = number_at octets 0 4

abbrev pub agent_type : List ℕ → ℕ
agent_type octets = number_at octets 4 4

-- the agent has an address
abbrev pub has_agent : List ℕ → Bool
has_agent octets = agent_type octets == 1 || agent_type octets == 2

abbrev pub after_agent : List ℕ → ℕ
after_agent octets = 8 + address_width (agent_type octets)

abbrev pub sub_agent : List ℕ → ℕ
sub_agent octets = number_at octets (after_agent octets) 4

abbrev pub sample_count : List ℕ → ℕ
sample_count octets = number_at octets (after_agent octets + 12) 4

abbrev pub header_length : List ℕ → ℕ
header_length octets = after_agent octets + 16

-- What a datagram says, or the first cause to refuse it. Each part of the header is judged where its octets are there. Octets past the
-- samples are ignored.
unfoldable pub decoded_sflow : Addr → List ℕ → Result Said Cause
decoded_sflow exporter octets =
    if nat_lt (length octets) 4 then Err Short
    else (if not (version_of octets == 5) then Err (Version (version_of octets))
    else (if nat_lt (length octets) 8 then Err Short
    else (if not (has_agent octets) then Err SflowAddress
    else (if nat_lt (length octets) (header_length octets) then Err Short
    else said_in (samples_of exporter (sub_agent octets) (sample_count octets) (drop (header_length octets) octets))))))
