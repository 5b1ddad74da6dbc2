-- An IPFIX message (RFC 7011, 3.1): a header of 16 octets, and sets up to the message's length.
use Rattle.std.specs.Prelude.{ℕ, ◌≡◌, ◌≤◌, ◌==◌, ◌||◌, nat_lt, List, length, drop, take, Result, Err, if◌then◌else◌, not}
use Rattle.acct_types.specs.Numbers.{number_at}
use Rattle.acct_types.specs.declared.addr.Addr.{Addr}
use Rattle.flow_templates.specs.declared.refusal.Cause.{Cause}
use Rattle.flow_templates.specs.declared.refusal.Cause.TheVariants.{IpfixLength, Short, Version}
use Rattle.flow_templates.specs.declared.template.Domain.{Domain}
use Rattle.flow_templates.specs.Decoding.{Said}
use Rattle.flow_templates.specs.Known.{Known}
use Rattle.flow_sets.specs.Sets.{AcceptsSome, sets_said}

-- Header: version (2 octets), length (2), export time (4), sequence number (4), observation domain id (4).
abbrev pub version_of : List ℕ → ℕ
version_of octets = number_at octets 0 2

abbrev pub length_of : List ℕ → ℕ
length_of octets = number_at octets 2 2

abbrev pub domain_of : Addr → List ℕ → Domain
domain_of exporter octets = record { exporter = exporter; version = 10; id = number_at octets 12 4 }

-- What a message says, by what is known before it, or the first cause to refuse it. Octets past its length are ignored.
unfoldable pub decoded_ipfix : Known → Addr → List ℕ → Result Said Cause
decoded_ipfix known exporter octets =
    if nat_lt (length octets) 2 then Err Short
    else (if not (version_of octets == 10) then Err (Version (version_of octets))
    else (if nat_lt (length octets) 16 then Err Short
    else (if nat_lt (length_of octets) 16 || nat_lt (length octets) (length_of octets) then Err IpfixLength
    else sets_said (domain_of exporter octets) known (drop 16 (take (length_of octets) octets)))))

-- Some of the message's sets, the first ones, are accepted.
pub record AcceptsSomeSets (known : Known) (exporter : Addr) (octets : List ℕ) : Type 0 where
  pub version : version_of octets ≡ 10
  pub whole : length_of octets ≤ length octets
  pub sets : AcceptsSome (domain_of exporter octets) known (drop 16 (take (length_of octets) octets))
