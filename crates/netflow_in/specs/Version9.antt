-- A NetFlow datagram of version 9 (RFC 3954, 5): a header of 20 octets, and sets to the end.
use Rattle.std.specs.Prelude.{ℕ, ◌≡◌, ◌==◌, nat_lt, List, length, drop, Result, Err, if◌then◌else◌, not}
use Rattle.acct_types.specs.Numbers.{number_at}
use Rattle.acct_types.specs.declared.addr.Addr.{Addr}
use Rattle.flow_templates.specs.declared.refusal.Cause.{Cause}
use Rattle.flow_templates.specs.declared.refusal.Cause.TheVariants.{Short, Version}
use Rattle.flow_templates.specs.declared.template.Domain.{Domain}
use Rattle.flow_templates.specs.Decoding.{Said}
use Rattle.flow_templates.specs.Known.{Known}
use Rattle.flow_sets.specs.Sets.{AcceptsSome, sets_said}
use Rattle.netflow_in.specs.Version5.{version_of}

-- Header: version (2 octets), count (2), sysUpTime (4), unix secs (4), sequence number (4), source id (4).
abbrev pub domain_of : Addr → List ℕ → Domain
domain_of exporter octets = record { exporter = exporter; version = 9; id = number_at octets 16 4 }

-- What a datagram says, by what is known before it, or the first cause to refuse it. The count of its records isn't judged.
unfoldable pub decoded_v9 : Known → Addr → List ℕ → Result Said Cause
decoded_v9 known exporter octets =
    if nat_lt (length octets) 2 then Err Short
    else (if not (version_of octets == 9) then Err (Version (version_of octets))
    else (if nat_lt (length octets) 20 then Err Short
    else sets_said (domain_of exporter octets) known (drop 20 octets)))

-- Some of the datagram's sets, the first ones, are accepted.
pub record AcceptsSomeSets (known : Known) (exporter : Addr) (octets : List ℕ) : Type 0 where
  pub version : version_of octets ≡ 9
  pub sets : AcceptsSome (domain_of exporter octets) known (drop 20 octets)
