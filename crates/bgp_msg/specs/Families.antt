-- Routes of a family (RFC 4760). MP_REACH_NLRI: family (2 octets), subfamily (1), length of the next hop (1), next hop, reserved (1), prefixes.
-- MP_UNREACH_NLRI: family (2), subfamily (1), prefixes. Unicast routes of IPv4 (1/1) and of IPv6 (2/1) are kept; other families are passed
-- over.
use Rattle.std.specs.Prelude.{ℕ, ◌+◌, ◌==◌, ◌||◌, ◌&&◌, Bool, true, false, nat_lt, nat_le, List, [], length, drop, slice_index, Option, Some, None, is_none, if◌then◌else◌, not}
use Rattle.acct_types.specs.Updates.{Named}
use Rattle.acct_types.specs.Numbers.{number_at}
use Rattle.acct_types.specs.declared.addr.Addr.{Addr}
use Rattle.acct_types.specs.declared.addr.Addr.TheVariants as address
use Rattle.bgp_msg.specs.Prefixes.{bad_prefix, prefixes_in}
use Rattle.bgp_msg.specs.declared.families.Family.{Family}
use Rattle.bgp_msg.specs.declared.families.Family.TheVariants.{V4, V6}

-- the family, where it is kept
unfoldable pub family_of : List ℕ → Option Family
family_of value =
    if not (slice_index value 2 == 1) then None
    else (if number_at value 0 2 == 1 then Some V4
    else (if number_at value 0 2 == 2 then Some V6
    else None))

-- no prefix is bad
abbrev pub are_prefixes : Family → List ℕ → Bool
are_prefixes family octets = is_none (bad_prefix family 0 octets)

abbrev pub hop_length : List ℕ → ℕ
hop_length value = slice_index value 3

-- The next hop of IPv4 may be of either family (RFC 8950). One of IPv6 may have a link-local address behind it (RFC 2545, 3).
abbrev pub takes_hop : Family → ℕ → Bool
takes_hop V4 size = size == 4 || size == 16 || size == 32
takes_hop V6 size = size == 16 || size == 32

abbrev pub reached_octets : List ℕ → List ℕ
reached_octets value = drop (5 + hop_length value) value

-- it isn't cut, its next hop has a length of its family, and no prefix is bad
unfoldable pub reaches : Family → List ℕ → Bool
reaches family value =
    nat_le 4 (length value) && takes_hop family (hop_length value) && nat_le (5 + hop_length value) (length value) && are_prefixes family (reached_octets value)

abbrev pub if_kept : (Family → Bool) → Option Family → Bool
if_kept test None = true
if_kept test (Some family) = test family

unfoldable pub is_reach : List ℕ → Bool
is_reach value = if nat_lt (length value) 3 then false else if_kept (λ family. reaches family value) (family_of value)

unfoldable pub is_unreach : List ℕ → Bool
is_unreach value = if nat_lt (length value) 3 then false else if_kept (λ family. are_prefixes family (drop 3 value)) (family_of value)

-- its length decides the family of the next hop
unfoldable pub reach_hop : List ℕ → Addr
reach_hop value = if hop_length value == 4 then address.V4 (number_at value 4 4) else address.V6 (number_at value 4 16)

abbrev pub prefixes_if : Option Family → List ℕ → List Named
prefixes_if None octets = []
prefixes_if (Some family) octets = prefixes_in family octets

unfoldable pub reached : List ℕ → List Named
reached value = prefixes_if (family_of value) (reached_octets value)

unfoldable pub unreached : List ℕ → List Named
unreached value = prefixes_if (family_of value) (drop 3 value)
