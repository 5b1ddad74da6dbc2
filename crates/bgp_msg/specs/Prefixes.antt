-- Prefixes as UPDATE lists them (RFC 4271, 4.3): length in bits (1 octet), and the fewest octets that hold so many bits. The four lists of an
-- UPDATE are read alike.
use Rattle.std.specs.Prelude.{ℕ, ◌+◌, ◌-◌, ◌/◌, ◌||◌, Bool, nat_lt, List, [], ◌∷◌, ◌++◌, length, take, drop, map, replicate, slice_index, Option, Some, None, if◌then◌else◌}
use Rattle.acct_types.specs.Numbers.{number_at}
use Rattle.acct_types.specs.Prefixes.{network_of}
use Rattle.acct_types.specs.Updates.{Named}
use Rattle.acct_types.specs.declared.addr.Addr.{Addr}
use Rattle.acct_types.specs.declared.addr.Addr.TheVariants as address
use Rattle.bgp_msg.specs.Pieces.{pieces}
use Rattle.bgp_msg.specs.declared.families.Family.{Family}
use Rattle.bgp_msg.specs.declared.families.Family.TheVariants.{V4, V6}

-- the bits of an address
abbrev pub width : Family → ℕ
width V4 = 32
width V6 = 128

abbrev pub bits_of : List ℕ → ℕ
bits_of octets = slice_index octets 0

unfoldable pub prefix_size : List ℕ → ℕ
prefix_size octets = 1 + (bits_of octets + 7) / 8

-- it is longer than an address of its family, or cut
unfoldable pub is_bad : Family → List ℕ → Bool
is_bad family prefix = nat_lt (width family) (bits_of prefix) || nat_lt (length prefix) (prefix_size prefix)

-- the place of the first that is bad, where the first of all stands at this one
abbrev pub first_bad : Family → ℕ → List (List ℕ) → Option ℕ
first_bad family place [] = None
first_bad family place (prefix ∷ others) = if is_bad family prefix then Some place else first_bad family (place + length prefix) others

abbrev pub bad_prefix : Family → ℕ → List ℕ → Option ℕ
bad_prefix family place octets = first_bad family place (pieces prefix_size octets)

-- the octets that are there, and zeros in place of those that aren't
abbrev pub filled : List ℕ → List ℕ
filled octets = take 16 octets ++ replicate (16 - length octets) 0

unfoldable pub address_of : Family → List ℕ → Addr
address_of V4 octets = address.V4 (number_at (filled octets) 0 4)
address_of V6 octets = address.V6 (number_at (filled octets) 0 16)

abbrev pub named : Family → List ℕ → Named
named family prefix = record { addr = network_of (bits_of prefix) (address_of family (drop 1 prefix)); len = bits_of prefix; path_id = 0 }

unfoldable pub prefixes_in : Family → List ℕ → List Named
prefixes_in family octets = map (named family) (pieces prefix_size octets)
