-- Addresses as text, and back.
use Rattle.std.specs.Prelude.{◌≡◌, ◌↔◌, ℕ, ◌^◌, ◌<◌, ◌==◌, ◌++◌, Bool, false, List, Option, Some, MatchOption, codes, decimal, option_map, if◌then◌else◌}
use Rattle.std.specs.Int.{w32, w128, to_be_bytes, from_be_bytes}
use Rattle.std.specs.List.{list_any}
use Rattle.std.specs.Net.Addr.{octets_of, segments_of}
use Rattle.std.specs.Net.Grammar.{IsColonHex, IsDotted}
use Rattle.std.specs.Net.Reader.{dot, read_ipv4, read_ipv6, whole_value}
use Rattle.std.specs.Net.Text.{hex_groups_text, ipv4_text}
use Rattle.acct_types.specs.declared.addr.Addr.{Addr}
use Rattle.acct_types.specs.declared.addr.Addr.TheVariants.{V4, V6}
use Rattle.acct_types.specs.declared.prefix.Prefix.{Prefix}

-- the four octets of an IPv4 address, the highest first
abbrev pub octets_in : ℕ → List ℕ
octets_in n = to_be_bytes w32 n

-- the eight groups of sixteen bits of an IPv6 address, the highest first
abbrev pub groups_in : ℕ → List ℕ
groups_in n = segments_of (to_be_bytes w128 n)

-- Four decimals with dots between them; or groups in lower-case hexadecimal without leading zeros and colons between
-- them, where `::` stands for the first of the longest runs of two zero groups or more (RFC 5952, 4.1 to 4.3).
-- No IPv6 address ends in an IPv4 address.
unfoldable pub address_text : Addr → List ℕ
address_text (V4 n) = ipv4_text (octets_in n)
address_text (V6 n) = hex_groups_text (groups_in n)

-- the text of the address, a slash and the length
abbrev pub prefix_text : Prefix → List ℕ
prefix_text prefix = address_text prefix.addr ++ codes "/" ++ decimal prefix.len

-- the number fits the family
abbrev pub AddrFits : Addr → Type 0
AddrFits (V4 n) = n < 2 ^ 32
AddrFits (V6 n) = n < 2 ^ 128

-- whether a dot stands in the text
abbrev pub has_dot : List ℕ → Bool
has_dot text = list_any (λ octet. octet == dot) text

-- The text is four decimals below 256 without leading zeros, with dots between them; or eight groups of one to four
-- hexadecimal digits, or fewer with one `::` that stands for one zero group or more, without a dotted tail.
abbrev pub Spells : List ℕ → Addr → Type 0
Spells text (V4 n) = (n < 2 ^ 32) × IsDotted text (octets_in n)
Spells text (V6 n) = (n < 2 ^ 128) × IsColonHex text (groups_in n) × (has_dot text ≡ false)

-- the number of an IPv4 address that a text spells
abbrev pub v4_of : List ℕ → Option ℕ
v4_of text = option_map (λ octets. from_be_bytes w32 octets) (whole_value (read_ipv4 text))

-- the number of an IPv6 address that a text spells
abbrev pub v6_of : List ℕ → Option ℕ
v6_of text = option_map (λ groups. from_be_bytes w128 (octets_of groups)) (whole_value (read_ipv6 text))

-- the address that a text spells
unfoldable pub address_of : List ℕ → Option Addr
address_of text = if has_dot text then option_map V4 (v4_of text) else option_map V6 (v6_of text)

-- the result is the address that the text spells, or None where it spells none
abbrev pub IsReadingOf : List ℕ → Option Addr → Type 0
IsReadingOf text result = MatchOption result ((address : Addr) → ¬ (Spells text address)) (λ address. Spells text address)

-- exactly the spellings of an address are read as it
abbrev pub ReadsSpellings : Type 0
ReadsSpellings = (text : List ℕ) (address : Addr) → (address_of text ≡ Some address) ↔ Spells text address

-- the text of an address is read as that address
abbrev pub ReadsTexts : Type 0
ReadsTexts = (address : Addr) → AddrFits address → address_of (address_text address) ≡ Some address
