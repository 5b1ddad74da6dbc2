-- The messages that are written: the marker of sixteen ones, length (2 octets), type (1), and the body.
use Rattle.std.specs.Prelude.{ℕ, ◌-◌, ◌^◌, List, [], ◌∷◌, ◌++◌, nat_lt, if◌then◌else◌}
use Rattle.byteorder.specs.Endian.{big_bytes}

abbrev pub message : ℕ → ℕ → List ℕ → List ℕ
message kind size body = big_bytes 16 (2 ^ 128 - 1) ++ (big_bytes 2 size ++ (kind ∷ body))

-- the field of two octets has AS_TRANS (RFC 6793, 9) where the number doesn't fit
abbrev pub short_asn : ℕ → ℕ
short_asn asn = if nat_lt asn (2 ^ 16) then asn else 23456

-- Multiprotocol routes (RFC 4760, 8) of IPv4 unicast and of IPv6 unicast, and four-octet numbers (RFC 6793, 3): each of code, length and
-- value.
abbrev pub capabilities : ℕ → List ℕ
capabilities asn = 1 ∷ 4 ∷ 0 ∷ 1 ∷ 0 ∷ 1 ∷ (1 ∷ 4 ∷ 0 ∷ 2 ∷ 0 ∷ 1 ∷ (65 ∷ 4 ∷ big_bytes 4 asn))

-- OPEN (RFC 4271, 4.2): version, autonomous system, hold time, identifier, and one parameter of type 2 with the capabilities
unfoldable pub open_spelling : ℕ → ℕ → ℕ → List ℕ
open_spelling asn hold id =
    message 1 49 (4 ∷ (big_bytes 2 (short_asn asn) ++ (big_bytes 2 hold ++ (big_bytes 4 id ++ (20 ∷ 2 ∷ 18 ∷ capabilities asn)))))

unfoldable pub keepalive_spelling : List ℕ
keepalive_spelling = message 4 19 []

-- NOTIFICATION (4.5) without data
unfoldable pub notification_spelling : ℕ → ℕ → List ℕ
notification_spelling code subcode = message 3 21 (code ∷ subcode ∷ [])
