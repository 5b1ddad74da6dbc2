-- How sFlow version 5 lays out its parts, in XDR (RFC 4506): numbers have four octets, and opaque octets are padded to a multiple of four.
use Rattle.std.specs.Prelude.{ℕ, zero, suc, ◌+◌, ◌*◌, ◌/◌, ◌==◌, ◌||◌, Bool, nat_lt, List, [], ◌∷◌, length, take, drop, Result, Ok, Err, if◌then◌else◌}
use Rattle.acct_types.specs.Numbers.{number_at}
use Rattle.flow_templates.specs.declared.refusal.Cause.{Cause}

-- the octets that so many opaque ones take (RFC 4506, 4.10)
abbrev pub padded : ℕ → ℕ
padded count = (count + 3) / 4 * 4

-- the octets of an address of this type: 0 is none, 1 is IPv4, 2 is IPv6
abbrev pub address_width : ℕ → ℕ
address_width kind = if kind == 0 then 0 else (if kind == 1 then 4 else 16)

-- A piece, which is a sample or a record of one: its format (4 octets), its length (4), and so many octets, padded.
abbrev pub format_of : List ℕ → ℕ
format_of octets = number_at octets 0 4

abbrev pub body_length : List ℕ → ℕ
body_length octets = number_at octets 4 4

-- the piece at the front passes the end
unfoldable pub is_cut : List ℕ → Bool
is_cut octets = nat_lt (length octets) 8 || nat_lt (length octets) (8 + padded (body_length octets))

unfoldable pub body_of : List ℕ → List ℕ
body_of octets = take (body_length octets) (drop 8 octets)

-- what follows the piece at the front
unfoldable pub rest_of : List ℕ → List ℕ
rest_of octets = drop (8 + padded (body_length octets)) octets

-- what stands before others, each of which may be refused: the first cause counts
abbrev pub before : {T : Type 0} → Result T Cause → Result (List T) Cause → Result (List T) Cause
before (Err cause) others = Err cause
before (Ok one) (Err cause) = Err cause
before (Ok one) (Ok others) = Ok (one ∷ others)

-- As many pieces as are counted, each read by its format and its body. The first cause refuses them all: `cut` where a piece passes the
-- end, or that for which its reading is refused.
abbrev pub pieces : {T : Type 0} → Cause → (ℕ → List ℕ → Result T Cause) → ℕ → List ℕ → Result (List T) Cause
pieces cut read zero octets = Ok []
pieces cut read (suc count) octets =
    if is_cut octets then Err cut
    else before (read (format_of octets) (body_of octets)) (pieces cut read count (rest_of octets))
