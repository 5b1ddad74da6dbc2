-- The header of a message (RFC 4271, 4.1): marker (16 octets), length (2), type (1). What is wrong with it is RFC 4271, 6.1.
use Rattle.std.specs.Prelude.{ℕ, ◌-◌, ◌^◌, ◌==◌, ◌||◌, Bool, nat_lt, nat_le, List, length, slice_index, Option, Some, None, Result, Ok, Err, if◌then◌else◌, not}
use Rattle.acct_types.specs.Numbers.{number_at}
use Rattle.bgp_msg.specs.declared.message.BgpFault.{BgpFault}

abbrev pub fault : ℕ → ℕ → ℕ → BgpFault
fault code subcode place = record { code = code; subcode = subcode; place = place }

-- a fault of the header has code 1
abbrev pub header_error : ℕ → ℕ → BgpFault
header_error subcode place = fault 1 subcode place

-- the marker is all ones
abbrev pub has_marker : List ℕ → Bool
has_marker octets = number_at octets 0 16 == 2 ^ 128 - 1

abbrev pub length_of : List ℕ → ℕ
length_of octets = number_at octets 16 2

abbrev pub kind_of : List ℕ → ℕ
kind_of octets = slice_index octets 18

-- Type 1 is OPEN, of 29 octets at least; 2 is UPDATE, of 23; 3 is NOTIFICATION, of 21; 4 is KEEPALIVE, of 19 and no more.
abbrev pub fits_kind : ℕ → ℕ → Bool
fits_kind kind size =
    if kind == 1 then nat_le 29 size
    else (if kind == 2 then nat_le 23 size
    else (if kind == 3 then nat_le 21 size
    else size == 19))

-- what is wrong with the header, first
unfoldable pub header_fault : List ℕ → Option BgpFault
header_fault octets =
    if not (has_marker octets) then Some (header_error 1 0)
    else (if nat_lt (length_of octets) 19 || nat_lt 4096 (length_of octets) then Some (header_error 2 16)
    else (if nat_lt (kind_of octets) 1 || nat_lt 4 (kind_of octets) then Some (header_error 3 18)
    else (if not (fits_kind (kind_of octets) (length_of octets)) then Some (header_error 2 16)
    else None)))

-- the length of the message, where its header has no fault and it is whole
abbrev pub whole : List ℕ → Option BgpFault → Result (Option ℕ) BgpFault
whole octets (Some fault) = Err fault
whole octets None = if nat_lt (length octets) (length_of octets) then Ok None else Ok (Some (length_of octets))

-- The length of the message at the front, None where more octets are needed, or what is wrong with its header, which is judged once it is
-- there.
unfoldable pub framed : List ℕ → Result (Option ℕ) BgpFault
framed octets = if nat_lt (length octets) 19 then Ok None else whole octets (header_fault octets)
