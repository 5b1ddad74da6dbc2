-- Paths (RFC 4271, 4.3, and RFC 6793, 3): segments of type (1 octet), count (1) and so many numbers. Type 1 is a set and 2 a sequence; 3 and 4
-- are those of confederations (RFC 5065, 3), which are left out. AS_PATH and AS4_PATH are read alike.
use Rattle.std.specs.Prelude.{ℕ, zero, suc, ◌+◌, ◌-◌, ◌*◌, ◌==◌, ◌&&◌, Bool, nat_le, List, [], ◌∷◌, ◌++◌, length, take, drop, map, slice_index, if◌then◌else◌}
use Rattle.std.specs.List.{list_all}
use Rattle.acct_types.specs.Numbers.{number_at}
use Rattle.acct_types.specs.declared.route.Hop.{Hop}
use Rattle.acct_types.specs.declared.route.Hop.TheVariants.{One, Set}
use Rattle.bgp_msg.specs.Pieces.{pieces}

-- numbers of this width, one behind another
abbrev pub numbers_of : ℕ → ℕ → List ℕ → List ℕ
numbers_of width zero octets = []
numbers_of width (suc count) octets = number_at octets 0 width ∷ numbers_of width count (drop width octets)

-- the octets of a number
abbrev pub number_width : Bool → ℕ
number_width wide = if wide then 4 else 2

abbrev pub segment_type : List ℕ → ℕ
segment_type segment = slice_index segment 0

abbrev pub segment_count : List ℕ → ℕ
segment_count segment = slice_index segment 1

unfoldable pub segment_size : Bool → List ℕ → ℕ
segment_size wide octets = 2 + number_width wide * segment_count octets

-- it isn't cut, isn't empty, and its type is known
unfoldable pub is_segment : Bool → List ℕ → Bool
is_segment wide segment =
    nat_le (segment_size wide segment) (length segment) && nat_le 1 (segment_count segment) && nat_le 1 (segment_type segment) && nat_le (segment_type segment) 4

abbrev pub are_segments : Bool → List (List ℕ) → Bool
are_segments wide segments = list_all (is_segment wide) segments

abbrev pub is_path : Bool → List ℕ → Bool
is_path wide octets = are_segments wide (pieces (segment_size wide) octets)

abbrev pub segment_numbers : Bool → List ℕ → List ℕ
segment_numbers wide segment = numbers_of (number_width wide) (segment_count segment) (drop 2 segment)

unfoldable pub hops_of : Bool → List ℕ → List Hop
hops_of wide segment =
    if segment_type segment == 1 then Set (segment_numbers wide segment) ∷ []
    else (if segment_type segment == 2 then map One (segment_numbers wide segment)
    else [])

abbrev pub all_hops : Bool → List (List ℕ) → List Hop
all_hops wide [] = []
all_hops wide (segment ∷ others) = hops_of wide segment ++ all_hops wide others

abbrev pub path_of : Bool → List ℕ → List Hop
path_of wide octets = all_hops wide (pieces (segment_size wide) octets)

-- The path whose last hops are replaced by those of another, where that isn't longer (RFC 6793, 4.2.3).
unfoldable pub replaced : List Hop → List Hop → List Hop
replaced path later = if nat_le (length later) (length path) then take (length path - length later) path ++ later else path
