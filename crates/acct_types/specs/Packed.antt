-- Cells packed into octets: a tag, and then octets that tell where they end. Octet by octet, packed cells compare as the cells do.
use Rattle.std.specs.Prelude.{◌≡◌, ◌+◌, ◌<◌, ◌^◌, ◌==◌, Bool, ℕ, zero, suc, true, List, [], ◌∷◌, ◌++◌, length, drop, nat_lt, slice_index, if◌then◌else◌}
use Rattle.std.specs.Int.{w16, w32, w64, w128, to_be_bytes}
use Rattle.std.specs.List.{before_first, flat_map, position_or_len}
use Rattle.acct_types.specs.declared.addr.Addr.TheVariants.{V4, V6}
use Rattle.acct_types.specs.declared.cell.Cell.{Cell}
use Rattle.acct_types.specs.declared.cell.Cell.TheVariants as cell
use Rattle.acct_types.specs.AddrText.{AddrFits}
use Rattle.acct_types.specs.Cells.{are_plain}
use Rattle.acct_types.specs.Numbers.{number_at}

-- 0 and one octet, 1 and two, 2 and four, or 3 and eight: the fewest that hold the number, the highest first
unfoldable pub packed_number : ℕ → List ℕ
packed_number n =
    if nat_lt n (2 ^ 8) then 0 ∷ n ∷ [] else
    if nat_lt n (2 ^ 16) then 1 ∷ to_be_bytes w16 n else
    if nat_lt n (2 ^ 32) then 2 ∷ to_be_bytes w32 n else 3 ∷ to_be_bytes w64 n

-- A number; 4 and the octets of an IPv4 address, 5 and those of an IPv6 address, 6 and those of a MAC address; or 7, words,
-- and 0, which no word has.
unfoldable pub packed_cell : Cell → List ℕ
packed_cell (cell.Number n) = packed_number n
packed_cell (cell.Address (V4 n)) = 4 ∷ to_be_bytes w32 n
packed_cell (cell.Address (V6 n)) = 5 ∷ to_be_bytes w128 n
packed_cell (cell.Mac m) = 6 ∷ to_be_bytes w64 m
packed_cell (cell.Words words) = 7 ∷ words ++ 0 ∷ []

-- the cells, one after another
abbrev pub packed : List Cell → List ℕ
packed cells = flat_map packed_cell cells

-- the octet at the end of words
abbrev pub ends_words : ℕ → Bool
ends_words octet = octet == 0

-- the cell that a tag and the octets after it begin with, and how many octets after the tag it has
unfoldable pub first_cell : ℕ → List ℕ → Cell × ℕ
first_cell tag octets =
    if tag == 0 then (cell.Number (slice_index octets 0), 1) else
    if tag == 1 then (cell.Number (number_at octets 0 2), 2) else
    if tag == 2 then (cell.Number (number_at octets 0 4), 4) else
    if tag == 3 then (cell.Number (number_at octets 0 8), 8) else
    if tag == 4 then (cell.Address (V4 (number_at octets 0 4)), 4) else
    if tag == 5 then (cell.Address (V6 (number_at octets 0 16)), 16) else
    if tag == 6 then (cell.Mac (number_at octets 0 8), 8) else
    (cell.Words (before_first ends_words octets), position_or_len ends_words octets + 1)

-- at most so many cells that stand in the octets
unfoldable pub cells_within : ℕ → List ℕ → List Cell
cells_within zero octets = []
cells_within (suc most) [] = []
cells_within (suc most) (tag ∷ octets) =
    (first_cell tag octets).0 ∷ cells_within most (drop (first_cell tag octets).1 octets)

-- the cells that stand in the octets
unfoldable pub cells_in : List ℕ → List Cell
cells_in octets = cells_within (length octets) octets

-- what a cell has is no larger than its type allows, and words are plain
abbrev pub CellFits : Cell → Type 0
CellFits (cell.Number n) = n < 2 ^ 64
CellFits (cell.Address address) = AddrFits address
CellFits (cell.Mac m) = m < 2 ^ 64
CellFits (cell.Words words) = are_plain words ≡ true

-- each cell fits
abbrev pub CellsFit : List Cell → Type 0
CellsFit [] = Unit {0}
CellsFit (first ∷ rest) = CellFits first × CellsFit rest

-- octets are those of cells
pub record IsPacked (octets : List ℕ) : Type 0 where
  pub whole : packed (cells_in octets) ≡ octets
  pub fit : CellsFit (cells_in octets)
