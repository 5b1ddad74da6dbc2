-- Cells of keys.
use Rattle.std.specs.Prelude.{ℕ, ◌==◌, ◌&&◌, Bool, true, List, not, nat_lt}
use Rattle.std.specs.List.{list_all}
use Rattle.std.specs.Ordering.{eq_by_cmp, nat_cmp}
use Rattle.std.specs.Cmp.Lexicographic.{slice_cmp}
use Rattle.std.specs.declared.cmp.Ordering.{Ordering}
use Rattle.std.specs.declared.cmp.Ordering.TheVariants.{Less, Greater}
use Rattle.acct_types.specs.Order.{addr_cmp}
use Rattle.acct_types.specs.declared.cell.Cell.{Cell}
use Rattle.acct_types.specs.declared.cell.Cell.TheVariants as cell
use Rattle.acct_types.specs.declared.cell.CellRef.{CellRef}
use Rattle.acct_types.specs.declared.cell.CellRef.TheVariants as read

-- a printable character but space, comma, quote and backslash
abbrev pub is_plain : ℕ → Bool
is_plain c = nat_lt 32 c && (nat_lt c 127 && (not (c == 44) && (not (c == 34) && not (c == 92))))

-- plain words have plain characters alone
abbrev pub are_plain : List ℕ → Bool
are_plain words = list_all is_plain words

-- the words of a cell are plain
abbrev pub has_plain_words : Cell → Bool
has_plain_words (cell.Words words) = are_plain words
has_plain_words _ = true

-- the words of all cells are plain
abbrev pub have_plain_words : List Cell → Bool
have_plain_words cells = list_all has_plain_words cells

-- the cell that is read
abbrev pub cell_of : CellRef → Cell
cell_of (read.Number n) = cell.Number n
cell_of (read.Address a) = cell.Address a
cell_of (read.Mac m) = cell.Mac m
cell_of (read.Words words) = cell.Words words.now

-- Numbers before addresses, MAC addresses and words. Numbers and MAC addresses by value, addresses in their order, words
-- by their octets.
abbrev pub cell_cmp : Cell → Cell → Ordering
cell_cmp (cell.Number a) (cell.Number b) = nat_cmp a b
cell_cmp (cell.Number a) _ = Less
cell_cmp (cell.Address a) (cell.Number b) = Greater
cell_cmp (cell.Address a) (cell.Address b) = addr_cmp a b
cell_cmp (cell.Address a) _ = Less
cell_cmp (cell.Mac a) (cell.Mac b) = nat_cmp a b
cell_cmp (cell.Mac a) (cell.Words b) = Less
cell_cmp (cell.Mac a) _ = Greater
cell_cmp (cell.Words a) (cell.Words b) = slice_cmp nat_cmp a b
cell_cmp (cell.Words a) _ = Greater

-- keys by their cells, from the first to the last
abbrev pub key_cmp : List Cell → List Cell → Ordering
key_cmp a b = slice_cmp cell_cmp a b

-- whether two keys are the same: neither comes before the other
abbrev pub key_eq : List Cell → List Cell → Bool
key_eq a b = eq_by_cmp key_cmp a b
