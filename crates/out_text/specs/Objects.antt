-- Entries as an object of JSON on a line.
use Rattle.std.specs.Prelude.{ℕ, ◌^◌, if◌then◌else◌, nat_lt, List, [], ◌∷◌, ◌++◌, codes, decimal, map}
use Rattle.std.specs.Cmp.Lexicographic.{slice_cmp}
use Rattle.std.specs.List.Sorted.{IsPermutation, IsStrictlySortedBy}
use Rattle.std.specs.Ordering.{match_ordering, nat_cmp}
use Rattle.acct_types.specs.declared.cell.Cell.{Cell}
use Rattle.acct_types.specs.declared.cell.Cell.TheVariants as cell
use Rattle.acct_types.specs.declared.flow.Counts.{Counts}
use Rattle.acct_types.specs.declared.primitives.Primitives.{Primitives}
use Rattle.out_text.specs.declared.field.Field.{Field}
use Rattle.out_text.specs.Headings.{json_name_of}
use Rattle.out_text.specs.Lines.{cell_text, joined}
use Rattle.out_text.specs.Rows.{row_entries}

abbrev pub in_quotes : List ℕ → List ℕ
in_quotes text = codes "\"" ++ text ++ codes "\""

-- Numbers of up to 64 bits are numbers. Greater ones are strings of their digits, and all other cells are strings.
unfoldable pub json_text : Cell → List ℕ
json_text (cell.Number n) = if nat_lt n (2 ^ 64) then decimal n else in_quotes (decimal n)
json_text cell = in_quotes (cell_text cell)

-- the name of a field, a colon and the cell
abbrev pub member_text : Field × Cell → List ℕ
member_text entry = in_quotes (json_name_of entry.0) ++ codes ":" ++ json_text entry.1

-- an entry in its place among others that are in the order of their names, instead of one with the same name
abbrev pub put_by_name : Field × Cell → List (Field × Cell) → List (Field × Cell)
put_by_name entry [] = entry ∷ []
put_by_name entry (other ∷ others) =
    match_ordering (slice_cmp nat_cmp (json_name_of entry.0) (json_name_of other.0))
    (entry ∷ other ∷ others) (entry ∷ others) (other ∷ put_by_name entry others)

-- entries in the alphabetical order of their names
abbrev pub by_name : List (Field × Cell) → List (Field × Cell)
by_name [] = []
by_name (entry ∷ entries) = put_by_name entry (by_name entries)

-- the members with commas between them, in braces, and a line feed
unfoldable pub json_line : List (Field × Cell) → List ℕ
json_line entries = codes "{" ++ joined (codes ",") (map member_text (by_name entries)) ++ codes "}\n"

-- the names of the members of each row ascend
abbrev pub NamesAscend : Type 0
NamesAscend = (p : Primitives) (row : List Cell × Counts) → IsStrictlySortedBy (slice_cmp nat_cmp) (map (λ e. json_name_of e.0) (by_name (row_entries p row)))

-- the members of each row are its entries
abbrev pub MembersAreEntries : Type 0
MembersAreEntries = (p : Primitives) (row : List Cell × Counts) → IsPermutation (row_entries p row) (by_name (row_entries p row))
