-- The members that `serde_json` writes for entries.
use Rattle.std.specs.Prelude.{ℕ, ◌^◌, List, [], ◌∷◌, Option, Some, None, nat_lt, if◌then◌else◌}
use Rattle.serde_json.specs.Data.{Data, number, unsigned, string, Members, no_members, member}
use Rattle.acct_types.specs.declared.cell.Cell.{Cell}
use Rattle.acct_types.specs.declared.cell.Cell.TheVariants as cell
use Rattle.out_text.specs.declared.field.Field.{Field}
use Rattle.out_text.specs.Headings.{json_name_of}
use Rattle.out_text.specs.Lines.{cell_text}

-- the number of a cell, where it has 64 bits at most
abbrev pub number_in : Cell → Option ℕ
number_in (cell.Number n) = if nat_lt n (2 ^ 64) then Some n else None
number_in _ = None

-- a number, or else a string
abbrev pub number_or_string : Option ℕ → List ℕ → Data
number_or_string (Some n) text = number (unsigned n)
number_or_string None text = string text

abbrev pub data_of : Cell → Data
data_of cell = number_or_string (number_in cell) (cell_text cell)

abbrev pub members_in : List (Field × Cell) → Members
members_in [] = no_members
members_in (entry ∷ entries) = member (json_name_of entry.0) (data_of entry.1) (members_in entries)
