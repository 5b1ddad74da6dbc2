-- The text of a purge.
use Rattle.std.specs.Prelude.{ℕ, List, [], ◌∷◌, ◌++◌, flat_map}
use Rattle.acct_types.specs.declared.cell.Cell.{Cell}
use Rattle.acct_types.specs.declared.choice.Layout.{Layout}
use Rattle.acct_types.specs.declared.choice.Layout.TheVariants.{Formatted, Csv, Json}
use Rattle.acct_types.specs.declared.flow.Counts.{Counts}
use Rattle.acct_types.specs.declared.item.Purge.{Purge}
use Rattle.acct_types.specs.declared.primitives.Primitives.{Primitives}
use Rattle.out_text.specs.declared.field.Field.{Field}
use Rattle.out_text.specs.Rows.{header_entries, row_entries}
use Rattle.out_text.specs.Lines.{csv_line, formatted_line}
use Rattle.out_text.specs.Objects.{json_line}

-- a line for each row
abbrev pub row_lines : (List (Field × Cell) → List ℕ) → Primitives → List (List Cell × Counts) → List ℕ
row_lines line p rows = flat_map (λ row. line (row_entries p row)) rows

-- a header line and a line for each row, and nothing without a row
abbrev pub table_text : (List (Field × Cell) → List ℕ) → Primitives → List (List Cell × Counts) → List ℕ
table_text line p [] = []
table_text line p (row ∷ rows) = line (header_entries p) ++ row_lines line p (row ∷ rows)

-- A purge as it is written. Only the objects of JSON have no header.
unfoldable pub purge_text : Primitives → Layout → Purge → List ℕ
purge_text p Formatted purge = table_text formatted_line p purge.rows
purge_text p Csv purge = table_text csv_line p purge.rows
purge_text p Json purge = row_lines json_line p purge.rows
