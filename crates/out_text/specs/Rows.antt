-- The fields of a row, and those of the header.
use Rattle.std.specs.Prelude.{List, [], ◌∷◌, ◌++◌, Bool, drop, map, if◌then◌else◌}
use Rattle.acct_types.specs.declared.cell.Cell.{Cell}
use Rattle.acct_types.specs.declared.cell.Cell.TheVariants as cell
use Rattle.acct_types.specs.declared.flow.Counts.{Counts}
use Rattle.acct_types.specs.declared.primitives.Column.{Column}
use Rattle.acct_types.specs.declared.primitives.Primitives.{Primitives}
use Rattle.acct_types.specs.Cells.{cell_of}
use Rattle.acct_types.specs.Primitives.{columns_of}
use Rattle.out_text.specs.declared.field.Field.{Field}
use Rattle.out_text.specs.declared.field.Field.TheVariants as field
use Rattle.out_text.specs.declared.row.Shown.{Shown}
use Rattle.out_text.specs.declared.row.Shown.TheVariants as shown
use Rattle.out_text.specs.declared.row.Entry.{Entry}
use Rattle.out_text.specs.Headings.{name_of}

-- the first cell, or empty words where there is none
abbrev pub first_cell : List Cell → Cell
first_cell [] = cell.Words []
first_cell (cell ∷ cells) = cell

-- The columns with the cells of a key. Cells past the columns are left out, and a column without a cell has empty words.
abbrev pub under_columns : List Column → List Cell → List (Field × Cell)
under_columns [] cells = []
under_columns (column ∷ columns) cells = (field.Column column, first_cell cells) ∷ under_columns columns (drop 1 cells)

-- the counts, as numbers
abbrev pub count_entries : Bool → Counts → List (Field × Cell)
count_entries flows counts =
    (field.Packets, cell.Number counts.packets)
    ∷ (if flows then (field.Flows, cell.Number counts.flows) ∷ [] else [])
    ++ (field.Bytes, cell.Number counts.bytes) ∷ []

-- what a row has in each field
unfoldable pub row_entries : Primitives → List Cell × Counts → List (Field × Cell)
row_entries p row = under_columns (columns_of p) row.0 ++ count_entries p.flows row.1

-- the counts that a row has
abbrev pub count_fields : Bool → List Field
count_fields flows = field.Packets ∷ (if flows then field.Flows ∷ [] else []) ++ field.Bytes ∷ []

-- the fields of a row in their order
abbrev pub fields_of : Primitives → List Field
fields_of p = map field.Column (columns_of p) ++ count_fields p.flows

-- a field with its name
abbrev pub name_entry : Field → Field × Cell
name_entry field = (field, cell.Words (name_of field))

-- the fields with their names
unfoldable pub header_entries : Primitives → List (Field × Cell)
header_entries p = map name_entry (fields_of p)

-- what is shown, as a cell
abbrev pub shown_cell : Shown → Cell
shown_cell (shown.Cell c) = cell_of c
shown_cell (shown.Count n) = cell.Number n

abbrev pub entry_of : Entry → Field × Cell
entry_of e = (e.field, shown_cell e.shown)

abbrev pub entries_of : List Entry → List (Field × Cell)
entries_of entries = map entry_of entries
