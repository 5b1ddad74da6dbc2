-- Entries whose text JSON and csv show as it is.
use Rattle.std.specs.Prelude.{Bool, List}
use Rattle.std.specs.List.{list_all}
use Rattle.acct_types.specs.Cells.{are_plain}
use Rattle.acct_types.specs.declared.cell.Cell.{Cell}
use Rattle.out_text.specs.declared.field.Field.{Field}
use Rattle.out_text.specs.Lines.{cell_text}

abbrev pub is_plain_cell : Cell → Bool
is_plain_cell cell = are_plain (cell_text cell)

abbrev pub are_plain_entries : List (Field × Cell) → Bool
are_plain_entries entries = list_all (λ e. is_plain_cell e.1) entries
