use Rattle.std.proofs.Common.{◌≡◌, ◌++◌, length}
use Rattle.acct_types.specs.Primitives.{columns_of}
use Rattle.out_text.specs.Rows.{entries_of, under_columns}
use Rattle.out_text.proofs.row.push_cells.Given as goal

abbrev pub invariant-loop-column : goal.invariant-loop-column
invariant-loop-column l = entries_of l.entries ++ under_columns (columns_of l.columns) l.cells ≡ entries_of l.fn.entries ++ under_columns (columns_of l.primitives) l.key

abbrev pub decreases-loop-column : goal.decreases-loop-column
decreases-loop-column l = length (columns_of l.columns)
