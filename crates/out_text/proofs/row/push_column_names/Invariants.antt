use Rattle.std.proofs.Common.{◌≡◌, ◌++◌, length, map}
use Rattle.acct_types.specs.Primitives.{columns_of}
use Rattle.out_text.specs.Rows.{entries_of, name_entry}
use Rattle.out_text.specs.declared.field.Field.TheVariants as field
use Rattle.out_text.proofs.row.push_column_names.Given as goal

abbrev pub invariant-loop-column : goal.invariant-loop-column
invariant-loop-column l =
    entries_of l.entries ++ map name_entry (map field.Column (columns_of l.columns))
    ≡ entries_of l.fn.entries ++ map name_entry (map field.Column (columns_of l.primitives))

abbrev pub decreases-loop-column : goal.decreases-loop-column
decreases-loop-column l = length (columns_of l.columns)
