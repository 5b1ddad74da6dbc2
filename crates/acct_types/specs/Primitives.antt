-- What primitives ask for.
use Rattle.std.specs.Prelude.{ℕ, ◌==◌, Bool, List}
use Rattle.std.specs.Int.{bit_at}
use Rattle.std.specs.List.{filter}
use Rattle.acct_types.specs.Columns.{all_columns, place_of}
use Rattle.acct_types.specs.declared.primitives.Column.{Column}
use Rattle.acct_types.specs.declared.primitives.Primitives.{Primitives}

-- the bit of this column is set
abbrev pub is_set : ℕ → Column → Bool
is_set set column = bit_at set (place_of column) == 1

-- the columns that are asked for, in their order
abbrev pub columns_of : Primitives → List Column
columns_of primitives = filter (λ column. is_set primitives.set column) all_columns
