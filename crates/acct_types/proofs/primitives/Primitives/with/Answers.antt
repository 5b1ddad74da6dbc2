use Rattle.std.proofs.Common.{◌∙◌, ap, ◌*◌, ◌%◌, ℕ, bit_or}
use Rattle.std.specs.Prelude.{◌^◌}
use Rattle.std.specs.List.{filter}
use Rattle.acct_types.specs.Columns.{all_columns}
use Rattle.acct_types.specs.Primitives.{is_set}
use Rattle.acct_types.proofs.ColumnLemmas.{one_more_set}
use Rattle.acct_types.proofs.primitives.Primitives.with.Goals as goal

pub returns-clause-columns : goal.returns-clause-columns
returns-clause-columns c =
    ap (λ (place : ℕ). filter (λ d. is_set (bit_or c.args.self.set (1 * 2 ^ place % 4294967296)) d) all_columns) c.place.ensures
    ∙ one_more_set c.args.self.set c.args.column
