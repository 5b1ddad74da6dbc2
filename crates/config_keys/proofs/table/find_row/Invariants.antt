use Rattle.std.proofs.Common.{◌≡◌, map, drop}
use Rattle.std.specs.Prelude.{find}
use Rattle.std.specs.Str.{bytes_eq}
use Rattle.config_keys.specs.Table.{row_of, row_view}
use Rattle.config_keys.proofs.table.find_row.Given as goal

abbrev pub invariant-loop-row : goal.invariant-loop-row
invariant-loop-row l = find (λ row. bytes_eq row.name l.key) (map row_view (drop l.row-index l.row-items)) ≡ row_of l.key
