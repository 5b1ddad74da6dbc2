use Rattle.std.proofs.Common.{◌≡◌, map, drop}
use Rattle.pretag_map.specs.Keys.{row_of, row_view}
use Rattle.pretag_map.proofs.keys.find_row.Given as goal

abbrev pub invariant-loop-row : goal.invariant-loop-row
invariant-loop-row l = row_of (map row_view (drop l.row-index l.rows)) l.name ≡ row_of (map row_view l.rows) l.name
