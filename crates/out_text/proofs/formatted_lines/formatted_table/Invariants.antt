use Rattle.std.proofs.Common.{◌≡◌, ◌++◌, take}
use Rattle.out_text.specs.Lines.{formatted_line}
use Rattle.out_text.specs.Purges.{row_lines}
use Rattle.out_text.specs.Rows.{header_entries}
use Rattle.out_text.proofs.formatted_lines.formatted_table.Given as goal

abbrev pub invariant-loop-row : goal.invariant-loop-row
invariant-loop-row l = l.text ≡ formatted_line (header_entries l.primitives) ++ row_lines formatted_line l.primitives (take l.row-index l.rows)
