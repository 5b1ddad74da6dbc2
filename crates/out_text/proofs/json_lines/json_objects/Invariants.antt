use Rattle.std.proofs.Common.{◌≡◌, take}
use Rattle.out_text.specs.Objects.{json_line}
use Rattle.out_text.specs.Purges.{row_lines}
use Rattle.out_text.proofs.json_lines.json_objects.Given as goal

abbrev pub invariant-loop-row : goal.invariant-loop-row
invariant-loop-row l = l.text ≡ row_lines json_line l.primitives (take l.row-index l.rows)
