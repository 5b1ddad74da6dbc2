use Rattle.std.proofs.Common.{◌≡◌, ◌++◌, take}
use Rattle.csv.specs.Writing.{fields_written, writer_pending, writer_setup, writer_under}
use Rattle.out_text.specs.Lines.{csv_line}
use Rattle.out_text.specs.Purges.{row_lines}
use Rattle.out_text.specs.Rows.{header_entries}
use Rattle.out_text.proofs.CsvLemmas.{row_setup}
use Rattle.out_text.proofs.csv_lines.csv_table.Given as goal

abbrev pub invariant-loop-row : goal.invariant-loop-row
invariant-loop-row l = record {
  setup : writer_setup l.writer ≡ row_setup;
  fresh : fields_written l.writer ≡ 0;
  text : (writer_under l.writer).items ++ writer_pending l.writer ≡ csv_line (header_entries l.primitives) ++ row_lines csv_line l.primitives (take l.row-index l.rows);
}
