use Rattle.std.proofs.Common.{◌≡◌, map, take}
use Rattle.std.specs.Io.KnownBytes.{Appends}
use Rattle.csv.specs.Writing.{fields_written, row_body, text_written, writer_setup}
use Rattle.out_text.proofs.CsvLemmas.{entry_text, row_setup}
use Rattle.out_text.proofs.csv_lines.write_line.Given as goal

abbrev pub invariant-loop-entry : goal.invariant-loop-entry
invariant-loop-entry g l = record {
  setup : writer_setup l.writer ≡ row_setup;
  count : fields_written l.writer ≡ l.entry-index;
  text : Appends (text_written g.W.Write.contents l.fn.writer) (text_written g.W.Write.contents l.writer) (row_body row_setup (map entry_text (take l.entry-index l.entries)));
}
