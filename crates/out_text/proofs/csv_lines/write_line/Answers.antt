use Rattle.std.proofs.Common.{rules, ◌≡◌, ◌≢◌, ◌∙◌, ◌+◌, ◌-◌, ◌^◌, ◌≤◌, arith, length, take}
use Rattle.std.proofs.lemmas.List.{take_all}
use Rattle.csv.specs.declared.writer.QuoteStyle.TheVariants as style
use Rattle.csv.proofs.WriteFacts.{appends-more}
use Rattle.acct_types.specs.declared.cell.CellRef.TheVariants as read
use Rattle.acct_types.specs.declared.primitives.Column.TheVariants as column
use Rattle.out_text.specs.declared.field.Field.TheVariants as field
use Rattle.out_text.specs.declared.row.Entry.{Entry}
use Rattle.out_text.specs.declared.row.Shown.TheVariants as shown
use Rattle.out_text.proofs.CsvLemmas.{after_nothing, csv_line_is, field_more}
use Rattle.out_text.proofs.csv_lines.write_line.Goals as goal
use Rattle.out_text.proofs.csv_lines.write_line.Goals.{in-Ok-end_record, in-Err}

pub loop-entry-preserved : goal.loop-entry-preserved
loop-entry-preserved g c =
    let e = c.in-Ok.ensures in
    let kept = c.loop-entry.invariant in
    let some : Entry = record { field = field.Column column.Tag; shown = shown.Cell (read.Number 0) } in
    let plain : c.loop-entry.writer.cfg.style ≢ style.NonNumeric = rw kept.setup (λ x. cc x) in
    let room : c.loop-entry.entry-index + 1 ≤ 2 ^ 64 - 1 = search rules in
    let cell = after_nothing _ _ _ (c.as_slice.ensures ∙ c.in_ok-append_text.ensures) c.truncate.ensures in
    let text = rw (kept.setup, kept.count, cell) at (e.text plain) in
    record {
      setup = e.same ∙ kept.setup;
      count = e.count ∙ rw kept.count (omega arith);
      text = rw (field_more c.args.entries.now c.loop-entry.entry-index some c.loop-entry-test.true) (appends-more _ _ _ _ _ kept.text text);
    }

pub returns-clause-text : goal.returns-clause-text
returns-clause-text g c =
    let kept = c.loop-entry.invariant in
    let entries = c.args.entries.now in
    let all : take c.loop-entry.entry-index entries ≡ entries = take_all c.loop-entry.entry-index entries c.loop-entry-test.false in
    let end : c.loop-entry.entry-index ≡ length entries = omega arith in
    elim c.match-end_record.branch [
      | in-Ok-end_record w ↦
          let tail = rw (kept.setup, kept.count, end) at w.in-Ok-end_record.ensures.bytes in
          rw w.result-is (rw (csv_line_is c.loop-entry.writer.wrote entries c.requires.plain c.requires.many) at (appends-more _ _ _ _ _ (rw all at kept.text) tail))
      | in-Err w ↦ rw w.result-is tt
    ]
