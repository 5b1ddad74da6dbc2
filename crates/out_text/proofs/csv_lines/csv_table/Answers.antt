use Rattle.std.proofs.Common.{◌∙◌, ◌≤◌, ap, length, subst, sym, ℕ}
use Rattle.std.proofs.lemmas.List.{length-map}
use Rattle.out_text.specs.Plain.{are_plain_entries}
use Rattle.out_text.specs.Rows.{entries_of, entry_of}
use Rattle.out_text.proofs.RowLemmas.{long_header, long_row, plain_header, plain_row}
use Rattle.out_text.proofs.csv_lines.csv_table.Goals as goal

pub write_line-requires-clause-plain : goal.write_line-requires-clause-plain
write_line-requires-clause-plain c = ap are_plain_entries (ap entries_of c.as_slice.ensures ∙ c.in_ok-header_entries.ensures) ∙ plain_header c.args.primitives.now

pub write_line-requires-clause-many : goal.write_line-requires-clause-many
write_line-requires-clause-many c =
    let size = sym (length-map c.as_slice.result.now entry_of) ∙ ap length (ap entries_of c.as_slice.ensures ∙ c.in_ok-header_entries.ensures) in
    subst (λ (n : ℕ). 2 ≤ n) (sym size) (long_header c.args.primitives.now)

pub write_line-requires-in-loop-row-clause-plain : goal.write_line-requires-in-loop-row-clause-plain
write_line-requires-in-loop-row-clause-plain c =
    ap are_plain_entries (ap entries_of c.as_slice-in-loop-row.ensures ∙ c.in_ok-row_entries.ensures.entries) ∙ plain_row c.args.primitives.now _ c.in_ok-row_entries.ensures.plain

pub write_line-requires-in-loop-row-clause-many : goal.write_line-requires-in-loop-row-clause-many
write_line-requires-in-loop-row-clause-many c =
    let size = sym (length-map c.as_slice-in-loop-row.result.now entry_of) ∙ ap length (ap entries_of c.as_slice-in-loop-row.ensures ∙ c.in_ok-row_entries.ensures.entries) in
    subst (λ (n : ℕ). 2 ≤ n) (sym size) (long_row c.args.primitives.now _)
