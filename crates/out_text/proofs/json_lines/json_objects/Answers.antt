use Rattle.std.proofs.Common.{◌∙◌, ap}
use Rattle.out_text.specs.Plain.{are_plain_entries}
use Rattle.out_text.specs.Rows.{entries_of}
use Rattle.out_text.proofs.RowLemmas.{plain_row}
use Rattle.out_text.proofs.json_lines.json_objects.Goals as goal

pub append_object-requires : goal.append_object-requires
append_object-requires c =
    ap are_plain_entries (ap entries_of c.as_slice.ensures ∙ c.in_ok-row_entries.ensures.entries) ∙ plain_row c.args.primitives.now _ c.in_ok-row_entries.ensures.plain
