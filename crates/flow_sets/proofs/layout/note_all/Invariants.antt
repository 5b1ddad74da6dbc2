use Rattle.std.proofs.Common.{◌≡◌, ◌≤◌, ℕ, drop, length}
use Rattle.std.specs.Option.{option_or}
use Rattle.flow_sets.specs.Fields.{end_of_all, span_in}
use Rattle.flow_sets.specs.Layout.{listed}
use Rattle.flow_sets.proofs.layout.note_all.Given as goal

-- the fields that are left end where all of them do, and what isn't noted yet is among them
abbrev pub invariant-loop-field : goal.invariant-loop-field
invariant-loop-field l = record {
  all : end_of_all l.version (drop l.field-index l.fields) l.octets l.end ≡ end_of_all l.version l.fields l.octets l.place;
  within : l.end ≤ length l.octets;
  noted : (element : ℕ) → option_or (listed l.spans element) (span_in l.version element (drop l.field-index l.fields) l.octets l.end)
      ≡ option_or (listed l.fn.spans element) (span_in l.version element l.fields l.octets l.place);
}
