use Rattle.std.proofs.Common.{◌≡◌, ◌≤◌, drop, length}
use Rattle.flow_sets.specs.Fields.{end_of_all}
use Rattle.flow_sets.proofs.fields.end_of_all.Given as goal

-- the fields that are left end where all of them do
abbrev pub invariant-loop-field : goal.invariant-loop-field
invariant-loop-field l = record {
  all : end_of_all l.version (drop l.field-index l.fields) l.octets l.end ≡ end_of_all l.version l.fields l.octets l.place;
  within : l.end ≤ length l.octets;
}
