use Rattle.std.proofs.Common.{◌≡◌, ◌≤◌, ◌*◌, ◌+◌, drop}
use Rattle.flow_templates.specs.Templates.{least_length}
use Rattle.flow_templates.proofs.template.least_length_of.Given as goal

-- the octets so far and those of the fields that are left are all of them
abbrev pub invariant-loop-field : goal.invariant-loop-field
invariant-loop-field l = record {
  all : l.octets + least_length l.version (drop l.field-index l.fields) ≡ least_length l.version l.fields;
  few : l.octets ≤ 65535 * l.field-index;
}
