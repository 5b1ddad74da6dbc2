use Rattle.std.proofs.Common.{◌≡◌, ◌≤◌, ◌-◌, ◌+◌, ◌*◌, length}
use Rattle.std.specs.List.{list_all}
use Rattle.flow_templates.specs.Elements.{is_allowed}
use Rattle.flow_templates.specs.Templates.{fields_length, fields_of, judged_fields, least_length}
use Rattle.flow_templates.proofs.reading.judge_fields.Given as goal

-- the fields of the rest decide, and have the rest of the octets
abbrev pub invariant-loop-index : goal.invariant-loop-index
invariant-loop-index l = record {
  widths : list_all (is_allowed l.version) (judged_fields l.version (l.scope - l.index) (fields_of l.version (l.count - l.index) l.rest))
      ≡ list_all (is_allowed l.version) (judged_fields l.version l.scope (fields_of l.version l.count l.octets));
  least : l.least + least_length l.version (fields_of l.version (l.count - l.index) l.rest) ≡ least_length l.version (fields_of l.version l.count l.octets);
  few : l.least ≤ 65535 * l.index;
  room : fields_length l.version (l.count - l.index) l.rest ≤ length l.rest;
}
