use Rattle.std.proofs.Common.{◌≡◌, ◌≤◌, ◌-◌, ◌++◌, length}
use Rattle.flow_templates.specs.Templates.{fields_length, fields_of}
use Rattle.flow_templates.proofs.reading.read_fields.Given as goal

-- the fields so far and those of the rest are all of them
abbrev pub invariant-loop : goal.invariant-loop
invariant-loop l = record {
  all : l.fields.items ++ fields_of l.version (l.count - l.counter) l.rest ≡ fields_of l.version l.count l.octets;
  count : length l.fields.items ≡ l.counter;
  room : fields_length l.version (l.count - l.counter) l.rest ≤ length l.rest;
}
