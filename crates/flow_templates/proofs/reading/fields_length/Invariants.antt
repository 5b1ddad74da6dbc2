use Rattle.std.proofs.Common.{◌≡◌, ◌≤◌, ◌-◌, ◌+◌, ◌*◌, length}
use Rattle.flow_templates.specs.Templates.{fields_length}
use Rattle.flow_templates.proofs.reading.fields_length.Given as goal

-- the octets so far and those of the fields that are left are all of them
abbrev pub invariant-loop : goal.invariant-loop
invariant-loop l = record {
  all : l.used + fields_length l.version (l.count - l.counter) l.rest ≡ fields_length l.version l.count l.octets;
  rest : l.used + length l.rest ≡ length l.octets;
  few : l.used ≤ 8 * l.counter;
}
