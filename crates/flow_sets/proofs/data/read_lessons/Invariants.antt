use Rattle.std.proofs.Common.{◌≤◌, length}
use Rattle.flow_templates.specs.Known.{Known}
use Rattle.flow_sets.specs.Layout.{Serves}
use Rattle.flow_sets.specs.Saying.{nothing_said, taught_alone}
use Rattle.flow_sets.proofs.DataLemmas.{Leads}
use Rattle.flow_sets.proofs.data.read_lessons.Given as goal

abbrev pub invariant-loop-rest : goal.invariant-loop-rest
invariant-loop-rest l = record {
  leads : (known : Known) → Leads l.domain known l.template l.octets nothing_said l.rest (taught_alone l.lessons);
  fits : length l.rest ≤ 65535;
  serves : Serves l.version l.template l.fixed l.layout;
}

abbrev pub decreases-loop-rest : goal.decreases-loop-rest
decreases-loop-rest l = length l.rest
