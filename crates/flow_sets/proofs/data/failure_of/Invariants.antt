use Rattle.std.proofs.Common.{◌≤◌, length}
use Rattle.flow_templates.specs.Decoding.{Said}
use Rattle.flow_templates.specs.Known.{Known}
use Rattle.flow_sets.specs.Saying.{nothing_said}
use Rattle.flow_sets.proofs.DataLemmas.{Leads}
use Rattle.flow_sets.proofs.data.failure_of.Given as goal

-- the records so far say something
abbrev pub invariant-loop-rest : goal.invariant-loop-rest
invariant-loop-rest l = record {
  leads : (known : Known) → (now : Said) × Leads l.domain known l.template l.octets nothing_said l.rest now;
  fits : length l.rest ≤ 65535;
}

abbrev pub decreases-loop-rest : goal.decreases-loop-rest
decreases-loop-rest l = length l.rest
