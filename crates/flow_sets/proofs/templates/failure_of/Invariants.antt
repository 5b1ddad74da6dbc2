use Rattle.std.proofs.Common.{length}
use Rattle.flow_templates.specs.Decoding.{Said}
use Rattle.flow_sets.specs.Saying.{nothing_said}
use Rattle.flow_sets.proofs.TemplateLemmas.{Leads}
use Rattle.flow_sets.proofs.templates.failure_of.Given as goal

-- the records so far say something
abbrev pub invariant-loop-rest : goal.invariant-loop-rest
invariant-loop-rest l = (now : Said) × Leads l.domain l.options l.octets nothing_said l.rest now

abbrev pub decreases-loop-rest : goal.decreases-loop-rest
decreases-loop-rest l = length l.rest
