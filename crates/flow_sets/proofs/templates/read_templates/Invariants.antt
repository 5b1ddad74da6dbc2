use Rattle.std.proofs.Common.{length}
use Rattle.flow_templates.specs.declared.decoded.RawDecoded.{RawDecoded}
use Rattle.flow_sets.specs.Saying.{so_far}
use Rattle.flow_sets.proofs.TemplateLemmas.{Leads}
use Rattle.flow_sets.proofs.templates.read_templates.Given as goal

abbrev pub invariant-loop-rest : goal.invariant-loop-rest
invariant-loop-rest l = (decoded : RawDecoded) → Leads l.domain l.options l.octets (so_far decoded l.fn.staged) l.rest (so_far decoded l.staged)

abbrev pub decreases-loop-rest : goal.decreases-loop-rest
decreases-loop-rest l = length l.rest
