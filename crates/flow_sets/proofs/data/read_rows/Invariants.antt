use Rattle.std.proofs.Common.{◌≡◌, ◌≤◌, ◌+◌, ◌^◌, length, All}
use Rattle.acct_types.specs.Counts.{IsBelow}
use Rattle.flow_templates.specs.Known.{known_after, known_in}
use Rattle.flow_sets.specs.Layout.{Serves}
use Rattle.flow_sets.specs.Rates.{rate_for}
use Rattle.flow_sets.specs.Saying.{so_far}
use Rattle.flow_sets.proofs.DataLemmas.{Leads}
use Rattle.flow_sets.proofs.data.read_rows.Given as goal

abbrev pub invariant-loop-rest : goal.invariant-loop-rest
invariant-loop-rest l = record {
  leads : Leads l.domain (known_after (known_in l.stores) l.staged) l.template l.octets (so_far l.fn.decoded l.staged) l.rest (so_far l.decoded l.staged);
  few : length l.decoded.rows + length l.rest ≤ length l.fn.decoded.rows + length l.octets;
  counts : All (λ row. IsBelow (2 ^ 64) row.flow.counts) l.decoded.rows;
  last : l.last.rate ≡ rate_for l.domain (known_after (known_in l.stores) l.staged) l.last.sampler;
  fits : length l.rest ≤ 65535;
  serves : Serves l.version l.template l.fixed l.layout;
}

abbrev pub decreases-loop-rest : goal.decreases-loop-rest
decreases-loop-rest l = length l.rest
