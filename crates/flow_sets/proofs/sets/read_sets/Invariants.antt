use Rattle.std.proofs.Common.{◌≤◌, ◌+◌, ◌^◌, length, All}
use Rattle.acct_types.specs.Counts.{IsBelow}
use Rattle.flow_templates.specs.Known.{known_in}
use Rattle.flow_sets.specs.Saying.{so_far}
use Rattle.flow_sets.proofs.JoinLemmas.{IsFront}
use Rattle.flow_sets.proofs.SetLemmas.{Leads}
use Rattle.flow_sets.proofs.sets.read_sets.Given as goal

abbrev pub invariant-loop-rest : goal.invariant-loop-rest
invariant-loop-rest l = record {
  leads : Leads l.domain (known_in l.stores) l.octets l.number l.rest (so_far l.decoded l.staged);
  front : IsFront l.domain (known_in l.stores) l.octets l.number l.rest (so_far l.decoded l.staged);
  few : length l.decoded.rows + length l.rest ≤ length l.octets;
  counts : All (λ row. IsBelow (2 ^ 64) row.flow.counts) l.decoded.rows;
  fits : length l.rest ≤ 65535;
  number : l.number + length l.rest ≤ 65536;
}

abbrev pub decreases-loop-rest : goal.decreases-loop-rest
decreases-loop-rest l = length l.rest
