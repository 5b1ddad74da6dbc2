use Rattle.std.proofs.Common.{◌≡◌, ◌≤◌, ◌+◌, ◌*◌, ◌-◌, ◌^◌, All, length}
use Rattle.acct_types.specs.Counts.{IsBelow}
use Rattle.sflow_in.specs.Samples.{said_in, samples_of}
use Rattle.sflow_in.proofs.SampleLemmas.{with_said}
use Rattle.sflow_in.proofs.datagram.read_samples.Given as goal

-- what is said so far and by the samples that are left is what all of them say
abbrev pub invariant-loop-index : goal.invariant-loop-index
invariant-loop-index l = record {
  all : with_said l.decoded.rows l.decoded.notices l.index (samples_of l.exporter l.source_id (l.count - l.index) l.rest) ≡ said_in (samples_of l.exporter l.source_id l.count l.octets);
  few : 8 * length l.decoded.rows + length l.rest ≤ length l.octets;
  counts : All (λ row. IsBelow (2 ^ 64) row.flow.counts) l.decoded.rows;
}
