use Rattle.std.proofs.Common.{◌≡◌, ◌≤◌, ◌+◌, length}
use Rattle.bgp_msg.specs.Attributes.{attribute_size}
use Rattle.bgp_msg.specs.Pieces.{pieces}
use Rattle.bgp_msg.proofs.AttributeLemmas.{Leads}
use Rattle.bgp_msg.proofs.ValueLemmas.{KeepsBefore}
use Rattle.bgp_msg.proofs.attributes.read_attributes.Given as goal

abbrev pub invariant-loop-rest : goal.invariant-loop-rest
invariant-loop-rest l = record {
  leads : Leads l.agreed l.start l.octets l.seen l.place l.rest;
  keeps : KeepsBefore l.values (pieces attribute_size l.rest) (pieces attribute_size l.octets);
  few : l.place + length l.rest ≤ 4096;
  all : length l.seen ≡ 256;
}

abbrev pub decreases-loop-rest : goal.decreases-loop-rest
decreases-loop-rest l = length l.rest
