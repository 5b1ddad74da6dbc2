use Rattle.std.proofs.Common.{◌≡◌, ◌≤◌, ◌+◌, length}
use Rattle.bgp_msg.specs.Items.{items}
use Rattle.bgp_msg.specs.Opens.{parameters_fault}
use Rattle.bgp_msg.proofs.open.parameters_fault.Given as goal

abbrev pub invariant-loop-rest : goal.invariant-loop-rest
invariant-loop-rest l = record {
  all : parameters_fault l.place (items l.rest) ≡ parameters_fault l.start (items l.octets);
  few : l.place + length l.rest ≤ 4096;
}

abbrev pub decreases-loop-rest : goal.decreases-loop-rest
decreases-loop-rest l = length l.rest
