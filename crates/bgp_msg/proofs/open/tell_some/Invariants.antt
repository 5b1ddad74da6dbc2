use Rattle.std.proofs.Common.{◌≡◌, true, length}
use Rattle.bgp_msg.specs.Items.{items}
use Rattle.bgp_msg.specs.Opens.{are_capabilities, tell_some}
use Rattle.bgp_msg.proofs.open.tell_some.Given as goal

abbrev pub invariant-loop-rest : goal.invariant-loop-rest
invariant-loop-rest l = record {
  all : tell_some (items l.octets) ≡ tell_some (items l.rest);
  good : are_capabilities (items l.rest) ≡ true;
}

abbrev pub decreases-loop-rest : goal.decreases-loop-rest
decreases-loop-rest l = length l.rest
