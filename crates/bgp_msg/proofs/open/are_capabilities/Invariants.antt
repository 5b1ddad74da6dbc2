use Rattle.std.proofs.Common.{◌≡◌, length}
use Rattle.bgp_msg.specs.Items.{items}
use Rattle.bgp_msg.specs.Opens.{are_capabilities}
use Rattle.bgp_msg.proofs.open.are_capabilities.Given as goal

abbrev pub invariant-loop-rest : goal.invariant-loop-rest
invariant-loop-rest l = are_capabilities (items l.octets) ≡ are_capabilities (items l.rest)

abbrev pub decreases-loop-rest : goal.decreases-loop-rest
decreases-loop-rest l = length l.rest
