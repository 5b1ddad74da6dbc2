use Rattle.std.proofs.Common.{◌≡◌, length}
use Rattle.std.specs.Option.{option_or}
use Rattle.bgp_msg.specs.AddPaths.{said_of}
use Rattle.bgp_msg.specs.Items.{item_size}
use Rattle.bgp_msg.specs.Pieces.{last_of, pieces}
use Rattle.bgp_msg.proofs.add_path.last_capability.Given as goal

abbrev pub invariant-loop-rest : goal.invariant-loop-rest
invariant-loop-rest l = option_or (last_of (said_of l.family) (pieces item_size l.rest)) l.said ≡ last_of (said_of l.family) (pieces item_size l.octets)

abbrev pub decreases-loop-rest : goal.decreases-loop-rest
decreases-loop-rest l = length l.rest
