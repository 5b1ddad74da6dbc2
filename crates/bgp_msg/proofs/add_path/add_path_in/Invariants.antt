use Rattle.std.proofs.Common.{◌≡◌, List, ℕ, length}
use Rattle.std.specs.Option.{option_or}
use Rattle.bgp_msg.specs.AddPaths.{said_of}
use Rattle.bgp_msg.specs.Items.{item_size, item_value, items}
use Rattle.bgp_msg.specs.Pieces.{last_of, pieces}
use Rattle.bgp_msg.proofs.add_path.add_path_in.Given as goal

abbrev pub invariant-loop-rest : goal.invariant-loop-rest
invariant-loop-rest l = option_or (last_of (λ (parameter : List ℕ). last_of (said_of l.family) (items (item_value parameter))) (pieces item_size l.rest)) l.said ≡ last_of (λ (parameter : List ℕ). last_of (said_of l.family) (items (item_value parameter))) (pieces item_size l.octets)

abbrev pub decreases-loop-rest : goal.decreases-loop-rest
decreases-loop-rest l = length l.rest
