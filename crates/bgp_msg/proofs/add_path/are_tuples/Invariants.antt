use Rattle.std.proofs.Common.{◌≡◌, length}
use Rattle.std.specs.List.{list_all}
use Rattle.bgp_msg.specs.AddPaths.{is_tuple, tuple_size}
use Rattle.bgp_msg.specs.Pieces.{pieces}
use Rattle.bgp_msg.proofs.add_path.are_tuples.Given as goal

abbrev pub invariant-loop-rest : goal.invariant-loop-rest
invariant-loop-rest l = list_all is_tuple (pieces tuple_size l.octets) ≡ list_all is_tuple (pieces tuple_size l.rest)

abbrev pub decreases-loop-rest : goal.decreases-loop-rest
decreases-loop-rest l = length l.rest
