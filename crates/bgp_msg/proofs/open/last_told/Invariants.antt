use Rattle.std.proofs.Common.{◌≡◌, true, length}
use Rattle.std.specs.Option.{option_or}
use Rattle.bgp_msg.specs.Items.{items}
use Rattle.bgp_msg.specs.Opens.{are_capabilities, last_told}
use Rattle.bgp_msg.proofs.open.last_told.Given as goal

abbrev pub invariant-loop-rest : goal.invariant-loop-rest
invariant-loop-rest l = record {
  all : option_or (last_told (items l.rest)) l.told ≡ last_told (items l.octets);
  good : are_capabilities (items l.rest) ≡ true;
}

abbrev pub decreases-loop-rest : goal.decreases-loop-rest
decreases-loop-rest l = length l.rest
