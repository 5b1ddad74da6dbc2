use Rattle.std.proofs.Common.{◌≡◌, length}
use Rattle.std.specs.Prelude.{None}
use Rattle.std.specs.Option.{option_or}
use Rattle.bgp_msg.specs.Items.{items}
use Rattle.bgp_msg.specs.Opens.{parameters_fault, told_in}
use Rattle.bgp_msg.proofs.open.told_in.Given as goal

abbrev pub invariant-loop-rest : goal.invariant-loop-rest
invariant-loop-rest l = record {
  all : option_or (told_in (items l.rest)) l.told ≡ told_in (items l.octets);
  good : parameters_fault 29 (items l.rest) ≡ None;
}

abbrev pub decreases-loop-rest : goal.decreases-loop-rest
decreases-loop-rest l = length l.rest
