use Rattle.std.proofs.Common.{◌≡◌, length}
use Rattle.bgp_msg.specs.Paths.{is_path}
use Rattle.bgp_msg.proofs.paths.is_path.Given as goal

-- the segments so far are good
abbrev pub invariant-loop-rest : goal.invariant-loop-rest
invariant-loop-rest l = is_path l.wide l.octets ≡ is_path l.wide l.rest

abbrev pub decreases-loop-rest : goal.decreases-loop-rest
decreases-loop-rest l = length l.rest
