use Rattle.std.proofs.Common.{◌≡◌, ◌++◌, true, length}
use Rattle.bgp_msg.specs.Paths.{is_path, path_of}
use Rattle.bgp_msg.proofs.paths.append_path.Given as goal

-- the hops so far and those of the rest are all of them
abbrev pub invariant-loop-rest : goal.invariant-loop-rest
invariant-loop-rest l = record {
  all : l.hops.items ++ path_of l.wide l.rest ≡ l.fn.hops.items ++ path_of l.wide l.octets;
  good : is_path l.wide l.rest ≡ true;
}

abbrev pub decreases-loop-rest : goal.decreases-loop-rest
decreases-loop-rest l = length l.rest
