use Rattle.std.proofs.Common.{◌≡◌, ◌++◌, length}
use Rattle.std.specs.Prelude.{None, map}
use Rattle.acct_types.specs.Updates.{route_view}
use Rattle.bgp_msg.specs.Prefixes.{bad_prefix, prefixes_in}
use Rattle.bgp_msg.specs.Routes.{routes}
use Rattle.bgp_msg.proofs.prefixes.read_routes.Given as goal

-- the routes so far and those of the rest are all of them
abbrev pub invariant-loop-rest : goal.invariant-loop-rest
invariant-loop-rest l = record {
  all : map route_view l.announced.items ++ routes l.next_hop (prefixes_in l.family l.rest) ≡ map route_view l.fn.announced.items ++ routes l.next_hop (prefixes_in l.family l.octets);
  good : bad_prefix l.family 0 l.rest ≡ None;
}

abbrev pub decreases-loop-rest : goal.decreases-loop-rest
decreases-loop-rest l = length l.rest
