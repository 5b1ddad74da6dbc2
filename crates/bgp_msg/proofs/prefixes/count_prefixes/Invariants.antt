use Rattle.std.proofs.Common.{◌≡◌, ◌≤◌, ◌+◌, length}
use Rattle.bgp_msg.specs.Prefixes.{bad_prefix, prefixes_in}
use Rattle.bgp_msg.proofs.prefixes.count_prefixes.Given as goal

-- A prefix that is bad stands in the rest. The prefixes so far and those of the rest are all of them.
abbrev pub invariant-loop-rest : goal.invariant-loop-rest
invariant-loop-rest l = record {
  all : bad_prefix l.family l.place l.rest ≡ bad_prefix l.family 0 l.octets;
  number : l.count + length (prefixes_in l.family l.rest) ≡ length (prefixes_in l.family l.octets);
  few : l.count ≤ l.place;
  within : l.place + length l.rest ≡ length l.octets;
}

abbrev pub decreases-loop-rest : goal.decreases-loop-rest
decreases-loop-rest l = length l.rest
