use Rattle.std.proofs.Common.{◌≡◌, ◌++◌, length}
use Rattle.std.specs.Prelude.{None, map}
use Rattle.acct_types.specs.Updates.{nlri_view}
use Rattle.bgp_msg.specs.Prefixes.{bad_prefix, prefixes_in}
use Rattle.bgp_msg.proofs.prefixes.read_prefixes.Given as goal

-- the prefixes so far and those of the rest are all of them
abbrev pub invariant-loop-rest : goal.invariant-loop-rest
invariant-loop-rest l = record {
  all : map nlri_view l.names.items ++ prefixes_in l.family l.rest ≡ map nlri_view l.fn.names.items ++ prefixes_in l.family l.octets;
  good : bad_prefix l.family 0 l.rest ≡ None;
}

abbrev pub decreases-loop-rest : goal.decreases-loop-rest
decreases-loop-rest l = length l.rest
