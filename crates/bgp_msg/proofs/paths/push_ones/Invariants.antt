use Rattle.std.proofs.Common.{◌≡◌, ◌≤◌, ◌-◌, ◌*◌, ◌++◌, length}
use Rattle.std.specs.Prelude.{map}
use Rattle.acct_types.specs.declared.route.Hop.TheVariants.{One}
use Rattle.bgp_msg.specs.Paths.{number_width, numbers_of}
use Rattle.bgp_msg.proofs.paths.push_ones.Given as goal

-- the hops so far and those of the rest are all of them
abbrev pub invariant-loop : goal.invariant-loop
invariant-loop l = record {
  all : l.hops.items ++ map One (numbers_of (number_width l.wide) (l.count - l.counter) l.rest) ≡ l.fn.hops.items ++ map One (numbers_of (number_width l.wide) l.count l.octets);
  room : number_width l.wide * (l.count - l.counter) ≤ length l.rest;
}
