use Rattle.std.proofs.Common.{◌≡◌, ◌≤◌, ◌-◌, ◌*◌, ◌++◌, length}
use Rattle.bgp_msg.specs.Paths.{number_width, numbers_of}
use Rattle.bgp_msg.proofs.paths.read_numbers.Given as goal

-- the numbers so far and those of the rest are all of them
abbrev pub invariant-loop : goal.invariant-loop
invariant-loop l = record {
  all : l.numbers.items ++ numbers_of (number_width l.wide) (l.count - l.counter) l.rest ≡ numbers_of (number_width l.wide) l.count l.octets;
  room : number_width l.wide * (l.count - l.counter) ≤ length l.rest;
}
