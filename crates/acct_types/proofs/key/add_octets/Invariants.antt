use Rattle.std.proofs.Common.{◌≡◌, ◌++◌, ◌+◌, ◌-◌, ◌≤◌, length, take}
use Rattle.acct_types.proofs.key.add_octets.Given as goal

-- those so far are added, and the rest has room
abbrev pub invariant-loop-octet : goal.invariant-loop-octet
invariant-loop-octet l = record {
  added : l.held.items ≡ l.fn.held.items ++ take l.octet-index l.octets;
  room : length l.held.items + (length l.octets - l.octet-index) ≤ l.held.capacity;
}
