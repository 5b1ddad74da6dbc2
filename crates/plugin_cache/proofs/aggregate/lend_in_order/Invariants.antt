use Rattle.std.proofs.Common.{◌≡◌, ◌≤◌, ◌+◌, ◌++◌, length, map, vec_capacity}
use Rattle.std.specs.Map.Iter.{deref_pair}
use Rattle.plugin_cache.proofs.aggregate.lend_in_order.Given as goal

-- the entries that are lent, and those that are left
abbrev pub invariant-loop-entry : goal.invariant-loop-entry
invariant-loop-entry l = record {
  all : map deref_pair l.lent.items ++ l.entries ≡ l.fn.sums.entries;
  room : length l.lent.items + length l.entries ≤ vec_capacity l.lent;
}

abbrev pub decreases-loop-entry : goal.decreases-loop-entry
decreases-loop-entry l = length l.entries
