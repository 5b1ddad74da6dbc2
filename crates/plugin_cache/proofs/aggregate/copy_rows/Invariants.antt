use Rattle.std.proofs.Common.{◌≡◌, ◌≤◌, ◌+◌, ◌++◌, length, map, vec_capacity}
use Rattle.std.specs.Map.Iter.{deref_pair}
use Rattle.std.specs.Slice.Iter.{iter_rest}
use Rattle.plugin_cache.proofs.aggregate.copy_rows.Given as goal

-- the rows that are copied, and those that are left
abbrev pub invariant-loop-entry : goal.invariant-loop-entry
invariant-loop-entry l = record {
  all : l.rows.items ++ map deref_pair (iter_rest l.entries) ≡ map deref_pair l.fn.lent.items;
  room : length l.rows.items + length (iter_rest l.entries) ≤ vec_capacity l.rows;
}

abbrev pub decreases-loop-entry : goal.decreases-loop-entry
decreases-loop-entry l = length (iter_rest l.entries)
