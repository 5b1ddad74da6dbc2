use Rattle.std.proofs.Common.{◌≡◌, ◌++◌, length}
use Rattle.std.specs.Vec.Iter.{into_iter_items, into_iter_len}
use Rattle.collect_core.specs.Given.{Take}
use Rattle.collect_core.specs.Loads.{given_to}
use Rattle.collect_core.proofs.give.give_loads.Given as goal

-- the loads so far were given, and the others are left
abbrev pub invariant-loop-number : goal.invariant-loop-number
invariant-loop-number g l = record {
  all : l.yielded ++ into_iter_items l.number-iterator ≡ l.fn.loads;
  left : into_iter_len l.number-iterator ≡ length (into_iter_items l.number-iterator);
  given : Take l.fn.plugins l.plugins (λ place. given_to place l.yielded);
}
