use Rattle.plugin_cache.specs.Slices.{SumUpTo}
use Rattle.output_tests.proofs.caches.add_all.Given as goal

-- as few items as were added
abbrev pub invariant-loop-given : goal.invariant-loop-given
invariant-loop-given l = SumUpTo l.given-index l.cache.rows
