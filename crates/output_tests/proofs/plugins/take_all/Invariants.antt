use Rattle.std.proofs.Common.{◌≡◌}
use Rattle.output_tests.proofs.plugins.take_all.Given as goal

abbrev pub invariant-loop-given : goal.invariant-loop-given
invariant-loop-given l = l.plugin.taken ≡ l.given-index
