use Rattle.std.proofs.Common.{◌≡◌, ◌++◌, length, map}
use Rattle.std.specs.List.{AllZip}
use Rattle.std.specs.Vec.Iter.{into_iter_items, into_iter_len}
use Rattle.collect_core.specs.Ends.{ending_of}
use Rattle.collect_core.proofs.EndsLemmas.{Finishes}
use Rattle.collect_core.proofs.plugins.finish_plugins.Given as goal

-- the plugins so far ended, and the others are left
abbrev pub invariant-loop-plugin : goal.invariant-loop-plugin
invariant-loop-plugin g l = record {
  all : l.yielded ++ into_iter_items l.plugin-iterator ≡ l.fn.plugins.items;
  left : into_iter_len l.plugin-iterator ≡ length (into_iter_items l.plugin-iterator);
  finish : AllZip Finishes l.yielded (map (ending_of g.W.Sink.state) l.ends);
}
