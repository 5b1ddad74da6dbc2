use Rattle.std.proofs.Common.{◌≡◌, ◌++◌, [], length, map}
use Rattle.std.specs.Iterator.Adapters.{zip_first, zip_second}
use Rattle.std.specs.Slice.Iter.{iter_rest}
use Rattle.std.specs.Vec.Iter.{into_iter_items, into_iter_len}
use Rattle.collect_core.specs.Given.{AreGiven}
use Rattle.collect_core.proofs.plugins.start_plugins.Given as goal

-- the plugins so far were started, and the other configurations and sinks are left
abbrev pub invariant-loop-config : goal.invariant-loop-config
invariant-loop-config g l = record {
  configs : map (λ pair. pair.0.now) l.yielded ++ iter_rest (zip_first l.config-iterator) ≡ l.fn.configs;
  outs : map (λ pair. g.W.Sink.state pair.1) l.yielded ++ map g.W.Sink.state (into_iter_items (zip_second l.config-iterator))
      ≡ map g.W.Sink.state l.fn.outs;
  left : into_iter_len (zip_second l.config-iterator) ≡ length (into_iter_items (zip_second l.config-iterator));
  started : AreGiven (map (λ pair. pair.0.now) l.yielded) (map (λ pair. g.W.Sink.state pair.1) l.yielded) (λ _. []) l.plugins.items;
}
