use Rattle.std.proofs.Common.{◌≡◌, inl, inr, ◌∙◌, ◌∷◌, arith, ap, length, map, sym}
use Rattle.std.proofs.lemmas.List.{length-map}
use Rattle.std.specs.Iterator.Adapters.{zip_first, zip_second}
use Rattle.std.specs.Slice.Iter.{iter_rest}
use Rattle.std.specs.Vec.Iter.{into_iter_items}
use Rattle.collect_core.proofs.StartLemmas.{all_started, one_less, started_more}
use Rattle.collect_core.proofs.plugins.start_plugins.Goals as goal

pub loop-config-preserved : goal.loop-config-preserved
loop-config-preserved g c =
    let at = c.loop-config in
    let next = c.next.new.self in
    let second : into_iter_items (zip_second at.config-iterator) ≡ c.in-Some.out ∷ into_iter_items (zip_second next) = c.in-Some.ensures.steps.1.0 in
    let gone = c.in-Some.ensures.steps.1.1 in
    record {
      configs = one_less (λ pair. pair.0.now) at.yielded (c.in-Some.config, c.in-Some.out) (iter_rest (zip_first at.config-iterator)) (iter_rest (zip_first next)) c.args.configs.now
          c.in-Some.ensures.steps.0 at.invariant.configs;
      outs = one_less (λ pair. g.W.Sink.state pair.1) at.yielded (c.in-Some.config, c.in-Some.out) (map g.W.Sink.state (into_iter_items (zip_second at.config-iterator)))
          (map g.W.Sink.state (into_iter_items (zip_second next))) (map g.W.Sink.state c.args.outs)
          (ap (map g.W.Sink.state) second) at.invariant.outs;
      left = omega (arith, at.invariant.left, gone, ap length second);
      started = started_more (λ pair. pair.0.now) (λ pair. g.W.Sink.state pair.1) at.yielded (c.in-Some.config, c.in-Some.out) at.plugins.items c.push.new.self.items c.in-Ok.plugin
          c.in_ok-push-in-Ok.ensures.items c.in-Ok.ensures.started at.invariant.started;
    }

pub returns : goal.returns
returns g c =
    let at = c.loop-config in
    let sizes : length (map g.W.Sink.state c.args.outs) ≡ length c.args.configs.now = length-map c.args.outs g.W.Sink.state ∙ c.requires.one_each in
    all_started (λ pair. pair.0.now) (λ pair. g.W.Sink.state pair.1) at.yielded c.args.configs.now (iter_rest (zip_first at.config-iterator))
    (map g.W.Sink.state c.args.outs) (map g.W.Sink.state (into_iter_items (zip_second at.config-iterator))) at.plugins.items
    at.invariant.configs at.invariant.outs sizes
    (elim c.in-None.ensures.steps [
      | inl first ↦ inl first.1.0
      | inr second ↦ inr (length-map (into_iter_items (zip_second at.config-iterator)) g.W.Sink.state ∙ sym at.invariant.left ∙ second.1.0)
    ]) at.invariant.started
