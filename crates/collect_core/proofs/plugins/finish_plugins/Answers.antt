use Rattle.std.proofs.Common.{◌≡◌, ◌∙◌, ◌++◌, ◌∷◌, [], List, arith, ap, append_assoc, append-nil, length, map, subst, sym}
use Rattle.std.proofs.lemmas.List.{map-append, nil_from_length}
use Rattle.std.proofs.lemmas.Slice.Zip.{all_zipped_more}
use Rattle.std.specs.List.{AllZip}
use Rattle.std.specs.Vec.Iter.{into_iter_items}
use Rattle.plugin_work.specs.Plugins.{PluginState}
use Rattle.collect_core.specs.Ends.{ending_of, PluginEnding}
use Rattle.collect_core.proofs.EndsLemmas.{Finishes, all_end}
use Rattle.collect_core.proofs.plugins.finish_plugins.Goals as goal

pub loop-plugin-preserved : goal.loop-plugin-preserved
loop-plugin-preserved g c =
    let at = c.loop-plugin in
    let plugin = c.in-Some.plugin in
    let first : into_iter_items at.plugin-iterator ≡ plugin ∷ into_iter_items c.next.new.self = c.in-Some.ensures.steps.0 in
    let gone = c.in-Some.ensures.steps.1 in
    let endings : map (ending_of g.W.Sink.state) c.push.new.self ≡ map (ending_of g.W.Sink.state) at.ends ++ ending_of g.W.Sink.state c.finish.result ∷ [] =
    ap (map (ending_of g.W.Sink.state)) c.in_ok-push.ensures.ok ∙ map-append (ending_of g.W.Sink.state) at.ends (c.finish.result ∷ []) in
    record {
      all = append_assoc at.yielded (plugin ∷ []) (into_iter_items c.next.new.self) ∙ ap (λ (states : List PluginState). at.yielded ++ states) (sym first) ∙ at.invariant.all;
      left = omega (arith, at.invariant.left, gone, ap length first);
      finish = subst (λ (ends : List PluginEnding). AllZip Finishes (at.yielded ++ plugin ∷ []) ends) (sym endings)
          (all_zipped_more Finishes at.yielded (map (ending_of g.W.Sink.state) at.ends) plugin (ending_of g.W.Sink.state c.finish.result) at.invariant.finish c.finish.ensures.ends);
    }

pub returns : goal.returns
returns g c configs starts entries given =
    let at = c.loop-plugin in
    let none : into_iter_items at.plugin-iterator ≡ [] = nil_from_length (into_iter_items at.plugin-iterator) (sym at.invariant.left ∙ c.in-None.ensures.steps.0) in
    let all : at.yielded ≡ c.args.plugins.items = sym (append-nil at.yielded) ∙ ap (λ (states : List PluginState). at.yielded ++ states) (sym none) ∙ at.invariant.all in
    all_end c.outputs_conserve.ensures configs starts entries c.args.plugins.items (map (ending_of g.W.Sink.state) at.ends) given
    (subst (λ (states : List PluginState). AllZip Finishes states (map (ending_of g.W.Sink.state) at.ends)) all at.invariant.finish)
