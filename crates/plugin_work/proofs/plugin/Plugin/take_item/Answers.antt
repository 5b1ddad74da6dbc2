use Rattle.std.proofs.Common.{◌∙◌, ◌+◌, ◌++◌, ◌∷◌, [], ap, refl, subst, sym}
use Rattle.outside_io.specs.declared.ends.OutEnd.TheVariants.{Memory}
use Rattle.plugin_cache.specs.Slices.{AnswersEntry, timed}
use Rattle.plugin_work.specs.Plugins.{HasTaken, PluginState, passed_over}
use Rattle.plugin_work.proofs.TakenLemmas.{comes_next, few_more, goes_along, none_complete, passed, without_memory}
use Rattle.plugin_work.proofs.plugin.Plugin.take_item.Goals as goal

pub returns-in_default : goal.returns-in_default
returns-in_default g c = record {
  taken = ap (λ (plugin : PluginState). plugin.taken + 1) c.self.view_is;
  takes = λ config start items taken.
      subst (λ (plugin : PluginState). HasTaken config start (items ++ c.args.item ∷ []) plugin) (sym (ap passed_over c.self.view_is))
      (passed config start items c.args.item c.args.self.now (λ whole. c.in_default.not-Whole (ap (λ (plugin : PluginState). plugin.end) c.self.view_is ∙ whole)) taken);
  passes_over = λ _. ap passed_over c.self.view_is;
}

pub returns-in_default-add-clause-takes : goal.returns-in_default-add-clause-takes
returns-in_default-add-clause-takes g c config start items taken =
    let old : PluginState = record {
      primitives = c.self.inside.printer.primitives;
      layout = c.self.inside.printer.layout;
      cache = c.self.inside.cache;
      sink = g.W.Sink.state c.self.inside.out;
      end = c.self.inside.end;
      taken = c.self.inside.taken;
      counted = c.self.inside.counted;
    } in
    let new : PluginState = record {
      primitives = c.self.inside.printer.primitives;
      layout = c.self.inside.printer.layout;
      cache = c.add.new.self;
      sink = g.W.Sink.state c.self.inside.out;
      end = Memory;
      taken = c.self.inside.taken + 1;
      counted = c.plus-self-inside.result;
    } in
    let had : HasTaken config start items old = subst (λ (plugin : PluginState). HasTaken config start items plugin) (sym c.self.view_is) taken in
    without_memory config start items c.args.item old new c.in-Whole.is refl refl c.in_default-add.ensures.err refl refl refl had

pub invariant_of-self-in_default-completed : goal.invariant_of-self-in_default-completed
invariant_of-self-in_default-completed g c =
    few_more c.few_items_fit.ensures c.self.inside.cache c.add.new.self c.args.item c.self.inside.taken c.self.inside.counted c.plus-self-inside.result
    c.self.invariant c.in-Ok.ensures.ok c.plus-self-inside.ensures

pub returns-in_default-completed-clause-takes : goal.returns-in_default-completed-clause-takes
returns-in_default-completed-clause-takes g c config start items taken =
    let old : PluginState = record {
      primitives = c.self.inside.printer.primitives;
      layout = c.self.inside.printer.layout;
      cache = c.self.inside.cache;
      sink = g.W.Sink.state c.self.inside.out;
      end = c.self.inside.end;
      taken = c.self.inside.taken;
      counted = c.self.inside.counted;
    } in
    let new : PluginState = record {
      primitives = c.self.inside.printer.primitives;
      layout = c.self.inside.printer.layout;
      cache = c.add.new.self;
      sink = g.W.Sink.state c.self.inside.out;
      end = c.self.inside.end;
      taken = c.self.inside.taken + 1;
      counted = c.plus-self-inside.result;
    } in
    let had : HasTaken config start items old = subst (λ (plugin : PluginState). HasTaken config start items plugin) (sym c.self.view_is) taken in
    goes_along config start items c.args.item old new c.in-Whole.is refl refl
    (none_complete c.self.inside.cache (timed c.self.inside.cache.refresh c.args.item) c.in-Ok.completed c.in_default-completed.not-Some c.in-Ok.ensures.purge)
    c.in-Ok.ensures.ok refl refl refl c.plus-self-inside.ensures had

pub returns-clause-takes : goal.returns-clause-takes
returns-clause-takes g c config start items taken =
    let old : PluginState = record {
      primitives = c.self.inside.printer.primitives;
      layout = c.self.inside.printer.layout;
      cache = c.self.inside.cache;
      sink = g.W.Sink.state c.self.inside.out;
      end = c.self.inside.end;
      taken = c.self.inside.taken;
      counted = c.self.inside.counted;
    } in
    let new : PluginState = record {
      primitives = c.write_purge-self-inside.new.printer.primitives;
      layout = c.write_purge-self-inside.new.printer.layout;
      cache = c.add.new.self;
      sink = g.W.Sink.state c.write_purge-self-inside.new.out;
      end = c.write_purge-self-inside.result;
      taken = c.self.inside.taken + 1;
      counted = c.plus-self-inside.result;
    } in
    let had : HasTaken config start items old = subst (λ (plugin : PluginState). HasTaken config start items plugin) (sym c.self.view_is) taken in
    comes_next config start items c.args.item old new c.in-Some.purge c.in-Whole.is c.write_purge-self-inside.ensures.primitives c.write_purge-self-inside.ensures.layout
    (subst (AnswersEntry c.self.inside.cache (timed c.self.inside.cache.refresh c.args.item)) c.in-Some.is c.in-Ok.ensures.purge)
    c.in-Ok.ensures.ok c.write_purge-self-inside.ensures.written refl c.plus-self-inside.ensures had
