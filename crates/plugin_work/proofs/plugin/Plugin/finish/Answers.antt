use Rattle.std.proofs.Common.{ap, subst, sym}
use Rattle.acct_types.specs.declared.flow.Counts.{Counts}
use Rattle.plugin_work.specs.Plugins.{Ends, HasTaken, PluginState}
use Rattle.outside_io.specs.States.{SinkState}
use Rattle.plugin_work.proofs.TakenLemmas.{finished}
use Rattle.plugin_work.proofs.plugin.Plugin.finish.Goals as goal

pub returns-clause-ends : goal.returns-clause-ends
returns-clause-ends g c config start items taken =
    let old : PluginState = record {
      primitives = c.self.inside.printer.primitives;
      layout = c.self.inside.printer.layout;
      cache = c.self.inside.cache;
      sink = g.W.Sink.state c.self.inside.out;
      end = c.self.inside.end;
      taken = c.self.inside.taken;
      counted = c.self.inside.counted;
    } in
    let now : SinkState = g.W.Sink.state c.write_last-end.new.out in
    let had : HasTaken config start items old = subst (λ (plugin : PluginState). HasTaken config start items plugin) (sym c.self.view_is) taken in
    subst (λ (counts : Counts). Ends config start items now c.write_last-end.result counts) (sym c.if_whole.ensures)
    (finished c.keys_are_ordered.ensures.total c.slices_are_purged.ensures c.outputs_conserve.ensures config start items old c.write_last-end.result now
    (λ whole. c.write_last-end.ensures.written whole config had.primitives had.layout) c.write_last-end.ensures.end
    (λ apart. ap g.W.Sink.state (c.write_last-end.ensures.out apart)) had)
