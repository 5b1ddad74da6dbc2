use Rattle.std.proofs.Common.{◌∙◌, ap₂}
use Rattle.plugin_cache.specs.Slices.{fresh}
use Rattle.plugin_work.proofs.TakenLemmas.{none_taken}
use Rattle.plugin_work.proofs.plugin.Plugin.start.Goals as goal

pub returns-clause-started : goal.returns-clause-started
returns-clause-started g c =
    none_taken c.args.config.now (g.W.Sink.state c.args.out) c.in-Ok.cache c.nothing.result
    (c.in-Ok.ensures ∙ ap₂ fresh c.of_print-limit.ensures c.of_print-refresh.ensures) c.nothing.ensures
