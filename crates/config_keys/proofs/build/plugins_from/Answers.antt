use Rattle.std.proofs.Common.{◌∙◌, [], ap, map, option_map, sym}
use Rattle.config_keys.proofs.PluginLemmas.{named_at, plugin_at}
use Rattle.config_keys.specs.ConfigViews.{plugin_says}
use Rattle.config_keys.specs.Views.{setting_of}
use Rattle.config_keys.specs.declared.value.NamedPlugin.{NamedPlugin}
use Rattle.config_keys.specs.declared.value.PluginKind.TheVariants.{Print}
use Rattle.config_keys.proofs.build.plugins_from.Goals as goal

pub loop-plugin-preserved : goal.loop-plugin-preserved
loop-plugin-preserved c =
    let none : NamedPlugin = record { kind = Print; name = record { ref_ptr = (0, 0); now = [] } } in
    record {
      rest =
          plugin_at (map setting_of c.args.entries.now) c.args.replay c.args.plugins.now c.loop-plugin.plugin-index none c.loop-plugin.configs _ c.in-Some.config
          c.loop-plugin-test.true c.in_ok-push-in-Some.ensures.ok (ap (option_map plugin_says) (sym c.in-Some.is) ∙ c.in_ok-read_plugin.ensures)
          ∙ c.loop-plugin.invariant.rest;
      named = named_at c.args.plugins.now c.loop-plugin.plugin-index none c.loop-plugin-test.true c.loop-plugin.invariant.named;
    }
