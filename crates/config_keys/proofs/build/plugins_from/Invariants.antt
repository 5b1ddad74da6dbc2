use Rattle.std.proofs.Common.{◌≡◌, ◌++◌, map, drop, option_map, true}
use Rattle.std.specs.List.{list_all}
use Rattle.config_keys.specs.ConfigViews.{plugin_says}
use Rattle.config_keys.specs.Lines.{is_name}
use Rattle.config_keys.specs.Reading.{plugins_from}
use Rattle.config_keys.specs.ValueViews.{named_view}
use Rattle.config_keys.specs.Views.{setting_of}
use Rattle.config_keys.proofs.build.plugins_from.Given as goal

abbrev pub invariant-loop-plugin : goal.invariant-loop-plugin
invariant-loop-plugin l = record {
  rest : option_map (λ more. map plugin_says l.configs ++ more) (plugins_from (map setting_of l.entries) l.replay (map named_view (drop l.plugin-index l.plugins)))
      ≡ plugins_from (map setting_of l.entries) l.replay (map named_view l.plugins);
  named : list_all (λ p. is_name p.name) (map named_view (drop l.plugin-index l.plugins)) ≡ true;
}
