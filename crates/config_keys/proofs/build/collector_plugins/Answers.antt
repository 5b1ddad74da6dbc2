use Rattle.std.proofs.Common.{◌≡◌, ◌∙◌, List, Some, ap, map, sym}
use Rattle.config_keys.proofs.PluginLemmas.{named_are_fine, stay_apart, stay_few}
use Rattle.config_keys.specs.JudgingViews.{plugins_view}
use Rattle.config_keys.specs.Reading.{named_plugins}
use Rattle.config_keys.specs.ValueViews.{named_view}
use Rattle.config_keys.specs.Views.{setting_of}
use Rattle.config_keys.specs.declared.value.NamedPlugin.{NamedPlugin}
use Rattle.config_keys.proofs.build.collector_plugins.Goals as goal

pub plugins_from-requires : goal.plugins_from-requires
plugins_from-requires c =
    let settings = map setting_of c.args.entries.now in
    let found : Some (map named_view c.deref.result.now) ≡ named_plugins settings =
    ap (λ (l : List NamedPlugin). Some (map named_view l)) c.deref.ensures.value ∙ ap plugins_view (sym c.in-Some.is) ∙ c.in_ok-plugins.ensures in
    (named_are_fine settings _ found).named

pub returns-clause-few : goal.returns-clause-few
returns-clause-few c =
    let settings = map setting_of c.args.entries.now in
    let found : Some (map named_view c.deref.result.now) ≡ named_plugins settings =
    ap (λ (l : List NamedPlugin). Some (map named_view l)) c.deref.ensures.value ∙ ap plugins_view (sym c.in-Some.is) ∙ c.in_ok-plugins.ensures in
    stay_few settings c.is_replay.result (map named_view c.deref.result.now) c.plugins_from.result (named_are_fine settings _ found) c.plugins_from.ensures

pub returns-clause-apart : goal.returns-clause-apart
returns-clause-apart c =
    let settings = map setting_of c.args.entries.now in
    let found : Some (map named_view c.deref.result.now) ≡ named_plugins settings =
    ap (λ (l : List NamedPlugin). Some (map named_view l)) c.deref.ensures.value ∙ ap plugins_view (sym c.in-Some.is) ∙ c.in_ok-plugins.ensures in
    stay_apart settings c.is_replay.result (map named_view c.deref.result.now) c.plugins_from.result (named_are_fine settings _ found) c.plugins_from.ensures
