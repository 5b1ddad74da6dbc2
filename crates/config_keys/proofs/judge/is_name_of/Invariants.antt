use Rattle.std.proofs.Common.{◌≡◌, map, drop}
use Rattle.config_keys.specs.Lines.{is_among}
use Rattle.config_keys.specs.Values.{names_of}
use Rattle.config_keys.specs.ValueViews.{named_view}
use Rattle.config_keys.proofs.judge.is_name_of.Given as goal

abbrev pub invariant-loop-plugin : goal.invariant-loop-plugin
invariant-loop-plugin l = is_among (names_of (map named_view (drop l.plugin-index l.plugins))) l.name ≡ is_among (names_of (map named_view l.plugins)) l.name
