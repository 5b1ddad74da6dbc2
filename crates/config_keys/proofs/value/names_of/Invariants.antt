use Rattle.std.proofs.Common.{◌≡◌, map, take}
use Rattle.config_keys.specs.Values.{names_of}
use Rattle.config_keys.specs.ValueViews.{named_view}
use Rattle.config_keys.proofs.value.names_of.Given as goal

abbrev pub invariant-loop-plugin : goal.invariant-loop-plugin
invariant-loop-plugin l = map (λ n. n.now) l.names.items ≡ names_of (map named_view (take l.plugin-index l.plugins))
