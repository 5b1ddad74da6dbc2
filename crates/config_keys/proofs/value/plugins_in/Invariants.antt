use Rattle.std.proofs.Common.{◌≡◌, ◌++◌, map, drop, option_map}
use Rattle.config_keys.specs.Values.{plugins_in}
use Rattle.config_keys.specs.ValueViews.{named_view}
use Rattle.config_keys.proofs.value.plugins_in.Given as goal

abbrev pub invariant-loop-member : goal.invariant-loop-member
invariant-loop-member l =
    option_map (λ more. map named_view l.plugins.items ++ more) (plugins_in (map (λ t. t.now) (drop l.member-index l.members)))
    ≡ plugins_in (map (λ t. t.now) l.members)
