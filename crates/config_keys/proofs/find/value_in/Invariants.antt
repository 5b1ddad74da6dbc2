use Rattle.std.proofs.Common.{◌≡◌, map, drop, option_map}
use Rattle.config_keys.specs.Reading.{value_in}
use Rattle.config_keys.specs.Views.{setting_of}
use Rattle.config_keys.proofs.find.value_in.Given as goal

abbrev pub invariant-loop-entry : goal.invariant-loop-entry
invariant-loop-entry l =
    value_in (map setting_of (drop l.entry-index l.entries)) l.key (option_map (λ n. n.now) l.fn.name) ≡ value_in (map setting_of l.entries) l.key (option_map (λ n. n.now) l.fn.name)
