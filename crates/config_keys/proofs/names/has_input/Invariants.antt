use Rattle.std.proofs.Common.{◌≡◌, map, drop}
use Rattle.std.specs.List.{list_any}
use Rattle.config_keys.specs.ConfigViews.{says}
use Rattle.config_keys.specs.Lines.{is_among}
use Rattle.config_keys.specs.Reading.{input_names}
use Rattle.config_keys.proofs.names.has_input.Given as goal

abbrev pub invariant-loop-name : goal.invariant-loop-name
invariant-loop-name l =
    list_any (λ name. is_among (input_names (says l.config)) name) (map (λ n. n.now) (drop l.name-index l.names))
    ≡ list_any (λ name. is_among (input_names (says l.config)) name) (map (λ n. n.now) l.names)
