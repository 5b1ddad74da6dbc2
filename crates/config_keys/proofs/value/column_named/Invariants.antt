use Rattle.std.proofs.Common.{◌≡◌, map, drop, option_map}
use Rattle.std.specs.Prelude.{find}
use Rattle.std.specs.Str.{bytes_eq}
use Rattle.config_keys.specs.Values.{column_named}
use Rattle.config_keys.specs.ValueViews.{primitive_view}
use Rattle.config_keys.proofs.value.column_named.Given as goal

abbrev pub invariant-loop-primitive : goal.invariant-loop-primitive
invariant-loop-primitive l =
    option_map (λ p. p.column) (find (λ p. bytes_eq p.name l.name) (map primitive_view (drop l.primitive-index l.primitive-items))) ≡ column_named l.name
