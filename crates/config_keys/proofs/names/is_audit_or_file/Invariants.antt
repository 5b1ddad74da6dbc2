use Rattle.std.proofs.Common.{◌≡◌, ◌∷◌, map, drop}
use Rattle.config_keys.specs.ConfigViews.{plugin_says}
use Rattle.config_keys.specs.Lines.{is_among}
use Rattle.config_keys.proofs.names.is_audit_or_file.Given as goal

abbrev pub invariant-loop-plugin : goal.invariant-loop-plugin
invariant-loop-plugin l =
    is_among (map (λ p. p.file) (map plugin_says (drop l.plugin-index l.plugin-items))) l.name ≡ is_among (l.config.acct_audit_file ∷ map (λ p. p.file) (map plugin_says l.config.plugins)) l.name
