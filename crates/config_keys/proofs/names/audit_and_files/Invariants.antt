use Rattle.std.proofs.Common.{◌≡◌, ◌∷◌, map, take}
use Rattle.config_keys.specs.ConfigViews.{plugin_says}
use Rattle.config_keys.proofs.names.audit_and_files.Given as goal

abbrev pub invariant-loop-plugin : goal.invariant-loop-plugin
invariant-loop-plugin l = map (λ n. n.now) l.names.items ≡ l.config.acct_audit_file ∷ map (λ p. p.file) (map plugin_says (take l.plugin-index l.plugin-items))
