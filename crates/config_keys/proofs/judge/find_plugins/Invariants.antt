use Rattle.std.proofs.Common.{◌≡◌, map, drop}
use Rattle.config_keys.specs.Judging.{plugins_named}
use Rattle.config_keys.proofs.judge.find_plugins.Given as goal

abbrev pub invariant-loop-line : goal.invariant-loop-line
invariant-loop-line l = plugins_named (map (λ t. t.now) (drop l.line-index l.lines)) ≡ plugins_named (map (λ t. t.now) l.lines)
