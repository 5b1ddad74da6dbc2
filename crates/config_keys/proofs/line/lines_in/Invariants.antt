use Rattle.std.proofs.Common.{◌≡◌, ◌++◌, map, drop}
use Rattle.config_keys.specs.Lines.{lines_in}
use Rattle.config_keys.proofs.line.lines_in.Given as goal

abbrev pub invariant-loop-index : goal.invariant-loop-index
invariant-loop-index l = map (λ m. m.now) l.lines.items ++ lines_in (map (λ p. p.now) (drop l.index l.pieces)) ≡ lines_in (map (λ p. p.now) l.pieces)
