use Rattle.std.proofs.Common.{◌≡◌, map, take}
use Rattle.config_keys.specs.Lines.{trimmed}
use Rattle.config_keys.proofs.line.trimmed_pieces.Given as goal

abbrev pub invariant-loop-piece : goal.invariant-loop-piece
invariant-loop-piece l = map (λ m. m.now) l.members.items ≡ map trimmed (map (λ p. p.now) (take l.piece-index l.pieces))
