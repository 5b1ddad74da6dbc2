use Rattle.std.proofs.Common.{◌≡◌, ◌++◌, map, drop}
use Rattle.pretag_map.specs.Members.{words_in}
use Rattle.pretag_map.proofs.member.words_in.Given as goal

abbrev pub invariant-loop-piece : goal.invariant-loop-piece
invariant-loop-piece l =
    map (λ w. w.now) l.words.items ++ words_in (map (λ p. p.now) (drop l.piece-index l.pieces)) ≡ words_in (map (λ p. p.now) l.pieces)
