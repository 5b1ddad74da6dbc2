use Rattle.std.proofs.Common.{◌≡◌, ◌++◌, ◌∷◌, map, take, flat_map}
use Rattle.out_text.proofs.event.append_words.Given as goal

abbrev pub invariant-loop-word : goal.invariant-loop-word
invariant-loop-word l = l.out ≡ l.fn.out ++ l.fn.first ++ flat_map (λ word. 32 ∷ word) (take l.word-index (map (λ word. word.now) l.others))
