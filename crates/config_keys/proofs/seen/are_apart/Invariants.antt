use Rattle.std.proofs.Common.{◌≡◌, ℕ, List, map, drop, take, reverse}
use Rattle.config_keys.specs.Lines.{is_among}
use Rattle.config_keys.specs.Seen.{has_text}
use Rattle.config_keys.specs.Values.{are_apart, are_new}
use Rattle.config_keys.proofs.seen.are_apart.Given as goal

abbrev pub invariant-loop-text : goal.invariant-loop-text
invariant-loop-text l = record {
  rest : are_new (reverse (map (λ t. t.now) (take l.text-index l.texts))) (map (λ t. t.now) (drop l.text-index l.texts)) ≡ are_apart (map (λ t. t.now) l.texts);
  known : (other : List ℕ) → has_text l.seen other ≡ is_among (reverse (map (λ t. t.now) (take l.text-index l.texts))) other;
}
