use Rattle.std.proofs.Common.{◌≡◌, map, drop}
use Rattle.config_keys.specs.Lines.{is_among}
use Rattle.config_keys.proofs.value.is_among.Given as goal

abbrev pub invariant-loop-other : goal.invariant-loop-other
invariant-loop-other l = is_among (map (λ t. t.now) (drop l.other-index l.texts)) l.text ≡ is_among (map (λ t. t.now) l.texts) l.text
