use Rattle.std.proofs.Common.{◌≡◌, map, drop}
use Rattle.config_keys.specs.Values.{has_left_out}
use Rattle.config_keys.proofs.value.has_left_out.Given as goal

abbrev pub invariant-loop-member : goal.invariant-loop-member
invariant-loop-member l = has_left_out (map (λ t. t.now) (drop l.member-index l.members)) ≡ has_left_out (map (λ t. t.now) l.members)
