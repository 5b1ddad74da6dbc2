use Rattle.std.proofs.Common.{◌≡◌, map, drop}
use Rattle.config_keys.specs.Values.{asked_with, nothing_asked}
use Rattle.config_keys.specs.ValueViews.{asked_view}
use Rattle.config_keys.proofs.value.asked_with.Given as goal

abbrev pub invariant-loop-member : goal.invariant-loop-member
invariant-loop-member l =
    asked_with (asked_view l.asked) (map (λ t. t.now) (drop l.member-index l.members)) ≡ asked_with nothing_asked (map (λ t. t.now) l.members)
