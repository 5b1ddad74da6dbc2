use Rattle.std.proofs.Common.{◌≡◌, ◌++◌, map, drop, option_map}
use Rattle.pretag_map.specs.Members.{members_in}
use Rattle.pretag_map.specs.Views.{member_view}
use Rattle.pretag_map.proofs.member.members_in.Given as goal

abbrev pub invariant-loop-word : goal.invariant-loop-word
invariant-loop-word l =
    option_map (λ more. map member_view l.members.items ++ more) (members_in (map (λ w. w.now) (drop l.word-index l.words)))
    ≡ members_in (map (λ w. w.now) l.words)
