use Rattle.std.proofs.Common.{◌≡◌, map, take}
use Rattle.pretag_map.specs.Members.{keys_of}
use Rattle.pretag_map.specs.Views.{member_view}
use Rattle.pretag_map.proofs.member.keys_of.Given as goal

abbrev pub invariant-loop-member : goal.invariant-loop-member
invariant-loop-member l = map (λ k. k.now) l.keys.items ≡ keys_of (map member_view (take l.member-index l.members))
