use Rattle.std.proofs.Common.{◌≡◌, map, drop}
use Rattle.pretag_map.specs.Values.{value_of}
use Rattle.pretag_map.specs.Views.{member_view}
use Rattle.pretag_map.proofs.value.value_of.Given as goal

abbrev pub invariant-loop-member : goal.invariant-loop-member
invariant-loop-member l = value_of (map member_view (drop l.member-index l.members)) l.key ≡ value_of (map member_view l.members) l.key
