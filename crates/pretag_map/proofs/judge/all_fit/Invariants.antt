use Rattle.std.proofs.Common.{◌≡◌, map, drop}
use Rattle.std.specs.List.{list_all}
use Rattle.pretag_map.specs.Judging.{fits}
use Rattle.pretag_map.specs.Keys.{row_view}
use Rattle.pretag_map.specs.Views.{member_view}
use Rattle.pretag_map.proofs.judge.all_fit.Given as goal

abbrev pub invariant-loop-member : goal.invariant-loop-member
invariant-loop-member l =
    list_all (fits (map row_view l.rows)) (map member_view (drop l.member-index l.members))
    ≡ list_all (fits (map row_view l.rows)) (map member_view l.members)
