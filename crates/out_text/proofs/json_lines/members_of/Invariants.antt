use Rattle.std.proofs.Common.{◌≡◌, drop}
use Rattle.serde_json.specs.View.{members_view}
use Rattle.out_text.specs.Members.{members_in}
use Rattle.out_text.specs.Objects.{by_name}
use Rattle.out_text.specs.Rows.{entries_of}
use Rattle.out_text.proofs.json_lines.members_of.Given as goal

abbrev pub invariant-loop-place : goal.invariant-loop-place
invariant-loop-place l = members_view l.members.entries ≡ members_in (by_name (entries_of (drop l.place l.entries)))
