-- What happened to a session: its octets, and its side.
use Rattle.std.specs.Prelude.{ℕ, Bool, true, false, List, []}
use Rattle.acct_types.specs.declared.route_event.Act.{Act}
use Rattle.acct_types.specs.declared.route_event.Act.TheVariants.{Bytes, Tick}
use Rattle.acct_types.specs.declared.route_event.Side.{Side}
use Rattle.acct_types.specs.declared.route_event.Side.TheVariants.{Bgp, Bmp}

-- the octets that a session gave, none where it gave none
abbrev pub act_octets : Act → List ℕ
act_octets (Bytes octets) = octets
act_octets act = []

-- whether an act may have that side: a tick, which belongs to both, has the side Bgp
abbrev pub has_its_side : Side → Act → Bool
has_its_side Bgp act = true
has_its_side Bmp Tick = false
has_its_side Bmp act = true
