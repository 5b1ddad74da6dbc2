-- Lines that say whose routes an exporter's are.
use Rattle.std.specs.Prelude.{Bool, List, find, codes, Option, Some, None, Result, Ok, Err}
use Rattle.acct_types.specs.declared.addr.Addr.{Addr}
use Rattle.config_keys.specs.Lines.{Text}
use Rattle.pretag_map.specs.Judging.{line_members}
use Rattle.pretag_map.specs.Keys.{agent_keys}
use Rattle.pretag_map.specs.Members.{Member}
use Rattle.pretag_map.specs.Networks.{Network, covers}
use Rattle.pretag_map.specs.Rules.{rules_of}
use Rattle.pretag_map.specs.Values.{address_given, network_given}
use Rattle.pretag_map.specs.declared.fault.MapCause.{MapCause}
use Rattle.pretag_map.specs.declared.fault.MapCause.TheVariants.{MissingKey}
use Rattle.pretag_map.specs.declared.fault.MapFault.{MapFault}
use Rattle.acct_types.specs.declared.rib.Rib.{Rib}
use Rattle.acct_types.specs.declared.rib.Rib.TheVariants as rib
use Rattle.acct_types.specs.declared.route_event.Side.{Side}
use Rattle.acct_types.specs.declared.route_event.Side.TheVariants.{Bgp, Bmp}

-- the exporters of a line, the router whose routes are theirs, and the peer of it whose routes alone are taken
pub record AgentLine : Type 0 where
  pub exporter : Network
  pub router : Addr
  pub peer : Option Addr

-- ---- what a map says

-- a line needs its exporters and their router
abbrev pub with_router : List Member → Option Network → Option Addr → Result AgentLine MapCause
with_router members (Some exporter) (Some router) = Ok (record {
  exporter = exporter;
  router = router;
  peer = address_given members (codes "acct_peer");
})
with_router members _ _ = Err MissingKey

abbrev pub agent_line_if : Result (List Member) MapCause → Result AgentLine MapCause
agent_line_if (Err cause) = Err cause
agent_line_if (Ok members) = with_router members (network_given members (codes "ip")) (address_given members (codes "bgp_ip"))

-- whose routes a line says, or its first cause
abbrev pub agent_line : Text → Result AgentLine MapCause
agent_line line = agent_line_if (line_members agent_keys line)

abbrev pub agent_map_of : Text → Result (List AgentLine) MapFault
agent_map_of text = rules_of agent_line text

-- ---- whose routes an exporter's are

abbrev pub serves : Addr → AgentLine → Bool
serves exporter line = covers line.exporter exporter

-- of the session with a router, or of the peers that it tells of by BMP
abbrev pub rib_with : Addr → Option Addr → Side → Rib
rib_with router peer Bgp = rib.Bgp router
rib_with router peer Bmp = rib.Bmp router peer

abbrev pub rib_by : Addr → Side → Option AgentLine → Rib
rib_by exporter side None = rib_with exporter None side
rib_by exporter side (Some line) = rib_with line.router line.peer side

-- As the first line says that covers the exporter; without one they are those of its own address.
abbrev pub rib_of : List AgentLine → Addr → Side → Rib
rib_of lines exporter side = rib_by exporter side (find (serves exporter) lines)
