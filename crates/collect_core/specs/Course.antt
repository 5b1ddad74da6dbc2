-- The course of a run beside its datagrams: the routing messages, by how many of them the records of each datagram are routed, and
-- which entries the plugins' rings refused.
use Rattle.std.specs.Prelude.{ℕ, Bool, false, List, [], Option, None}
use Rattle.acct_types.specs.Updates.{Message}
use Rattle.acct_types.specs.declared.addr.Addr.{Addr}
use Rattle.acct_types.specs.declared.choice.AsFrom.{AsFrom}
use Rattle.acct_types.specs.declared.choice.AsFrom.TheVariants as as_from
use Rattle.acct_types.specs.declared.flow.FlowRecord.{FlowRecord}
use Rattle.acct_types.specs.declared.rib.Rib.{Rib}
use Rattle.acct_types.specs.declared.route_event.Side.{Side}
use Rattle.acct_types.specs.declared.route_event.Side.TheVariants.{Bgp, Bmp}
use Rattle.config_keys.specs.ConfigViews.{says}
use Rattle.pretag_map.specs.AgentLines.{rib_of}
use Rattle.acct_types.specs.StandingRoutes.{StandingRoute}
use Rattle.collect_core.specs.declared.job.Job.{Job}
use Rattle.collect_core.specs.Job.{as_of}

pub record Course : Type 0 where
  -- the routing messages, in order
  pub messages : List Message
  -- how many sessions were closed by a fault or an expired hold time
  pub closed : ℕ
  -- the route to an address, if it has one, once so many of the messages were applied
  pub route : ℕ → Rib → Option Addr → Option StandingRoute
  -- the number of messages that the records of a datagram are routed by; datagrams are numbered from 1
  pub cut : ℕ → ℕ
  -- whether the ring of the plugin with that name refused its entry of that datagram and row
  pub is_dropped : List ℕ → ℕ → ℕ → Bool

-- without routes and without rings: no message, no route, nothing dropped
abbrev pub unrouted : Course
unrouted = record { messages = []; closed = 0; route = λ _ _ _. None; cut = λ _. 0; is_dropped = λ _ _ _. false }

-- whose routes are asked: those of BGP sessions, or those of BMP's peers
abbrev pub side_of : AsFrom → Side
side_of as_from.Export = Bgp
side_of as_from.Bgp = Bgp
side_of as_from.Bmp = Bmp

-- the route to an address for a record of the datagram with this number: among those of its exporter's sessions, as the map of agents says
abbrev pub route_at : Job → Course → ℕ → FlowRecord → Option Addr → Option StandingRoute
route_at job course datagram flow address = course.route (course.cut datagram) (rib_of job.agents flow.exporter (side_of (as_of (says job.config)))) address
