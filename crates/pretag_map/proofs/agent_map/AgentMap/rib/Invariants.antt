use Rattle.std.proofs.Common.{◌≡◌, drop}
use Rattle.pretag_map.specs.AgentLines.{rib_of}
use Rattle.pretag_map.proofs.agent_map.AgentMap.rib.Given as goal

abbrev pub invariant-loop-line : goal.invariant-loop-line
invariant-loop-line l = rib_of (drop l.line-index l.line-items) l.exporter l.side ≡ rib_of l.self l.exporter l.side
