use Rattle.std.proofs.Common.{◌≡◌, drop}
use Rattle.pretag_map.specs.SamplingLines.{rate_of}
use Rattle.pretag_map.proofs.sampling_map.SamplingMap.rate.Given as goal

abbrev pub invariant-loop-line : goal.invariant-loop-line
invariant-loop-line l =
    rate_of (drop l.line-index l.line-items) l.exporter l.in_iface l.out_iface ≡ rate_of l.self l.exporter l.in_iface l.out_iface
