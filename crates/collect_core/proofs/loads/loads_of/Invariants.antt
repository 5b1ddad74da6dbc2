use Rattle.std.proofs.Common.{◌≡◌, map, take}
use Rattle.collect_core.specs.Course.{unrouted}
use Rattle.collect_core.specs.Loads.{load_entry, loads_from}
use Rattle.collect_core.proofs.loads.loads_of.Given as goal

-- the loads of the records so far
abbrev pub invariant-loop-index : goal.invariant-loop-index
invariant-loop-index l = map load_entry l.loads ≡ loads_from l.fn.job unrouted l.fn.datagram l.fn.moment 1 (take l.index l.fn.rows)
