use Rattle.std.proofs.Common.{◌≡◌, ◌++◌, map, take}
use Rattle.collect_core.specs.Course.{unrouted}
use Rattle.collect_core.specs.Loads.{load_entry, loads_for}
use Rattle.collect_core.proofs.loads.append_loads.Given as goal

-- the loads for the plugins so far
abbrev pub invariant-loop-index : goal.invariant-loop-index
invariant-loop-index l = map load_entry l.loads ≡ map load_entry l.fn.loads
    ++ loads_for l.fn.job unrouted 0 (take l.index l.fn.job.config.plugins) l.fn.standing.datagram l.fn.standing.moment l.fn.standing.row l.fn.flow
