use Rattle.std.proofs.Common.{◌≢◌, All, take}
use Rattle.outside_io.specs.declared.ends.OutEnd.TheVariants as out
use Rattle.collect_core.proofs.run.wants_memory.Given as goal

-- none so far wanted memory
abbrev pub invariant-loop-end : goal.invariant-loop-end
invariant-loop-end g l = All (λ end. end.end ≢ out.Memory) (take l.end-index l.ends)
