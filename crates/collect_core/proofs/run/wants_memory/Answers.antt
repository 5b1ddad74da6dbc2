use Rattle.std.proofs.Common.{rules}
use Rattle.collect_core.proofs.run.wants_memory.Goals as goal

pub returns-then-is_memory : goal.returns-then-is_memory
returns-then-is_memory g c = (c.loop-end.end-index, c.end-item.result, search rules, search rules, c.if-is_memory.ensures)
