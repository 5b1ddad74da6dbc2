use Rattle.plugin_cache.proofs.SumLemmas.{add_up}
use Rattle.plugin_cache.proofs.aggregate.entries_add_up.Goals as goal

pub returns : goal.returns
returns c = add_up c.keys_are_ordered.ensures.total
