use Rattle.plugin_cache.proofs.SumLemmas.{conserve}
use Rattle.plugin_cache.proofs.aggregate.purges_conserve.Goals as goal

pub returns : goal.returns
returns c = conserve c.keys_are_ordered.ensures.total
