use Rattle.plugin_cache.proofs.SliceLemmas.{few_items_fit}
use Rattle.plugin_cache.proofs.cache.few_items_fit.Goals as goal

pub returns : goal.returns
returns c = few_items_fit c.keys_are_ordered.ensures.total
