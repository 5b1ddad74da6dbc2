use Rattle.plugin_cache.proofs.SliceLemmas.{slices_are_purged}
use Rattle.plugin_cache.proofs.cache.slices_are_purged.Goals as goal

pub returns : goal.returns
returns c = slices_are_purged c.keys_are_ordered.ensures.total
