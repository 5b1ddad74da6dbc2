use Rattle.plugin_cache.proofs.SliceLemmas.{slices_conserve}
use Rattle.plugin_cache.proofs.cache.slices_conserve.Goals as goal

pub returns : goal.returns
returns c = slices_conserve c.purges_conserve.ensures
