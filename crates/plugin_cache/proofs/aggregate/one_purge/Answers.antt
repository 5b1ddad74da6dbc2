use Rattle.plugin_cache.proofs.SumLemmas.{one_purge}
use Rattle.plugin_cache.proofs.aggregate.one_purge.Goals as goal

pub returns : goal.returns
returns c = one_purge c.keys_are_ordered.ensures.total (λ a b. (c.keys_are_ordered.ensures.equal a b).0)
