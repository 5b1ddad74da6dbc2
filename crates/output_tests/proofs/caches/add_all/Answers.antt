use Rattle.std.proofs.Common.{◌≡◌, ◌+◌, arith, suc, subst, sym, ℕ}
use Rattle.plugin_cache.specs.Slices.{CacheState, SumUpTo, timed}
use Rattle.output_tests.proofs.caches.add_all.Goals as goal

pub loop-given-preserved : goal.loop-given-preserved
loop-given-preserved c =
    let item = c.in_ok-item.field-0 in
    let added = c.loop-given.given-index in
    let next : suc added ≡ added + 1 = omega arith in
    let few = c.few_items_fit.ensures.one c.loop-given.cache (timed c.loop-given.cache.refresh item) added c.loop-given.invariant item.small in
    subst (λ (n : ℕ). SumUpTo n c.add.new.self.rows) next
    (subst (λ (cache : CacheState). SumUpTo (suc added) cache.rows) (sym c.in_ok-purge.ensures.ok) few)
