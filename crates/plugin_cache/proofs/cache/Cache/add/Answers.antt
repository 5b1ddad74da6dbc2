use Rattle.std.proofs.Common.{◌≡◌, ◌∙◌, sym, ap, false}
use Rattle.plugin_cache.specs.Slices.{CacheState, completes}
use Rattle.plugin_cache.proofs.SliceLemmas.{keeps_within}
use Rattle.plugin_cache.proofs.cache.Cache.add.Goals as goal

pub invariant_of-self-2 : goal.invariant_of-self-2
invariant_of-self-2 c =
    let at : CacheState = record { limit = c.self.inside.limit; refresh = c.self.inside.refresh; window = c.self.inside.window; rows = c.self.inside.sums } in
    let kept : completes at c.window_of-window.result c.args.item.key ≡ false =
    ap (λ (cache : CacheState). completes cache c.window_of-window.result c.args.item.key) c.self.view_is ∙ sym c.completes.ensures ∙ c.if-completes.false in
    rw c.in_ok-add.ensures.ok (keeps_within at c.window_of-window.result c.args.item.key c.args.item.counts c.self.invariant kept)
