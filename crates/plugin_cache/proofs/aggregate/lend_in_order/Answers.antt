use Rattle.std.proofs.Common.{List, ◌≡◌, ◌∙◌, sym, ap, subst, map, rules}
use Rattle.std.proofs.lemmas.Fn.{always_returns_same}
use Rattle.std.proofs.lemmas.List.{append-nil}
use Rattle.std.proofs.lemmas.List.MinMax.{ranks_by}
use Rattle.std.proofs.lemmas.List.Sorted.{IsPermutation-map}
use Rattle.std.specs.List.Sorted.{IsPermutation}
use Rattle.std.specs.Map.Iter.{deref_pair}
use Rattle.std.specs.Ordering.{is_lt}
use Rattle.acct_types.specs.contracts.key.KeyOrd.TheImpl as order
use Rattle.acct_types.specs.contracts.key.KeyOrd.TheImpl.Laws as order_laws
use Rattle.plugin_cache.proofs.KeyLemmas.{sorted_images}
use Rattle.plugin_cache.proofs.SumLemmas.{Rows}
use Rattle.plugin_cache.proofs.aggregate.lend_in_order.Goals as goal

pub returns-clause-order : goal.returns-clause-order
returns-clause-order c =
    let lent = c.sort_unstable_by.new.self.items in
    let cmp = (order.cmp-value).it in
    sorted_images (λ row. row.0) (λ a b. is_lt (cmp a b)) (map deref_pair lent)
    (sorted_images deref_pair (λ a b. is_lt (cmp a.0 b.0)) lent
    (c.sort_unstable_by.ensures.sorted (λ a b. is_lt (cmp a.0.now b.0.now)) (ranks_by order_laws.total-law (λ e. e.0.now)) (always_returns_same _ _ _ (λ a r f' k. search rules))))

pub returns-clause-same : goal.returns-clause-same
returns-clause-same c =
    let lent = c.loop-entry.lent.items in
    let all : map deref_pair lent ≡ c.args.sums.now.entries = sym (append-nil (map deref_pair lent)) ∙ search rules in
    subst (λ (rows : Rows). IsPermutation rows (map deref_pair c.sort_unstable_by.new.self.items)) all
    (IsPermutation-map deref_pair lent c.sort_unstable_by.new.self.items c.sort_unstable_by.ensures.permutation)
