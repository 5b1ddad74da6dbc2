use Rattle.std.proofs.Common.{List, ◌≡◌, ◌∙◌, Bool, sym, subst, map, Ordering}
use Rattle.std.specs.Prelude.{IsSorted}
use Rattle.std.specs.List.{IsDistinct}
use Rattle.std.specs.List.Sorted.{IsPermutation}
use Rattle.std.specs.Map.Iter.{deref_pair}
use Rattle.acct_types.specs.declared.cell.Cell.{Cell}
use Rattle.acct_types.specs.contracts.key.KeyOrd.TheImpl as order
use Rattle.acct_types.specs.Cells.{key_cmp, key_eq}
use Rattle.plugin_cache.specs.Sums.{keys_in}
use Rattle.plugin_cache.proofs.KeyLemmas.{same_keys, same_orders, same_sums, still_apart, strictly_sorted}
use Rattle.plugin_cache.proofs.SumLemmas.{Rows}
use Rattle.plugin_cache.proofs.aggregate.take_rows.Goals as goal

pub returns-clause-same : goal.returns-clause-same
returns-clause-same c =
    let rows : c.from_vec.result ≡ map deref_pair c.in_ok-lent.lent.items = c.from_vec.ensures ∙ c.in_ok-rows.ensures in
    same_sums c.args.sums.now.entries c.from_vec.result
    (subst (λ (rows : Rows). IsPermutation c.args.sums.now.entries rows) (sym rows) c.in_ok-lent.ensures.same)
    c.in_ok-lent.ensures.unique c.keys_are_ordered.ensures.equality

pub returns-clause-order : goal.returns-clause-order
returns-clause-order c =
    let rows : c.from_vec.result ≡ map deref_pair c.in_ok-lent.lent.items = c.from_vec.ensures ∙ c.in_ok-rows.ensures in
    let sorted : IsSorted key_cmp (keys_in c.from_vec.result) =
    subst (λ (R : List Cell → List Cell → Ordering). IsSorted R (keys_in c.from_vec.result)) (same_orders c.keys_are_ordered.ensures.derived)
    (subst (λ (rows : Rows). IsSorted (order.cmp-value).it (keys_in rows)) (sym rows) c.in_ok-lent.ensures.order) in
    let apart : IsDistinct key_eq (keys_in c.from_vec.result) =
    subst (λ (eq : List Cell → List Cell → Bool). IsDistinct eq (keys_in c.from_vec.result)) (same_keys c.keys_are_ordered.ensures.equality)
    (still_apart c.args.sums.now.entries c.from_vec.result
    (subst (λ (rows : Rows). IsPermutation c.args.sums.now.entries rows) (sym rows) c.in_ok-lent.ensures.same)
    c.in_ok-lent.ensures.unique) in
    strictly_sorted c.keys_are_ordered.ensures.total (keys_in c.from_vec.result) sorted apart
