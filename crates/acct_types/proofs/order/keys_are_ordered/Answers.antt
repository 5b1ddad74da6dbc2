use Rattle.acct_types.proofs.KeyLemmas.{key_cmp-total, key_equalities_same, key_orders_same, same_where_tied}
use Rattle.acct_types.proofs.order.keys_are_ordered.Goals as goal

pub returns-clause-derived : goal.returns-clause-derived
returns-clause-derived c = key_orders_same

pub returns-clause-equality : goal.returns-clause-equality
returns-clause-equality c = key_equalities_same

pub returns-clause-total : goal.returns-clause-total
returns-clause-total c = key_cmp-total

pub returns-clause-equal : goal.returns-clause-equal
returns-clause-equal c = same_where_tied
