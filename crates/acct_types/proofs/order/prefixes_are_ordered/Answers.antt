use Rattle.acct_types.proofs.OrderLemmas.{prefix_cmp-total, same_where_tied}
use Rattle.acct_types.proofs.order.prefixes_are_ordered.Goals as goal

pub returns-clause-total : goal.returns-clause-total
returns-clause-total c = prefix_cmp-total

pub returns-clause-equal : goal.returns-clause-equal
returns-clause-equal c = same_where_tied
