use Rattle.acct_types.proofs.OrderLemmas.{same_source_cmp, same_where_sources_tie, source_cmp-total}
use Rattle.acct_types.proofs.order.sources_are_ordered.Goals as goal

pub returns-clause-derived : goal.returns-clause-derived
returns-clause-derived c = same_source_cmp

pub returns-clause-total : goal.returns-clause-total
returns-clause-total c = source_cmp-total

pub returns-clause-equal : goal.returns-clause-equal
returns-clause-equal c = same_where_sources_tie
