use Rattle.acct_types.proofs.CountLemmas.{add_up}
use Rattle.acct_types.proofs.flow.counts_add_up.Goals as goal

pub returns : goal.returns
returns c = add_up
