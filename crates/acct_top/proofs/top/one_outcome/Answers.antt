use Rattle.acct_top.proofs.OutcomeLemmas.{one_outcome}
use Rattle.acct_top.proofs.top.one_outcome.Goals as goal

pub returns : goal.returns
returns c = one_outcome c.outputs_are_one.ensures
