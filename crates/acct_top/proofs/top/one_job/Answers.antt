use Rattle.acct_top.proofs.TopLemmas.{one_job}
use Rattle.acct_top.proofs.top.one_job.Goals as goal

pub returns : goal.returns
returns c = one_job
