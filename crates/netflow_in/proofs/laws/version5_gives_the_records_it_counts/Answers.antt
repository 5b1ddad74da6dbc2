use Rattle.netflow_in.proofs.Accepted.{counted}
use Rattle.netflow_in.proofs.laws.version5_gives_the_records_it_counts.Goals as goal

pub returns : goal.returns
returns c = counted
