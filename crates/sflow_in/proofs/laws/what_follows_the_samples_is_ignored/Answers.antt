use Rattle.sflow_in.proofs.Accepted.{ignored}
use Rattle.sflow_in.proofs.laws.what_follows_the_samples_is_ignored.Goals as goal

pub returns : goal.returns
returns c = ignored
