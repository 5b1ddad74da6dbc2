use Rattle.netflow_in.proofs.Accepted.{ignored}
use Rattle.netflow_in.proofs.laws.version5_ignores_what_follows_its_records.Goals as goal

pub returns : goal.returns
returns c = ignored
