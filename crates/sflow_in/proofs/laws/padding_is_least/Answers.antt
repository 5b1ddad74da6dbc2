use Rattle.sflow_in.proofs.Accepted.{padding}
use Rattle.sflow_in.proofs.laws.padding_is_least.Goals as goal

pub returns : goal.returns
returns c = padding
