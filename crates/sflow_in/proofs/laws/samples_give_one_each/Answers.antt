use Rattle.sflow_in.proofs.Accepted.{each_once}
use Rattle.sflow_in.proofs.laws.samples_give_one_each.Goals as goal

pub returns : goal.returns
returns c = each_once
