use Rattle.flow_sets.proofs.JoinLemmas.{follow}
use Rattle.flow_sets.proofs.laws.sets_follow_one_another.Goals as goal

pub returns : goal.returns
returns c = follow
