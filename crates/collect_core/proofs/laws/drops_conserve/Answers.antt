use Rattle.collect_core.proofs.CourseLemmas.{drops_conserve}
use Rattle.collect_core.proofs.laws.drops_conserve.Goals as goal

pub returns : goal.returns
returns c = drops_conserve c.counts_add_up.ensures
