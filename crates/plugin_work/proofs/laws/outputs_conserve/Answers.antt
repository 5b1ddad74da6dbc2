use Rattle.plugin_work.proofs.TotalLemmas.{outputs_conserve}
use Rattle.plugin_work.proofs.laws.outputs_conserve.Goals as goal

pub returns : goal.returns
returns c = outputs_conserve c.keys_are_ordered.ensures.total c.slices_conserve.ensures
