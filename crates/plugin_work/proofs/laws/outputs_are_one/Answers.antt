use Rattle.plugin_work.proofs.OutputLemmas.{one_output}
use Rattle.plugin_work.proofs.laws.outputs_are_one.Goals as goal

pub returns : goal.returns
returns c = one_output c.one_purge.ensures
