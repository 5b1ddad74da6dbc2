use Rattle.flow_templates.proofs.ChangeLemmas.{add_up}
use Rattle.flow_templates.proofs.change.changes_add_up.Goals as goal

pub returns : goal.returns
returns c = add_up
