use Rattle.flow_templates.proofs.RateLemmas.{rates_up}
use Rattle.flow_templates.proofs.rate.rates_add_up.Goals as goal

pub returns : goal.returns
returns c = rates_up
