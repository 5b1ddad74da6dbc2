use Rattle.flow_decode.proofs.HistoryLemmas.{backwards, rates_backwards}
use Rattle.flow_decode.proofs.laws.backwards_is_forwards.Goals as goal

pub returns : goal.returns
returns c = record { templates = backwards; rates = rates_backwards }
