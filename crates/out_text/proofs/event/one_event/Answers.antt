use Rattle.out_text.proofs.EventLemmas.{one_event}
use Rattle.out_text.proofs.event.one_event.Goals as goal

pub returns : goal.returns
returns c = one_event
