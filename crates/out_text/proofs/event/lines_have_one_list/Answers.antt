use Rattle.out_text.proofs.EventLemmas.{one_list}
use Rattle.out_text.proofs.event.lines_have_one_list.Goals as goal

pub returns : goal.returns
returns c = one_list
