use Rattle.program.proofs.StatusLemmas.{zero_is_done}
use Rattle.program.proofs.zero_is_done.Goals as goal

pub returns : goal.returns
returns c = zero_is_done
