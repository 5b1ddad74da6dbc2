use Rattle.std.proofs.Common.{ap, Err}
use Rattle.acct_top.proofs.OpenLemmas.{front_of_nothing}
use Rattle.acct_top.proofs.open.close_empty.Goals as goal

pub returns-in-Err-Failed-clause-begun : goal.returns-in-Err-Failed-clause-begun
returns-in-Err-Failed-clause-begun g c = λ told empty. front_of_nothing _ _ _ _ _ empty (c.in-Err-Failed.ensures.failed told (ap Err c.in-Err-Failed.field-0-is))
