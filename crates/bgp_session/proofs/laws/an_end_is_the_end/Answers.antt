use Rattle.bgp_session.proofs.LawLemmas.{is_over}
use Rattle.bgp_session.proofs.laws.an_end_is_the_end.Goals as goal

pub returns : goal.returns
returns c = is_over
