use Rattle.bgp_session.proofs.LawLemmas.{grows}
use Rattle.bgp_session.proofs.laws.answers_grow.Goals as goal

pub returns : goal.returns
returns c = grows
