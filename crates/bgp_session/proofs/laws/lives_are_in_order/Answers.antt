use Rattle.bgp_session.proofs.LawLemmas.{in_order}
use Rattle.bgp_session.proofs.laws.lives_are_in_order.Goals as goal

pub returns : goal.returns
returns c = in_order
