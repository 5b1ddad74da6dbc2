use Rattle.bgp_session.specs.Sessions.{HasHeard}
use Rattle.bgp_session.proofs.LawLemmas.{alike, expire, recut}
use Rattle.bgp_session.proofs.laws.pieces_join.Goals as goal

pub returns : goal.returns
unfolding HasHeard
returns c = record { alike = alike; expire = expire; others = recut }
