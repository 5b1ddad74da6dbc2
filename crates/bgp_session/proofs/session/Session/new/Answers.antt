use Rattle.std.proofs.Common.{arith, refl}
use Rattle.bgp_session.specs.Sessions.{HasHeard}
use Rattle.bgp_session.proofs.FrameLemmas.{framed_short}
use Rattle.bgp_session.proofs.SessionLemmas.{nothing_heard}
use Rattle.bgp_session.proofs.session.Session.new.Goals as goal

pub invariant_of-result : goal.invariant_of-result
invariant_of-result c = rw c.new.ensures (framed_short _ (omega arith), omega arith)

pub returns-clause-hears : goal.returns-clause-hears
unfolding HasHeard
returns-clause-hears c = nothing_heard _ refl refl c.new.ensures
