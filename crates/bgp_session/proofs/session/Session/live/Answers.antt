use Rattle.std.proofs.Common.{◌≡◌, ◌∙◌, rules}
use Rattle.bgp_session.specs.Sessions.{HasHeard, is_live}
use Rattle.bgp_session.proofs.SessionLemmas.{live_by}
use Rattle.bgp_session.proofs.session.Session.live.Goals as goal

pub returns-clause-behind : goal.returns-clause-behind
unfolding HasHeard is_live
returns-clause-behind c =
    let state : c.ne.result ≡ is_live c.args.self.now = search rules in
    λ pieces h. state ∙ live_by c.args.self.now pieces h
