use Rattle.std.proofs.Common.{◌∙◌, ap, subst, sym}
use Rattle.bgp_session.specs.Moments.{expired_at}
use Rattle.bgp_session.specs.Sessions.{HasHeard, SessionState, has_expired}
use Rattle.bgp_session.proofs.SessionLemmas.{expired_by}
use Rattle.bgp_session.proofs.session.Session.expired.Goals as goal

pub returns-clause-behind : goal.returns-clause-behind
unfolding HasHeard has_expired
returns-clause-behind c = λ pieces h.
    c.has_passed.ensures ∙ expired_by _ pieces c.args.moment (subst (λ (s : SessionState). HasHeard s pieces) (sym c.self.view_is) h)
    ∙ ap (λ (s : SessionState). expired_at s.local pieces c.args.moment) c.self.view_is
