use Rattle.std.proofs.Common.{rules, not}
use Rattle.std.proofs.lemmas.Map.Made.{filter_same_pairs}
use Rattle.bgp_session.specs.Sessions.{has_expired}
use Rattle.route_feed.proofs.sessions.drop_expired.Goals as goal

pub returns-clause-entries : goal.returns-clause-entries
returns-clause-entries c =
    filter_same_pairs _ (λ entry. not (has_expired entry.1 c.args.moment)) _ (λ address session kept left f'. search rules) c.args.sessions.now.entries c.retain.new.self.entries
    c.retain.ensures.filtered
