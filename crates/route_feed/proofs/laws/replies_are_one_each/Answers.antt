use Rattle.route_feed.proofs.LawLemmas.{one_reply}
use Rattle.route_feed.proofs.laws.replies_are_one_each.Goals as goal

pub returns : goal.returns
returns c = one_reply c.addresses_are_ordered.ensures.total (λ a b. (c.addresses_are_ordered.ensures.equal a b).0)
