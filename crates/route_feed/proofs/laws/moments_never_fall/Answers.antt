use Rattle.route_feed.proofs.MomentLemmas.{moments_in_order}
use Rattle.route_feed.proofs.laws.moments_never_fall.Goals as goal

pub returns : goal.returns
returns c = moments_in_order
