use Rattle.route_feed.proofs.LawLemmas.{ends_reset}
use Rattle.route_feed.proofs.laws.ends_have_their_resets.Goals as goal

pub returns : goal.returns
returns c = ends_reset
