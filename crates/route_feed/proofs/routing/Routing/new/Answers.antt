use Rattle.std.proofs.Common.{subst, sym}
use Rattle.std.specs.Prelude.{None}
use Rattle.route_feed.specs.Lives.{life_of}
use Rattle.route_feed.specs.Routings.{AllGoOn, AreOf, GoesOnIf, HasHeard, IsOf, Sessions, session_at}
use Rattle.route_feed.proofs.routing.Routing.new.Goals as goal

pub invariant_of-result : goal.invariant_of-result
unfolding AllGoOn
invariant_of-result c = λ address. subst (λ (sessions : Sessions). GoesOnIf 0 (session_at address sessions)) (sym c.new.ensures.empty) tt

pub returns-clause-hears : goal.returns-clause-hears
unfolding HasHeard AreOf life_of
returns-clause-hears c = λ address. subst (λ (sessions : Sessions). IsOf (record { id = c.args.local_id; hold = c.args.hold }) (session_at address sessions) None) (sym c.new.ensures.empty) tt
