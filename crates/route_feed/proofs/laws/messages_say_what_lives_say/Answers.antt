use Rattle.route_feed.proofs.LearnedLemmas.{learned_is_said}
use Rattle.route_feed.proofs.laws.messages_say_what_lives_say.Goals as goal

pub returns : goal.returns
returns c = λ daemons local events address.
    learned_is_said c.addresses_are_ordered.ensures.total (λ a b. (c.addresses_are_ordered.ensures.equal a b).0) c.answers_grow.ensures local address daemons events
