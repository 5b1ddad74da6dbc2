use Rattle.std.proofs.Common.{◌≡◌, ◌≤◌, ◌∙◌, ◌++◌, ◌∷◌, List, ap, map, subst, sym}
use Rattle.acct_types.specs.Updates.{message_view}
use Rattle.acct_types.specs.declared.update.RouteMessage.{RouteMessage}
use Rattle.route_feed.specs.Events.{events_on}
use Rattle.route_feed.specs.Routings.{HasHeard, RoutingState}
use Rattle.route_feed.specs.Told.{closures_of, messages_of, replies_of}
use Rattle.route_feed.proofs.RoutingLemmas.{go_on_later, none_go_on, off_closures, off_lives, off_messages, off_replies, on_closures, on_lives, on_messages, on_replies}
use Rattle.route_feed.proofs.routing.Routing.on.Goals as goal

pub invariant_of-self : goal.invariant_of-self
invariant_of-self c =
    go_on_later c.self.inside.moment c.args.event.now.moment c.self.inside.sessions.entries (subst (λ (state : RoutingState). state.moment ≤ c.args.event.now.moment) (sym c.self.view_is) c.requires.later) c.self.invariant

pub hear-requires-clause-go_on : goal.hear-requires-clause-go_on
hear-requires-clause-go_on c =
    go_on_later c.self.inside.moment c.args.event.now.moment c.self.inside.sessions.entries (subst (λ (state : RoutingState). state.moment ≤ c.args.event.now.moment) (sym c.self.view_is) c.requires.later) c.self.invariant

pub invariant_of-self-in-Err-1 : goal.invariant_of-self-in-Err-1
invariant_of-self-in-Err-1 c = none_go_on c.args.event.now.moment c.clear.new.self.entries c.clear.ensures.empty

pub returns-then-not-is_on-clause-hears : goal.returns-then-not-is_on-clause-hears
unfolding HasHeard
returns-then-not-is_on-clause-hears c = λ earlier h.
    let heard = subst (λ (state : RoutingState). HasHeard state earlier) (sym c.self.view_is) h in
    off_lives c.self.inside.daemons c.args.event.now earlier c.self.inside.local c.self.inside.sessions.entries (sym c.is_on.ensures ∙ c.if-not-is_on.true) heard

pub returns-in-Ok-clause-hears : goal.returns-in-Ok-clause-hears
unfolding HasHeard
returns-in-Ok-clause-hears c = λ earlier h.
    let heard = subst (λ (state : RoutingState). HasHeard state earlier) (sym c.self.view_is) h in
    on_lives c.self.inside.daemons c.args.event.now earlier c.self.inside.local c.hear.new.sessions.entries c.new-turn.result c.hear.new.turn (sym c.is_on.ensures ∙ c.if-not-is_on.false)
    (c.in-Ok.ensures.heard (events_on c.self.inside.daemons earlier) heard)

pub returns-then-not-is_on-clause-messages : goal.returns-then-not-is_on-clause-messages
returns-then-not-is_on-clause-messages c = λ earlier h.
    subst (λ (state : RoutingState). messages_of state.daemons state.local earlier ++ map message_view c.new-turn.result.messages ≡ messages_of state.daemons state.local (c.args.event.now ∷ earlier)) c.self.view_is
    (off_messages c.self.inside.daemons c.args.event.now earlier c.self.inside.local (map message_view c.new-turn.result.messages) (sym c.is_on.ensures ∙ c.if-not-is_on.true) (ap (λ (messages : List RouteMessage). map message_view messages) c.new-turn.ensures.messages))

pub returns-in-Ok-clause-messages : goal.returns-in-Ok-clause-messages
unfolding HasHeard
returns-in-Ok-clause-messages c = λ earlier h.
    let heard = subst (λ (state : RoutingState). HasHeard state earlier) (sym c.self.view_is) h in
    subst (λ (state : RoutingState). messages_of state.daemons state.local earlier ++ map message_view c.hear.new.turn.messages ≡ messages_of state.daemons state.local (c.args.event.now ∷ earlier)) c.self.view_is
    (on_messages c.self.inside.daemons c.args.event.now earlier c.self.inside.local c.hear.new.sessions.entries c.new-turn.result c.hear.new.turn (sym c.is_on.ensures ∙ c.if-not-is_on.false)
    (c.in-Ok.ensures.heard (events_on c.self.inside.daemons earlier) heard) c.new-turn.ensures.messages)

pub returns-then-not-is_on-clause-replies : goal.returns-then-not-is_on-clause-replies
returns-then-not-is_on-clause-replies c = λ earlier h.
    subst (λ (state : RoutingState). replies_of state.daemons state.local earlier ++ c.new-turn.result.replies ≡ replies_of state.daemons state.local (c.args.event.now ∷ earlier)) c.self.view_is
    (off_replies c.self.inside.daemons c.args.event.now earlier c.self.inside.local (c.new-turn.result.replies) (sym c.is_on.ensures ∙ c.if-not-is_on.true) (c.new-turn.ensures.replies))

pub returns-in-Ok-clause-replies : goal.returns-in-Ok-clause-replies
unfolding HasHeard
returns-in-Ok-clause-replies c = λ earlier h.
    let heard = subst (λ (state : RoutingState). HasHeard state earlier) (sym c.self.view_is) h in
    subst (λ (state : RoutingState). replies_of state.daemons state.local earlier ++ c.hear.new.turn.replies ≡ replies_of state.daemons state.local (c.args.event.now ∷ earlier)) c.self.view_is
    (on_replies c.self.inside.daemons c.args.event.now earlier c.self.inside.local c.hear.new.sessions.entries c.new-turn.result c.hear.new.turn (sym c.is_on.ensures ∙ c.if-not-is_on.false)
    (c.in-Ok.ensures.heard (events_on c.self.inside.daemons earlier) heard) c.new-turn.ensures.replies)

pub returns-then-not-is_on-clause-closures : goal.returns-then-not-is_on-clause-closures
returns-then-not-is_on-clause-closures c = λ earlier h.
    subst (λ (state : RoutingState). closures_of state.daemons state.local earlier ++ c.new-turn.result.closures ≡ closures_of state.daemons state.local (c.args.event.now ∷ earlier)) c.self.view_is
    (off_closures c.self.inside.daemons c.args.event.now earlier c.self.inside.local (c.new-turn.result.closures) (sym c.is_on.ensures ∙ c.if-not-is_on.true) (c.new-turn.ensures.closures))

pub returns-in-Ok-clause-closures : goal.returns-in-Ok-clause-closures
unfolding HasHeard
returns-in-Ok-clause-closures c = λ earlier h.
    let heard = subst (λ (state : RoutingState). HasHeard state earlier) (sym c.self.view_is) h in
    subst (λ (state : RoutingState). closures_of state.daemons state.local earlier ++ c.hear.new.turn.closures ≡ closures_of state.daemons state.local (c.args.event.now ∷ earlier)) c.self.view_is
    (on_closures c.self.inside.daemons c.args.event.now earlier c.self.inside.local c.hear.new.sessions.entries c.new-turn.result c.hear.new.turn (sym c.is_on.ensures ∙ c.if-not-is_on.false)
    (c.in-Ok.ensures.heard (events_on c.self.inside.daemons earlier) heard) c.new-turn.ensures.closures)
