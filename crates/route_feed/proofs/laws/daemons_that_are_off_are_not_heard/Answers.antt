use Rattle.std.proofs.Common.{List, ap}
use Rattle.acct_types.specs.declared.route_event.RouteEvent.{RouteEvent}
use Rattle.route_feed.specs.Told.{closures_in, closures_of, messages_in, messages_of, replies_in, replies_of}
use Rattle.route_feed.proofs.RoutingLemmas.{off}
use Rattle.route_feed.proofs.laws.daemons_that_are_off_are_not_heard.Goals as goal

pub returns : goal.returns
unfolding messages_of replies_of closures_of
returns c = record {
  messages = λ daemons local event earlier is. ap (λ (events : List RouteEvent). messages_in local events) (off daemons event earlier is);
  replies = λ daemons local event earlier is. ap (λ (events : List RouteEvent). replies_in local events) (off daemons event earlier is);
  closures = λ daemons local event earlier is. ap (λ (events : List RouteEvent). closures_in local events) (off daemons event earlier is);
  later = off;
}
