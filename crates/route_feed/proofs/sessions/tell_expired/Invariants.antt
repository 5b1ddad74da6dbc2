use Rattle.std.proofs.Common.{◌≡◌, ◌++◌, map}
use Rattle.acct_types.specs.Updates.{message_view}
use Rattle.bgp_session.specs.declared.why.Why.TheVariants.{HoldExpired}
use Rattle.route_feed.specs.Steps.{expired_of}
use Rattle.route_feed.specs.Told.{closure, expiry_reply, reset}
use Rattle.route_feed.proofs.sessions.tell_expired.Given as goal

-- what is told so far, and what is to come
abbrev pub invariant-loop-address : goal.invariant-loop-address
invariant-loop-address l = record {
  messages : map message_view l.turn.messages ++ map (reset l.moment) (expired_of l.moment l.entries)
      ≡ map message_view l.initial.turn.messages ++ map (reset l.moment) (expired_of l.moment l.sessions.entries);
  replies : l.turn.replies ++ map expiry_reply (expired_of l.moment l.entries) ≡ l.initial.turn.replies ++ map expiry_reply (expired_of l.moment l.sessions.entries);
  closures : l.turn.closures ++ map (closure l.moment HoldExpired) (expired_of l.moment l.entries)
      ≡ l.initial.turn.closures ++ map (closure l.moment HoldExpired) (expired_of l.moment l.sessions.entries);
}
