use Rattle.std.proofs.Common.{◌∙◌, ◌++◌, List, ap, map, subst, sym}
use Rattle.std.proofs.lemmas.Result.{on_ok_weaker}
use Rattle.acct_types.specs.Updates.{message_view}
use Rattle.acct_types.specs.declared.addr.Addr.{Addr}
use Rattle.bgp_session.specs.declared.why.Why.TheVariants.{HoldExpired}
use Rattle.route_feed.specs.Lives.{life_of}
use Rattle.route_feed.specs.Routings.{AllGoOn, AreOf, Sessions}
use Rattle.route_feed.specs.Told.{closure, expiry_reply, reset, unexpired}
use Rattle.route_feed.proofs.ExpiryLemmas.{are_of_unexpired, expired_is, go_on_unexpired}
use Rattle.route_feed.proofs.HearingLemmas.{Expired, heard_bgp, heard_bmp}
use Rattle.route_feed.proofs.sessions.hear.Goals as goal

pub act-requires-clause-go_on : goal.act-requires-clause-go_on
act-requires-clause-go_on c =
    let moment = c.args.event.now.moment in
    let equal = λ (a b : Addr). (c.addresses_are_ordered.ensures.equal a b).0 in
    let entries = c.drop_expired.ensures.entries in
    subst (λ (sessions : Sessions). AllGoOn moment sessions) (sym entries)
    (go_on_unexpired c.addresses_are_ordered.ensures.total equal c.expiry_is_by_pieces.ensures moment c.args.sessions.now.entries c.drop_expired.ensures.ordered c.requires.go_on)

pub returns-in-Bgp-clause-heard : goal.returns-in-Bgp-clause-heard
returns-in-Bgp-clause-heard c = λ earlier h.
    let event = c.args.event.now in
    let sessions = c.args.sessions.now.entries in
    let equal = λ (a b : Addr). (c.addresses_are_ordered.ensures.equal a b).0 in
    let expired = expired_is c.addresses_are_ordered.ensures.total equal c.expiry_is_by_pieces.ensures event.moment sessions c.drop_expired.ensures.ordered c.args.local earlier h in
    let told : Expired c.args.local earlier event.moment c.args.turn.now c.tell_expired.new.turn = record {
      messages = c.in_ok-tell_expired.ensures.messages ∙ ap (λ (addresses : List Addr). map message_view c.args.turn.now.messages ++ map (reset event.moment) addresses) expired;
      replies = c.in_ok-tell_expired.ensures.replies ∙ ap (λ (addresses : List Addr). c.args.turn.now.replies ++ map expiry_reply addresses) expired;
      closures = c.in_ok-tell_expired.ensures.closures ∙ ap (λ (addresses : List Addr). c.args.turn.now.closures ++ map (closure event.moment HoldExpired) addresses) expired;
    } in
    let lives = subst (λ (now : Sessions). AreOf c.args.local now (λ other. unexpired c.args.local event.moment (life_of c.args.local earlier other))) (sym c.drop_expired.ensures.entries)
    (are_of_unexpired c.addresses_are_ordered.ensures.total equal c.expiry_is_by_pieces.ensures event.moment sessions c.drop_expired.ensures.ordered c.args.local (life_of c.args.local earlier) h) in
    on_ok_weaker c.act.result (heard_bgp c.addresses_are_ordered.ensures.total equal c.args.local earlier event c.act.new.sessions.entries c.args.turn.now c.tell_expired.new.turn c.act.new.turn c.in-Bgp.is told)
    (c.act.ensures.acted (λ other. unexpired c.args.local event.moment (life_of c.args.local earlier other)) lives)

pub returns-in-Bmp-clause-go_on : goal.returns-in-Bmp-clause-go_on
returns-in-Bmp-clause-go_on c =
    let moment = c.args.event.now.moment in
    let equal = λ (a b : Addr). (c.addresses_are_ordered.ensures.equal a b).0 in
    let entries = c.drop_expired.ensures.entries in
    subst (λ (sessions : Sessions). AllGoOn moment sessions) (sym entries)
    (go_on_unexpired c.addresses_are_ordered.ensures.total equal c.expiry_is_by_pieces.ensures moment c.args.sessions.now.entries c.drop_expired.ensures.ordered c.requires.go_on)

pub returns-in-Bmp-clause-heard : goal.returns-in-Bmp-clause-heard
returns-in-Bmp-clause-heard c = λ earlier h.
    let event = c.args.event.now in
    let sessions = c.args.sessions.now.entries in
    let equal = λ (a b : Addr). (c.addresses_are_ordered.ensures.equal a b).0 in
    let expired = expired_is c.addresses_are_ordered.ensures.total equal c.expiry_is_by_pieces.ensures event.moment sessions c.drop_expired.ensures.ordered c.args.local earlier h in
    let told : Expired c.args.local earlier event.moment c.args.turn.now c.tell_expired.new.turn = record {
      messages = c.in_ok-tell_expired.ensures.messages ∙ ap (λ (addresses : List Addr). map message_view c.args.turn.now.messages ++ map (reset event.moment) addresses) expired;
      replies = c.in_ok-tell_expired.ensures.replies ∙ ap (λ (addresses : List Addr). c.args.turn.now.replies ++ map expiry_reply addresses) expired;
      closures = c.in_ok-tell_expired.ensures.closures ∙ ap (λ (addresses : List Addr). c.args.turn.now.closures ++ map (closure event.moment HoldExpired) addresses) expired;
    } in
    let lives = subst (λ (now : Sessions). AreOf c.args.local now (λ other. unexpired c.args.local event.moment (life_of c.args.local earlier other))) (sym c.drop_expired.ensures.entries)
    (are_of_unexpired c.addresses_are_ordered.ensures.total equal c.expiry_is_by_pieces.ensures event.moment sessions c.drop_expired.ensures.ordered c.args.local (life_of c.args.local earlier) h) in
    heard_bmp c.args.local earlier event c.drop_expired.new.sessions.entries c.args.turn.now c.tell_expired.new.turn c.in-Bmp.is told lives
