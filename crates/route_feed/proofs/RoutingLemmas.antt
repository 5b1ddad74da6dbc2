-- What is kept of sessions behind one more event.
use Rattle.std.proofs.Common.{◌≡◌, ◌∙◌, ◌≤◌, ◌++◌, ◌∷◌, [], ℕ, Bool, false, true, cond, List, sym, ap, subst, append-nil, arith, map}
use Rattle.std.specs.Prelude.{Option, Some, None}
use Rattle.acct_types.specs.Updates.{Message, message_view}
use Rattle.acct_types.specs.declared.route_event.Reply.{Reply}
use Rattle.acct_types.specs.declared.route_event.RouteEvent.{RouteEvent}
use Rattle.bgp_session.specs.Sessions.{SessionState}
use Rattle.bgp_session.specs.declared.progress.Local.{Local}
use Rattle.route_feed.specs.Events.{events_on, is_on}
use Rattle.route_feed.specs.Lives.{life_of}
use Rattle.route_feed.specs.Routings.{AllGoOn, AreOf, GoesOnIf, Sessions, session_at}
use Rattle.route_feed.specs.Steps.{Heard}
use Rattle.route_feed.specs.Told.{closures_at, closures_in, closures_of, messages_at, messages_in, messages_of, replies_at, replies_in, replies_of}
use Rattle.route_feed.specs.declared.closure.Closure.{Closure}
use Rattle.route_feed.specs.declared.daemons.Daemons.{Daemons}
use Rattle.route_feed.specs.declared.turn.RouteTurn.{RouteTurn}

pub go_on_later : (before now : ℕ) (sessions : Sessions) → before ≤ now → AllGoOn before sessions → AllGoOn now sessions
unfolding AllGoOn
go_on_later before now sessions later all = λ address. by (session_at address sessions) (all address)
  where
    by : (state : Option SessionState) → GoesOnIf before state → GoesOnIf now state
    by None goes_on = tt
    by (Some state) goes_on = record { live = goes_on.live; earlier = omega (arith, goes_on.earlier, later) }

pub none_go_on : (moment : ℕ) (sessions : Sessions) → sessions ≡ [] → AllGoOn moment sessions
unfolding AllGoOn
none_go_on moment sessions none = λ address. subst (λ (sessions : Sessions). GoesOnIf moment (session_at address sessions)) (sym none) tt

module _ (daemons : Daemons) (event : RouteEvent) (earlier : List RouteEvent) where
  pub off : is_on daemons event.side event.act ≡ false → events_on daemons (event ∷ earlier) ≡ events_on daemons earlier
  off is = ap (λ (b : Bool). cond b (event ∷ events_on daemons earlier) (events_on daemons earlier)) is

  on : is_on daemons event.side event.act ≡ true → events_on daemons (event ∷ earlier) ≡ event ∷ events_on daemons earlier
  on is = ap (λ (b : Bool). cond b (event ∷ events_on daemons earlier) (events_on daemons earlier)) is

  -- an event of a daemon that isn't on
  pub off_lives : (local : Local) (sessions : Sessions) → is_on daemons event.side event.act ≡ false → AreOf local sessions (life_of local (events_on daemons earlier))
      → AreOf local sessions (life_of local (events_on daemons (event ∷ earlier)))
  off_lives local sessions is all = subst (λ (events : List RouteEvent). AreOf local sessions (life_of local events)) (sym (off is)) all

  pub off_messages : (local : Local) (more : List Message) → is_on daemons event.side event.act ≡ false → more ≡ [] → messages_of daemons local earlier ++ more ≡ messages_of daemons local (event ∷ earlier)
  unfolding messages_of
  off_messages local more is none =
      ap (λ (more : List Message). messages_in local (events_on daemons earlier) ++ more) none ∙ append-nil (messages_in local (events_on daemons earlier))
      ∙ sym (ap (λ (events : List RouteEvent). messages_in local events) (off is))

  pub off_replies : (local : Local) (more : List Reply) → is_on daemons event.side event.act ≡ false → more ≡ [] → replies_of daemons local earlier ++ more ≡ replies_of daemons local (event ∷ earlier)
  unfolding replies_of
  off_replies local more is none =
      ap (λ (more : List Reply). replies_in local (events_on daemons earlier) ++ more) none ∙ append-nil (replies_in local (events_on daemons earlier))
      ∙ sym (ap (λ (events : List RouteEvent). replies_in local events) (off is))

  pub off_closures : (local : Local) (more : List Closure) → is_on daemons event.side event.act ≡ false → more ≡ [] → closures_of daemons local earlier ++ more ≡ closures_of daemons local (event ∷ earlier)
  unfolding closures_of
  off_closures local more is none =
      ap (λ (more : List Closure). closures_in local (events_on daemons earlier) ++ more) none ∙ append-nil (closures_in local (events_on daemons earlier))
      ∙ sym (ap (λ (events : List RouteEvent). closures_in local events) (off is))

  -- an event of one that is
  module _ (local : Local) (sessions : Sessions) (before now : RouteTurn) (is : is_on daemons event.side event.act ≡ true) (heard : Heard local (events_on daemons earlier) event sessions before now) where
    pub on_lives : AreOf local sessions (life_of local (events_on daemons (event ∷ earlier)))
    on_lives = subst (λ (events : List RouteEvent). AreOf local sessions (life_of local events)) (sym (on is)) heard.lives

    pub on_messages : before.messages ≡ [] → messages_of daemons local earlier ++ map message_view now.messages ≡ messages_of daemons local (event ∷ earlier)
    unfolding messages_of
    on_messages none =
        ap (λ (more : List Message). messages_in local (events_on daemons earlier) ++ more)
        (heard.messages ∙ ap (λ messages. map message_view messages ++ messages_at local (events_on daemons earlier) event) none)
        ∙ sym (ap (λ (events : List RouteEvent). messages_in local events) (on is))

    pub on_replies : before.replies ≡ [] → replies_of daemons local earlier ++ now.replies ≡ replies_of daemons local (event ∷ earlier)
    unfolding replies_of
    on_replies none =
        ap (λ (more : List Reply). replies_in local (events_on daemons earlier) ++ more)
        (heard.replies ∙ ap (λ replies. replies ++ replies_at local (events_on daemons earlier) event) none)
        ∙ sym (ap (λ (events : List RouteEvent). replies_in local events) (on is))

    pub on_closures : before.closures ≡ [] → closures_of daemons local earlier ++ now.closures ≡ closures_of daemons local (event ∷ earlier)
    unfolding closures_of
    on_closures none =
        ap (λ (more : List Closure). closures_in local (events_on daemons earlier) ++ more)
        (heard.closures ∙ ap (λ closures. closures ++ closures_at local (events_on daemons earlier) event) none)
        ∙ sym (ap (λ (events : List RouteEvent). closures_in local events) (on is))
