-- One event behind others.
use Rattle.std.proofs.Common.{◌≡◌, ◌∙◌, ◌++◌, ◌∷◌, [], ℕ, Bool, false, true, cond, List, refl, sym, ap, subst, append_assoc, append-nil, map}
use Rattle.std.specs.Prelude.{Option, None, ◌&&◌, if◌then◌else◌}
use Rattle.std.specs.BTreeMap.{is_at}
use Rattle.std.specs.Cmp.{IsTotalOrder, eq_by_cmp_equiv}
use Rattle.std.specs.declared.cmp.Ordering.TheVariants.{Equal}
use Rattle.acct_types.specs.Order.{addr_cmp}
use Rattle.acct_types.specs.Updates.{message_view}
use Rattle.acct_types.specs.declared.addr.Addr.{Addr}
use Rattle.acct_types.specs.declared.route_event.RouteEvent.{RouteEvent}
use Rattle.acct_types.specs.declared.route_event.Side.{Side}
use Rattle.acct_types.specs.declared.route_event.Side.TheVariants.{Bgp, Bmp}
use Rattle.bgp_session.specs.Moments.{Piece}
use Rattle.bgp_session.specs.declared.progress.Local.{Local}
use Rattle.bgp_session.specs.declared.why.Why.TheVariants.{HoldExpired}
use Rattle.route_feed.specs.Events.{is_bgp, is_of}
use Rattle.route_feed.specs.Lives.{life_of}
use Rattle.route_feed.specs.Routings.{AreOf, IsOf, Sessions, session_at}
use Rattle.route_feed.specs.Steps.{Acted, Heard, life_after, with_life}
use Rattle.route_feed.specs.Told.{closure, closures_by, expired_behind, expiry_reply, found_by, messages_by, replies_by, reset, unexpired}
use Rattle.route_feed.specs.declared.turn.RouteTurn.{RouteTurn}
use Rattle.route_feed.proofs.LifeLemmas.{of_others, of_session}
use Rattle.route_feed.proofs.SessionLemmas.{tied}

are_of_alike : (local : Local) (sessions : Sessions) (lives others : Addr → Option (List Piece)) → AreOf local sessions lives → ((address : Addr) → lives address ≡ others address) → AreOf local sessions others
unfolding AreOf
are_of_alike local sessions lives others all same = λ address. subst (λ (life : Option (List Piece)). IsOf local (session_at address sessions) life) (same address) (all address)

-- what a turn tells of the sessions that are expired
pub record Expired (local : Local) (earlier : List RouteEvent) (moment : ℕ) (before now : RouteTurn) : Type 0 where
  pub messages : map message_view now.messages ≡ map message_view before.messages ++ map (reset moment) (expired_behind local earlier moment)
  pub replies : now.replies ≡ before.replies ++ map expiry_reply (expired_behind local earlier moment)
  pub closures : now.closures ≡ before.closures ++ map (closure moment HoldExpired) (expired_behind local earlier moment)

then_more : {A : Type 0} (before mid now first more : List A) → mid ≡ before ++ first → now ≡ mid ++ more → now ≡ before ++ (first ++ more)
then_more before mid now first more begun is = is ∙ ap (λ xs. xs ++ more) begun ∙ append_assoc before first more

no_more : {A : Type 0} (before now first : List A) → now ≡ before ++ first → now ≡ before ++ (first ++ [])
no_more before now first is = is ∙ ap (λ xs. before ++ xs) (sym (append-nil first))

module _ (total : IsTotalOrder addr_cmp) (equal : (a b : Addr) → addr_cmp a b ≡ Equal → a ≡ b) where
  -- the lives behind an event of BGP
  lives_next : (local : Local) (earlier : List RouteEvent) (event : RouteEvent) → event.side ≡ Bgp → (address : Addr)
      → with_life event.address (life_after event.moment event.act (unexpired local event.moment (life_of local earlier event.address))) (λ other. unexpired local event.moment (life_of local earlier other)) address
      ≡ life_of local (event ∷ earlier) address
  lives_next local earlier event side address = by (is_at (addr_cmp event.address) address) refl
    where
      mine : is_of address event ≡ is_at (addr_cmp event.address) address
      mine = ap (λ (side : Side). is_bgp side && is_at (addr_cmp address) event.address) side ∙ (eq_by_cmp_equiv total).symm address event.address

      by : (here : Bool) → is_at (addr_cmp event.address) address ≡ here
          → cond here (life_after event.moment event.act (unexpired local event.moment (life_of local earlier event.address))) (unexpired local event.moment (life_of local earlier address)) ≡ life_of local (event ∷ earlier) address
      by true at =
          ap (λ (other : Addr). life_after event.moment event.act (unexpired local event.moment (life_of local earlier other))) (tied equal event.address address at)
          ∙ sym (of_session local address event earlier (mine ∙ at))
      by false at = sym (of_others local address event earlier (mine ∙ at))

  found_bgp : (local : Local) (earlier : List RouteEvent) (event : RouteEvent) → event.side ≡ Bgp → unexpired local event.moment (life_of local earlier event.address) ≡ found_by local earlier event
  found_bgp local earlier event side = sym (ap (λ (side : Side). if is_bgp side then unexpired local event.moment (life_of local earlier event.address) else None) side)

  pub heard_bgp : (local : Local) (earlier : List RouteEvent) (event : RouteEvent) (sessions : Sessions) (before mid now : RouteTurn) → event.side ≡ Bgp → Expired local earlier event.moment before mid
      → Acted local event.moment event.address event.act (λ other. unexpired local event.moment (life_of local earlier other)) sessions mid now → Heard local earlier event sessions before now
  heard_bgp local earlier event sessions before mid now side expired acted =
      let found = found_bgp local earlier event side in
      record {
        lives = are_of_alike local sessions _ (life_of local (event ∷ earlier)) acted.lives (lives_next local earlier event side);
        messages = then_more (map message_view before.messages) (map message_view mid.messages) (map message_view now.messages) (map (reset event.moment) (expired_behind local earlier event.moment))
            (messages_by event.moment event.address event.act (found_by local earlier event)) expired.messages
            (acted.messages ∙ ap (λ (life : Option (List Piece)). map message_view mid.messages ++ messages_by event.moment event.address event.act life) found);
        replies = then_more before.replies mid.replies now.replies (map expiry_reply (expired_behind local earlier event.moment))
            (replies_by local event.address event.act (found_by local earlier event)) expired.replies
            (acted.replies ∙ ap (λ (life : Option (List Piece)). mid.replies ++ replies_by local event.address event.act life) found);
        closures = then_more before.closures mid.closures now.closures (map (closure event.moment HoldExpired) (expired_behind local earlier event.moment))
            (closures_by event.moment event.address event.act (found_by local earlier event)) expired.closures
            (acted.closures ∙ ap (λ (life : Option (List Piece)). mid.closures ++ closures_by event.moment event.address event.act life) found);
      }

-- an event of BMP does nothing else
pub heard_bmp : (local : Local) (earlier : List RouteEvent) (event : RouteEvent) (sessions : Sessions) (before now : RouteTurn) → event.side ≡ Bmp → Expired local earlier event.moment before now
    → AreOf local sessions (λ other. unexpired local event.moment (life_of local earlier other)) → Heard local earlier event sessions before now
heard_bmp local earlier event sessions before now side expired all =
    let none : found_by local earlier event ≡ None = ap (λ (side : Side). if is_bgp side then unexpired local event.moment (life_of local earlier event.address) else None) side in
    record {
      lives = are_of_alike local sessions _ (life_of local (event ∷ earlier)) all
          (λ address. sym (of_others local address event earlier (ap (λ (side : Side). is_bgp side && is_at (addr_cmp address) event.address) side)));
      messages = no_more (map message_view before.messages) (map message_view now.messages) (map (reset event.moment) (expired_behind local earlier event.moment)) expired.messages
          ∙ ap (λ (life : Option (List Piece)). map message_view before.messages ++ (map (reset event.moment) (expired_behind local earlier event.moment) ++ messages_by event.moment event.address event.act life)) (sym none);
      replies = no_more before.replies now.replies (map expiry_reply (expired_behind local earlier event.moment)) expired.replies
          ∙ ap (λ (life : Option (List Piece)). before.replies ++ (map expiry_reply (expired_behind local earlier event.moment) ++ replies_by local event.address event.act life)) (sym none);
      closures = no_more before.closures now.closures (map (closure event.moment HoldExpired) (expired_behind local earlier event.moment)) expired.closures
          ∙ ap (λ (life : Option (List Piece)). before.closures ++ (map (closure event.moment HoldExpired) (expired_behind local earlier event.moment) ++ closures_by event.moment event.address event.act life)) (sym none);
    }
