-- What the laws of the definitions rest on.
use Rattle.std.proofs.Common.{◌≡◌, ◌∙◌, ◌++◌, ◌∷◌, [], ℕ, Bool, false, true, List, refl, sym, ap, subst, map, append-nil}
use Rattle.std.specs.Prelude.{Option, Some, None, filter, if◌then◌else◌}
use Rattle.std.specs.BTreeMap.{is_at}
use Rattle.std.specs.Cmp.{IsTotalOrder, eq_by_cmp_equiv}
use Rattle.std.specs.List.{IsDistinct, list_any}
use Rattle.std.specs.Ordering.{eq_by_cmp}
use Rattle.std.specs.declared.cmp.Ordering.TheVariants.{Equal}
use Rattle.std.proofs.lemmas.List.{map-append}
use Rattle.std.proofs.lemmas.List.Elements.{filter-append}
use Rattle.std.proofs.lemmas.List.Kept.{IsStrictlySortedBy-filter}
use Rattle.std.proofs.lemmas.Map.Keys.{IsDistinct-from_sorted, IsDistinct-push}
use Rattle.acct_types.specs.Order.{addr_cmp}
use Rattle.acct_types.specs.Updates.{Message, Said}
use Rattle.acct_types.specs.declared.addr.Addr.{Addr}
use Rattle.acct_types.specs.declared.route_event.Act.{Act}
use Rattle.acct_types.specs.declared.route_event.Reply.{Reply}
use Rattle.acct_types.specs.declared.route_event.RouteEvent.{RouteEvent}
use Rattle.bgp_session.specs.Moments.{Piece}
use Rattle.bgp_session.specs.declared.progress.Local.{Local}
use Rattle.bgp_session.specs.declared.why.Why.{Why}
use Rattle.bgp_session.specs.declared.why.Why.TheVariants.{HoldExpired}
use Rattle.route_feed.specs.Events.{events_on, is_bgp}
use Rattle.route_feed.specs.Laws.{AreToOthers, is_reset, reset_for}
use Rattle.route_feed.specs.Lives.{is_expired, life_of}
use Rattle.route_feed.specs.Told.{addresses_up, answers_by, closure, closures_at, closures_by, closures_for, closures_in, closures_of, end_by, expired_behind, expiry_reply, found_by, messages_at, messages_by, messages_in, messages_of, replies_at, replies_by, reply_of, reset, resets_by, unexpired, update, updates_by}
use Rattle.route_feed.specs.declared.daemons.Daemons.{Daemons}
use Rattle.route_feed.proofs.AddressLemmas.{addresses_sorted}
use Rattle.route_feed.proofs.ExpiryLemmas.{is_among}

-- ---- each end has its reset

all_resets : (moment : ℕ) (addresses : List Addr) → filter is_reset (map (reset moment) addresses) ≡ map (reset moment) addresses
all_resets moment [] = refl
all_resets moment (address ∷ others) = ap (λ (more : List Message). reset moment address ∷ more) (all_resets moment others)

no_reset : (moment : ℕ) (address : Addr) (said : List Said) → filter is_reset (map (update moment address) said) ≡ []
no_reset moment address [] = refl
no_reset moment address (one ∷ others) = no_reset moment address others

ended_as : (moment : ℕ) (reason : Why) (addresses : List Addr) → map reset_for (map (closure moment reason) addresses) ≡ map (reset moment) addresses
ended_as moment reason [] = refl
ended_as moment reason (address ∷ others) = ap (λ (more : List Message). reset moment address ∷ more) (ended_as moment reason others)

reset_if : (moment : ℕ) (address : Addr) (reason : Option Why) → filter is_reset (resets_by moment address reason) ≡ map reset_for (closures_for moment address reason)
reset_if moment address None = refl
reset_if moment address (Some reason) = refl

resets_by_act : (moment : ℕ) (address : Addr) (act : Act) (life : Option (List Piece)) → filter is_reset (messages_by moment address act life) ≡ map reset_for (closures_by moment address act life)
resets_by_act moment address act None = refl
resets_by_act moment address act (Some before) =
    filter-append is_reset (map (update moment address) (updates_by act before)) (resets_by moment address (end_by act before))
    ∙ ap (λ (more : List Message). more ++ filter is_reset (resets_by moment address (end_by act before))) (no_reset moment address (updates_by act before))
    ∙ reset_if moment address (end_by act before)

resets_at : (local : Local) (earlier : List RouteEvent) (event : RouteEvent) → filter is_reset (messages_at local earlier event) ≡ map reset_for (closures_at local earlier event)
resets_at local earlier event =
    let expired = expired_behind local earlier event.moment in
    let found = found_by local earlier event in
    filter-append is_reset (map (reset event.moment) expired) (messages_by event.moment event.address event.act found)
    ∙ ap (λ (more : List Message). more ++ filter is_reset (messages_by event.moment event.address event.act found)) (all_resets event.moment expired ∙ sym (ended_as event.moment HoldExpired expired))
    ∙ ap (λ (more : List Message). map reset_for (map (closure event.moment HoldExpired) expired) ++ more) (resets_by_act event.moment event.address event.act found)
    ∙ sym (map-append reset_for (map (closure event.moment HoldExpired) expired) (closures_by event.moment event.address event.act found))

resets_in : (local : Local) (events : List RouteEvent) → filter is_reset (messages_in local events) ≡ map reset_for (closures_in local events)
resets_in local [] = refl
resets_in local (event ∷ earlier) =
    filter-append is_reset (messages_in local earlier) (messages_at local earlier event)
    ∙ ap (λ (more : List Message). more ++ filter is_reset (messages_at local earlier event)) (resets_in local earlier)
    ∙ ap (λ (more : List Message). map reset_for (closures_in local earlier) ++ more) (resets_at local earlier event)
    ∙ sym (map-append reset_for (closures_in local earlier) (closures_at local earlier event))

pub ends_reset : (daemons : Daemons) (local : Local) (events : List RouteEvent) → filter is_reset (messages_of daemons local events) ≡ map reset_for (closures_of daemons local events)
unfolding messages_of closures_of
ends_reset daemons local events = resets_in local (events_on daemons events)

-- ---- one reply an event and session

to_each : (addresses : List Addr) → map (λ (reply : Reply). reply.to) (map expiry_reply addresses) ≡ addresses
to_each [] = refl
to_each (address ∷ others) = ap (λ (more : List Addr). address ∷ more) (to_each others)

found_unexpired : (local : Local) (moment : ℕ) (life : Option (List Piece)) (before : List Piece) (expired : Bool) → is_expired local moment life ≡ expired → (if expired then None else life) ≡ Some before → expired ≡ false
found_unexpired local moment life before true is found = cc found
found_unexpired local moment life before false is found = refl

not_expired : (local : Local) (earlier : List RouteEvent) (event : RouteEvent) (before : List Piece) (bgp : Bool)
    → (if bgp then unexpired local event.moment (life_of local earlier event.address) else None) ≡ Some before → is_expired local event.moment (life_of local earlier event.address) ≡ false
not_expired local earlier event before true found =
    found_unexpired local event.moment (life_of local earlier event.address) before (is_expired local event.moment (life_of local earlier event.address)) refl found
not_expired local earlier event before false found = cc found

module _ (total : IsTotalOrder addr_cmp) (equal : (a b : Addr) → addr_cmp a b ≡ Equal → a ≡ b) where
  distinct_expired : (local : Local) (earlier : List RouteEvent) (moment : ℕ) → IsDistinct (eq_by_cmp addr_cmp) (expired_behind local earlier moment)
  distinct_expired local earlier moment =
      IsDistinct-from_sorted addr_cmp (expired_behind local earlier moment)
      (IsStrictlySortedBy-filter addr_cmp (λ address. is_expired local moment (life_of local earlier address)) (addresses_up earlier) (addresses_sorted total earlier))

  with_reply : (expired : List Addr) (address : Addr) (octets : List ℕ) → IsDistinct (eq_by_cmp addr_cmp) expired → list_any (is_at (addr_cmp address)) expired ≡ false
      → IsDistinct (eq_by_cmp addr_cmp) (expired ++ map (λ (reply : Reply). reply.to) (reply_of address octets))
  with_reply expired address [] distinct other = subst (λ (addresses : List Addr). IsDistinct (eq_by_cmp addr_cmp) addresses) (sym (append-nil expired)) distinct
  with_reply expired address (octet ∷ octets) distinct other = IsDistinct-push (eq_by_cmp_equiv total) expired address distinct other

  pub one_reply : (local : Local) (earlier : List RouteEvent) (event : RouteEvent) → AreToOthers (replies_at local earlier event)
  one_reply local earlier event =
      let expired = expired_behind local earlier event.moment in
      subst (λ (addresses : List Addr). IsDistinct (eq_by_cmp addr_cmp) addresses)
      (sym (map-append (λ (reply : Reply). reply.to) (map expiry_reply expired) (replies_by local event.address event.act (found_by local earlier event))
      ∙ ap (λ (addresses : List Addr). addresses ++ map (λ (reply : Reply). reply.to) (replies_by local event.address event.act (found_by local earlier event))) (to_each expired)))
      (by (found_by local earlier event) refl)
    where
      by : (found : Option (List Piece)) → found_by local earlier event ≡ found
          → IsDistinct (eq_by_cmp addr_cmp) (expired_behind local earlier event.moment ++ map (λ (reply : Reply). reply.to) (replies_by local event.address event.act found))
      by None is = subst (λ (addresses : List Addr). IsDistinct (eq_by_cmp addr_cmp) addresses) (sym (append-nil (expired_behind local earlier event.moment))) (distinct_expired local earlier event.moment)
      by (Some before) is =
          with_reply (expired_behind local earlier event.moment) event.address (answers_by local event.act before) (distinct_expired local earlier event.moment)
          (is_among total equal event.moment local earlier event.address ∙ not_expired local earlier event before (is_bgp event.side) is)
