-- The sessions whose hold time has passed.
use Rattle.std.proofs.Common.{◌≡◌, ◌∙◌, ◌∷◌, [], ℕ, Bool, false, true, cond, List, refl, sym, ap, subst}
use Rattle.std.specs.Prelude.{Option, Some, None, filter, is_some, not, ◌&&◌, if◌then◌else◌}
use Rattle.std.specs.BTreeMap.{is_at}
use Rattle.std.specs.Cmp.{IsTotalOrder, eq_by_cmp_equiv}
use Rattle.std.specs.List.{AllByRecursion, list_any}
use Rattle.std.specs.List.Sorted.{IsStrictlySortedBy}
use Rattle.std.specs.Map.{keys_of}
use Rattle.std.specs.declared.cmp.Ordering.{Ordering}
use Rattle.std.specs.declared.cmp.Ordering.TheVariants.{Less, Equal}
use Rattle.std.proofs.lemmas.List.Kept.{IsStrictlySortedBy-filter}
use Rattle.std.proofs.lemmas.Map.Entries.{lookup-filter-values, option_filter}
use Rattle.std.proofs.lemmas.Map.Keys.{IsDistinct-from_sorted}
use Rattle.std.proofs.lemmas.Map.Lookups.{btree_set_from_contains}
use Rattle.std.proofs.lemmas.Map.Made.{is_member-filter, is_some-lookup}
use Rattle.acct_types.specs.Order.{addr_cmp}
use Rattle.acct_types.specs.declared.addr.Addr.{Addr}
use Rattle.acct_types.specs.declared.route_event.RouteEvent.{RouteEvent}
use Rattle.bgp_session.specs.Moments.{Piece, expired_at}
use Rattle.bgp_session.specs.Sessions.{HasHeard, SessionState, has_expired}
use Rattle.bgp_session.specs.declared.progress.Local.{Local}
use Rattle.route_feed.specs.Lives.{is_expired, life_of, life_since, since_up}
use Rattle.route_feed.specs.Routings.{AllGoOn, AreOf, GoesOnIf, HasTaken, IsOf, Sessions, session_at}
use Rattle.route_feed.specs.Steps.{expired_of, unexpired_of}
use Rattle.route_feed.specs.Told.{addresses_up, expired_behind, unexpired}
use Rattle.route_feed.proofs.AddressLemmas.{addresses_sorted, came_up}
use Rattle.route_feed.proofs.SessionLemmas.{tied}

module _ {K X : Type 0} (R : K → K → Ordering) (p : K × X → Bool) where
  below_filtered : (x : K) (es : List (K × X)) → AllByRecursion (λ y. R x y ≡ Less) (keys_of es) → AllByRecursion (λ y. R x y ≡ Less) (keys_of (filter p es))
  below_filtered x [] all = tt
  below_filtered x (e ∷ es) all = elim (p e) as (λ b. AllByRecursion (λ y. R x y ≡ Less) (keys_of (cond b (e ∷ filter p es) (filter p es)))) [
    | true ↦ (all.0, below_filtered x es all.1)
    | false ↦ below_filtered x es all.1
  ]

  sorted_filtered : (es : List (K × X)) → IsStrictlySortedBy R (keys_of es) → IsStrictlySortedBy R (keys_of (filter p es))
  unfolding IsStrictlySortedBy
  sorted_filtered [] sorted = tt
  sorted_filtered (e ∷ es) sorted = elim (p e) as (λ b. IsStrictlySortedBy R (keys_of (cond b (e ∷ filter p es) (filter p es)))) [
    | true ↦ (below_filtered e.0 es sorted.0, sorted_filtered es sorted.1)
    | false ↦ sorted_filtered es sorted.1
  ]

-- an address whose life is expired came up
among : ((a b : Addr) → addr_cmp a b ≡ Equal → a ≡ b) → (moment : ℕ) (local : Local) (earlier : List RouteEvent) (address : Addr)
    → (list_any (is_at (addr_cmp address)) (addresses_up earlier) && is_expired local moment (life_of local earlier address)) ≡ is_expired local moment (life_of local earlier address)
unfolding life_of
among equal moment local earlier address = by (since_up address earlier) (came_up equal address earlier) (list_any (is_at (addr_cmp address)) (addresses_up earlier)) refl
  where
    by : (since : Option (List RouteEvent)) → ((some : List RouteEvent) → since ≡ Some some → list_any (is_at (addr_cmp address)) (addresses_up earlier) ≡ true)
        → (here : Bool) → list_any (is_at (addr_cmp address)) (addresses_up earlier) ≡ here
        → (here && is_expired local moment (life_since local address since)) ≡ is_expired local moment (life_since local address since)
    by None came true is = refl
    by None came false is = refl
    by (Some since) came true is = refl
    by (Some since) came false is = cc (came since refl, is)

-- whether an address is among those that are expired
pub is_among : IsTotalOrder addr_cmp → ((a b : Addr) → addr_cmp a b ≡ Equal → a ≡ b) → (moment : ℕ) (local : Local) (earlier : List RouteEvent) (address : Addr)
    → list_any (is_at (addr_cmp address)) (expired_behind local earlier moment) ≡ is_expired local moment (life_of local earlier address)
is_among total equal moment local earlier address =
    let test : Addr → Bool = λ address. is_expired local moment (life_of local earlier address) in
    is_member-filter (eq_by_cmp_equiv total) test address (λ x at. ap test (tied equal address x at)) (addresses_up earlier) ∙ among equal moment local earlier address

module _ (total : IsTotalOrder addr_cmp) (equal : (a b : Addr) → addr_cmp a b ≡ Equal → a ≡ b)
    (expiry : (session : SessionState) (pieces : List Piece) (moment : ℕ) → HasHeard session pieces → has_expired session moment ≡ expired_at session.local pieces moment)
    (moment : ℕ) (sessions : Sessions) (sorted : IsStrictlySortedBy addr_cmp (keys_of sessions)) where
  filtered_at : (p : SessionState → Bool) (address : Addr) → session_at address (filter (λ entry. p entry.1) sessions) ≡ option_filter p (session_at address sessions)
  filtered_at p address = lookup-filter-values (eq_by_cmp_equiv total) p address sessions (IsDistinct-from_sorted addr_cmp (keys_of sessions) sorted)

  pub go_on_unexpired : AllGoOn moment sessions → AllGoOn moment (unexpired_of moment sessions)
  unfolding AllGoOn
  go_on_unexpired all = λ address.
      subst (GoesOnIf moment) (sym (filtered_at (λ session. not (has_expired session moment)) address)) (by (session_at address sessions) (all address))
    where
      by : (state : Option SessionState) → GoesOnIf moment state → GoesOnIf moment (option_filter (λ session. not (has_expired session moment)) state)
      by None goes_on = tt
      by (Some state) goes_on = elim (not (has_expired state moment)) as (λ b. GoesOnIf moment (cond b (Some state) None)) [ true ↦ goes_on | false ↦ tt ]

  expired_as : (local : Local) (state : SessionState) (pieces : List Piece) → HasTaken local state pieces → has_expired state moment ≡ expired_at local pieces moment
  expired_as local state pieces taken = expiry state pieces moment taken.heard ∙ ap (λ (side : Local). expired_at side pieces moment) taken.of_side

  pub are_of_unexpired : (local : Local) (lives : Addr → Option (List Piece)) → AreOf local sessions lives → AreOf local (unexpired_of moment sessions) (λ address. unexpired local moment (lives address))
  unfolding AreOf
  are_of_unexpired local lives all = λ address.
      subst (λ (state : Option SessionState). IsOf local state (unexpired local moment (lives address))) (sym (filtered_at (λ session. not (has_expired session moment)) address))
      (by (session_at address sessions) (lives address) (all address))
    where
      one : (state : SessionState) (pieces : List Piece) (mine its : Bool) → mine ≡ its → HasTaken local state pieces
          → IsOf local (cond (not mine) (Some state) None) (if its then None else Some pieces)
      one state pieces true true is taken = tt
      one state pieces true false is taken = absurd (cc)
      one state pieces false true is taken = absurd (cc)
      one state pieces false false is taken = taken

      by : (state : Option SessionState) (life : Option (List Piece)) → IsOf local state life → IsOf local (option_filter (λ session. not (has_expired session moment)) state) (unexpired local moment life)
      by None None of = tt
      by None (Some pieces) of = absurd of
      by (Some state) None of = absurd of
      by (Some state) (Some pieces) of = one state pieces (has_expired state moment) (expired_at local pieces moment) (expired_as local state pieces of) of

  same_expired : (local : Local) (earlier : List RouteEvent) → AreOf local sessions (life_of local earlier) → (address : Addr)
      → list_any (is_at (addr_cmp address)) (expired_of moment sessions) ≡ list_any (is_at (addr_cmp address)) (expired_behind local earlier moment)
  unfolding AreOf
  same_expired local earlier all address =
      sym (is_some-lookup (is_at (addr_cmp address)) (filter (λ entry. has_expired entry.1 moment) sessions))
      ∙ ap (λ (state : Option SessionState). is_some state) (filtered_at (λ session. has_expired session moment) address)
      ∙ by (session_at address sessions) (life_of local earlier address) (all address)
      ∙ sym (is_among total equal moment local earlier address)
    where
      one : (state : SessionState) (mine : Bool) → is_some (cond mine (Some state) None) ≡ mine
      one state true = refl
      one state false = refl

      by : (state : Option SessionState) (life : Option (List Piece)) → IsOf local state life → is_some (option_filter (λ session. has_expired session moment) state) ≡ is_expired local moment life
      by None None of = refl
      by None (Some pieces) of = absurd of
      by (Some state) None of = absurd of
      by (Some state) (Some pieces) of = one state (has_expired state moment) ∙ expired_as local state pieces of

  -- those that are expired are those whose lives are
  pub expired_is : (local : Local) (earlier : List RouteEvent) → AreOf local sessions (life_of local earlier) → expired_of moment sessions ≡ expired_behind local earlier moment
  expired_is local earlier all =
      btree_set_from_contains total (record { keys = expired_of moment sessions }) (record { keys = expired_behind local earlier moment })
      (sorted_filtered addr_cmp (λ (entry : Addr × SessionState). has_expired entry.1 moment) sessions sorted)
      (IsStrictlySortedBy-filter addr_cmp (λ address. is_expired local moment (life_of local earlier address)) (addresses_up earlier) (addresses_sorted total earlier))
      (same_expired local earlier all) equal
