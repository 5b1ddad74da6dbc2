-- The addresses of sessions, in their order.
use Rattle.std.proofs.Common.{◌≡◌, ◌∙◌, ◌∷◌, [], Bool, false, true, List, refl, sym, ap}
use Rattle.std.specs.Prelude.{Option, Some, None, option_map, ◌||◌, ◌&&◌, if◌then◌else◌}
use Rattle.std.specs.BTreeMap.{is_at}
use Rattle.std.specs.BTreeSet.{insert_key}
use Rattle.std.specs.Cmp.{IsTotalOrder}
use Rattle.std.specs.List.{AllByRecursion, list_any}
use Rattle.std.specs.List.Sorted.{IsStrictlySortedBy}
use Rattle.std.specs.Ordering.{match_ordering, ordering_reverse}
use Rattle.std.specs.declared.cmp.Ordering.{Ordering}
use Rattle.std.specs.declared.cmp.Ordering.TheVariants.{Less, Equal, Greater}
use Rattle.acct_types.specs.Order.{addr_cmp}
use Rattle.acct_types.specs.declared.addr.Addr.{Addr}
use Rattle.acct_types.specs.declared.route_event.RouteEvent.{RouteEvent}
use Rattle.route_feed.specs.Events.{is_bgp, is_up}
use Rattle.route_feed.specs.Lives.{since_up}
use Rattle.route_feed.specs.Told.{addresses_up}

module _ {K : Type 0} {R : K → K → Ordering} (total : IsTotalOrder R) where
  below_all : (x y : K) (ks : List K) → R x y ≡ Less → AllByRecursion (λ z. R y z ≡ Less) ks → AllByRecursion (λ z. R x z ≡ Less) ks
  below_all x y [] less all = tt
  below_all x y (z ∷ zs) less all = (total.trans x y z less all.0, below_all x y zs less all.1)

  below_put : (x k : K) (ks : List K) → R x k ≡ Less → AllByRecursion (λ y. R x y ≡ Less) ks → AllByRecursion (λ y. R x y ≡ Less) (insert_key R ks k)
  below_put x k [] less all = (less, tt)
  below_put x k (y ∷ ys) less all =
      elim (R k y) as (λ o. AllByRecursion (λ y. R x y ≡ Less) (match_ordering o (k ∷ y ∷ ys) (y ∷ ys) (y ∷ insert_key R ys k))) [
        | Less ↦ (less, all)
        | Equal ↦ all
        | Greater ↦ (all.0, below_put x k ys less all.1)
      ]

  sorted_put : (k : K) (ks : List K) → IsStrictlySortedBy R ks → IsStrictlySortedBy R (insert_key R ks k)
  unfolding IsStrictlySortedBy
  sorted_put k [] sorted = (tt, tt)
  sorted_put k (y ∷ ys) sorted =
      elim (R k y) as (λ o. R k y ≡ o → IsStrictlySortedBy R (match_ordering o (k ∷ y ∷ ys) (y ∷ ys) (y ∷ insert_key R ys k))) [
        | Less ↦ λ is. ((is, below_all k y ys is sorted.0), sorted)
        | Equal ↦ λ _. sorted
        | Greater ↦ λ is. (below_put y k ys (total.antisymm y k ∙ ap ordering_reverse is) sorted.0, sorted_put k ys sorted.1)
      ] refl

or_true : (a b : Bool) → b ≡ true → (a || b) ≡ true
or_true false b h = h
or_true true b h = refl

-- what was among keys is still there behind one more
kept : {K : Type 0} (R : K → K → Ordering) (test : K → Bool) (k : K) (ks : List K) → list_any test ks ≡ true → list_any test (insert_key R ks k) ≡ true
kept R test k [] h = absurd (cc)
kept R test k (y ∷ ys) h =
    elim (R k y) as (λ o. list_any test (match_ordering o (k ∷ y ∷ ys) (y ∷ ys) (y ∷ insert_key R ys k)) ≡ true) [
      | Less ↦ or_true (test k) (test y || list_any test ys) h
      | Equal ↦ h
      | Greater ↦ by (test y) (kept R test k ys) h
    ]
  where
    by : (b : Bool) → (list_any test ys ≡ true → list_any test (insert_key R ys k) ≡ true) → (b || list_any test ys) ≡ true → (b || list_any test (insert_key R ys k)) ≡ true
    by true others h = refl
    by false others h = others h

-- and so is that one
there : {K : Type 0} (R : K → K → Ordering) (test : K → Bool) (k : K) (ks : List K) → test k ≡ true → ((y : K) → R k y ≡ Equal → test y ≡ true)
    → list_any test (insert_key R ks k) ≡ true
there R test k [] here tied = ap (λ (b : Bool). b || false) here
there R test k (y ∷ ys) here tied =
    elim (R k y) as (λ o. R k y ≡ o → list_any test (match_ordering o (k ∷ y ∷ ys) (y ∷ ys) (y ∷ insert_key R ys k)) ≡ true) [
      | Less ↦ λ is. ap (λ (b : Bool). b || (test y || list_any test ys)) here
      | Equal ↦ λ is. ap (λ (b : Bool). b || list_any test ys) (tied y is)
      | Greater ↦ λ is. or_true (test y) _ (there R test k ys here tied)
    ] refl

pub addresses_sorted : IsTotalOrder addr_cmp → (events : List RouteEvent) → IsStrictlySortedBy addr_cmp (addresses_up events)
unfolding IsStrictlySortedBy
addresses_sorted total [] = tt
addresses_sorted total (event ∷ earlier) = by (is_bgp event.side && is_up event.act) (addresses_sorted total earlier)
  where
    by : (up : Bool) → IsStrictlySortedBy addr_cmp (addresses_up earlier) → IsStrictlySortedBy addr_cmp (if up then insert_key addr_cmp (addresses_up earlier) event.address else addresses_up earlier)
    by true sorted = sorted_put total event.address (addresses_up earlier) sorted
    by false sorted = sorted

-- a session that came up has its address there
pub came_up : ((a b : Addr) → addr_cmp a b ≡ Equal → a ≡ b) → (address : Addr) (events since : List RouteEvent) → since_up address events ≡ Some since
    → list_any (is_at (addr_cmp address)) (addresses_up events) ≡ true
came_up equal address [] since is = cc is
came_up equal address (event ∷ earlier) since is =
    by (is_bgp event.side) (is_at (addr_cmp address) event.address) (is_up event.act) refl (came_up equal address earlier) is
  where
    test : Addr → Bool
    test = is_at (addr_cmp address)

    before : (found : Option (List RouteEvent)) → ((since : List RouteEvent) → found ≡ Some since → list_any test (addresses_up earlier) ≡ true)
        → option_map (λ (since : List RouteEvent). event ∷ since) found ≡ Some since → list_any test (addresses_up earlier) ≡ true
    before None others h = cc h
    before (Some since) others h = others since refl

    by : (bgp at up : Bool) → is_at (addr_cmp address) event.address ≡ at → ((since : List RouteEvent) → since_up address earlier ≡ Some since → list_any test (addresses_up earlier) ≡ true)
        → (if bgp && at && up then Some [] else option_map (λ (since : List RouteEvent). event ∷ since) (since_up address earlier)) ≡ Some since
        → list_any test (if bgp && up then insert_key addr_cmp (addresses_up earlier) event.address else addresses_up earlier) ≡ true
    by true true true at others h = there addr_cmp test event.address (addresses_up earlier) at (λ y tied. ap test (sym (equal event.address y tied)) ∙ at)
    by true true false at others h = before (since_up address earlier) others h
    by true false true at others h = kept addr_cmp test event.address (addresses_up earlier) (before (since_up address earlier) others h)
    by true false false at others h = before (since_up address earlier) others h
    by false here up at others h = before (since_up address earlier) others h
