-- The moments of messages.
use Rattle.std.proofs.Common.{◌≡◌, ◌≤◌, ◌++◌, ◌∷◌, [], ℕ, Bool, false, true, List, refl, sym, subst, arith, map}
use Rattle.std.specs.Prelude.{Option, Some, None, if◌then◌else◌}
use Rattle.std.specs.List.{AllByRecursion}
use Rattle.std.proofs.lemmas.List.{map-append}
use Rattle.acct_types.specs.Updates.{Message, Said}
use Rattle.acct_types.specs.declared.addr.Addr.{Addr}
use Rattle.acct_types.specs.declared.route_event.Act.{Act}
use Rattle.acct_types.specs.declared.route_event.RouteEvent.{RouteEvent}
use Rattle.bgp_session.specs.Moments.{Piece}
use Rattle.bgp_session.specs.declared.progress.Local.{Local}
use Rattle.bgp_session.specs.declared.why.Why.{Why}
use Rattle.route_feed.specs.Events.{events_on, is_on}
use Rattle.route_feed.specs.Laws.{AreInOrder, NeverFall, last_moment}
use Rattle.route_feed.specs.Told.{end_by, expired_behind, found_by, messages_at, messages_by, messages_in, messages_of, reset, resets_by, update, updates_by}
use Rattle.route_feed.specs.declared.daemons.Daemons.{Daemons}

abbrev moments : List Message → List ℕ
moments messages = map (λ message. message.moment) messages

abbrev UpTo : ℕ → List ℕ → Type 0
UpTo moment xs = AllByRecursion (λ x. x ≤ moment) xs

abbrev AllAt : ℕ → List ℕ → Type 0
AllAt moment xs = AllByRecursion (λ x. x ≡ moment) xs

all_append : (P : ℕ → Type 0) (xs ys : List ℕ) → AllByRecursion P xs → AllByRecursion P ys → AllByRecursion P (xs ++ ys)
all_append P [] ys first later = later
all_append P (x ∷ xs) ys first later = (first.0, all_append P xs ys first.1 later)

further : (before now : ℕ) (xs : List ℕ) → before ≤ now → UpTo before xs → UpTo now xs
further before now [] later all = tt
further before now (x ∷ xs) later all = (let first_by = all.0 in grind (arith, first_by, later), further before now xs later all.1)

at_most : (moment : ℕ) (xs : List ℕ) → AllAt moment xs → UpTo moment xs
at_most moment [] all = tt
at_most moment (x ∷ xs) all = (let first_by = all.0 in grind (arith, first_by), at_most moment xs all.1)

pushed : (since moment : ℕ) (xs ys : List ℕ) → NeverFall since xs → UpTo moment xs → since ≤ moment → AllAt moment ys → NeverFall since (xs ++ ys)
pushed since moment [] [] falls up later at = tt
pushed since moment [] (y ∷ ys) falls up later at =
    let here = at.0 in (grind (arith, here, later), pushed y moment [] ys tt tt (grind (arith, here)) at.1)
pushed since moment (x ∷ xs) ys falls up later at = (falls.0, pushed x moment xs ys falls.1 up.1 up.0 at)

at_resets : (moment : ℕ) (addresses : List Addr) → AllAt moment (moments (map (reset moment) addresses))
at_resets moment [] = tt
at_resets moment (address ∷ others) = (refl, at_resets moment others)

at_updates : (moment : ℕ) (address : Addr) (said : List Said) → AllAt moment (moments (map (update moment address) said))
at_updates moment address [] = tt
at_updates moment address (one ∷ others) = (refl, at_updates moment address others)

at_end : (moment : ℕ) (address : Addr) (reason : Option Why) → AllAt moment (moments (resets_by moment address reason))
at_end moment address None = tt
at_end moment address (Some reason) = (refl, tt)

at_both : (moment : ℕ) (xs ys : List Message) → AllAt moment (moments xs) → AllAt moment (moments ys) → AllAt moment (moments (xs ++ ys))
at_both moment xs ys first later =
    subst (λ (all : List ℕ). AllAt moment all) (sym (map-append (λ (message : Message). message.moment) xs ys)) (all_append (λ x. x ≡ moment) (moments xs) (moments ys) first later)

at_act : (moment : ℕ) (address : Addr) (act : Act) (life : Option (List Piece)) → AllAt moment (moments (messages_by moment address act life))
at_act moment address act None = tt
at_act moment address act (Some before) =
    at_both moment (map (update moment address) (updates_by act before)) (resets_by moment address (end_by act before)) (at_updates moment address (updates_by act before)) (at_end moment address (end_by act before))

at_event : (local : Local) (earlier : List RouteEvent) (event : RouteEvent) → AllAt event.moment (moments (messages_at local earlier event))
at_event local earlier event =
    at_both event.moment (map (reset event.moment) (expired_behind local earlier event.moment)) (messages_by event.moment event.address event.act (found_by local earlier event))
    (at_resets event.moment (expired_behind local earlier event.moment)) (at_act event.moment event.address event.act (found_by local earlier event))

never : (local : Local) (events : List RouteEvent) → AreInOrder events → NeverFall 0 (moments (messages_in local events)) × UpTo (last_moment events) (moments (messages_in local events))
never local [] order = (tt, tt)
never local (event ∷ earlier) order =
    let before = never local earlier order.1 in
    let xs = moments (messages_in local earlier) in
    let ys = moments (messages_at local earlier event) in
    let up = further (last_moment earlier) event.moment xs order.0 before.1 in
    let at = at_event local earlier event in
    let both = sym (map-append (λ (message : Message). message.moment) (messages_in local earlier) (messages_at local earlier event)) in (
      subst (λ (all : List ℕ). NeverFall 0 all) both (pushed 0 event.moment xs ys before.0 up (omega arith) at),
      subst (λ (all : List ℕ). UpTo event.moment all) both (all_append (λ x. x ≤ event.moment) xs ys up (at_most event.moment ys at)),
    )

in_order_on : (daemons : Daemons) (events : List RouteEvent) → AreInOrder events → AreInOrder (events_on daemons events) × (last_moment (events_on daemons events) ≤ last_moment events)
in_order_on daemons [] order = (tt, omega arith)
in_order_on daemons (event ∷ earlier) order = by (is_on daemons event.side event.act) (in_order_on daemons earlier order.1)
  where
    by : (on : Bool) → AreInOrder (events_on daemons earlier) × (last_moment (events_on daemons earlier) ≤ last_moment earlier)
        → AreInOrder (if on then event ∷ events_on daemons earlier else events_on daemons earlier) × (last_moment (if on then event ∷ events_on daemons earlier else events_on daemons earlier) ≤ event.moment)
    by true h = (let first = h.1 in let later = order.0 in (omega (arith, first, later), h.0), omega arith)
    by false h = (h.0, let first = h.1 in let later = order.0 in omega (arith, first, later))

pub moments_in_order : (daemons : Daemons) (local : Local) (events : List RouteEvent) → AreInOrder events → NeverFall 0 (map (λ message. message.moment) (messages_of daemons local events))
unfolding messages_of
moments_in_order daemons local events order = (never local (events_on daemons events) (in_order_on daemons events order).0).0
