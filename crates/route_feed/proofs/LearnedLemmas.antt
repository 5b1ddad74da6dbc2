-- What is learned of a session is what its life says.
use Rattle.std.proofs.Common.{◌≡◌, ◌∙◌, ◌++◌, ◌∷◌, [], ℕ, Bool, false, true, cond, List, refl, sym, ap, subst, append_assoc, append-nil, length, drop, map}
use Rattle.std.proofs.Math.Seq.{drop-append_seam}
use Rattle.std.specs.Prelude.{Option, Some, None, is_some, ◌&&◌, ◌||◌, if◌then◌else◌}
use Rattle.std.specs.BTreeMap.{is_at}
use Rattle.std.specs.Cmp.{IsTotalOrder}
use Rattle.std.specs.List.{list_any}
use Rattle.std.specs.declared.cmp.Ordering.TheVariants.{Equal}
use Rattle.acct_types.specs.Order.{addr_cmp}
use Rattle.acct_types.specs.Updates.{Message, Said}
use Rattle.acct_types.specs.declared.addr.Addr.{Addr}
use Rattle.acct_types.specs.declared.route_event.Act.{Act}
use Rattle.acct_types.specs.declared.route_event.Act.TheVariants.{Up, Bytes, Down, Tick}
use Rattle.acct_types.specs.declared.route_event.RouteEvent.{RouteEvent}
use Rattle.bgp_msg.specs.Frames.{framed}
use Rattle.bgp_session.specs.Laws.{Grows}
use Rattle.bgp_session.specs.Lives.{closed_by, heard, updates_in}
use Rattle.bgp_session.specs.Moments.{Piece, joined}
use Rattle.bgp_session.specs.declared.progress.Local.{Local}
use Rattle.bgp_session.specs.declared.why.Why.{Why}
use Rattle.framed_pieces.specs.Stream.{messages, rest_of}
use Rattle.route_feed.specs.Events.{events_on, is_bgp}
use Rattle.route_feed.specs.Laws.{is_of_address, learned_behind, learned_by, learned_with}
use Rattle.route_feed.specs.Lives.{is_expired, life_of}
use Rattle.route_feed.specs.Steps.{life_after}
use Rattle.route_feed.specs.Told.{end_by, expired_behind, found_by, messages_at, messages_by, messages_in, messages_of, more_than, reset, resets_by, unexpired, update, updates_by}
use Rattle.route_feed.specs.declared.daemons.Daemons.{Daemons}
use Rattle.route_feed.proofs.ExpiryLemmas.{is_among}
use Rattle.route_feed.proofs.LifeLemmas.{life_open, of_others, of_session}
use Rattle.route_feed.proofs.SessionLemmas.{tied}

nothing_said : updates_in [] ≡ []
unfolding updates_in heard framed messages rest_of
nothing_said = refl

module _ (address : Addr) where
  behind : (before : List Said) (xs ys : List Message) → learned_behind address before (xs ++ ys) ≡ learned_behind address (learned_behind address before xs) ys
  behind before [] ys = refl
  behind before (x ∷ xs) ys = behind (if is_of_address address x.scope then learned_with before x.said else before) xs ys

  reset_all : (moment : ℕ) (before : List Said) (addresses : List Addr) → learned_behind address before (map (reset moment) addresses) ≡ (if list_any (is_at (addr_cmp address)) addresses then [] else before)
  reset_all moment before [] = refl
  reset_all moment before (other ∷ others) =
      reset_all moment (if is_at (addr_cmp address) other then [] else before) others ∙ by (is_at (addr_cmp address) other) (list_any (is_at (addr_cmp address)) others)
    where
      by : (here later : Bool) → (if later then [] else (if here then [] else before)) ≡ (if here || later then [] else before)
      by true true = refl
      by true false = refl
      by false true = refl
      by false false = refl

  -- what is of another address
  module _ (other : Addr) (apart : is_at (addr_cmp address) other ≡ false) where
    updates_apart : (moment : ℕ) (before : List Said) (said : List Said) → learned_behind address before (map (update moment other) said) ≡ before
    updates_apart moment before [] = refl
    updates_apart moment before (one ∷ others) =
        ap (λ (b : Bool). learned_behind address (cond b (before ++ one ∷ []) before) (map (update moment other) others)) apart ∙ updates_apart moment before others

    resets_apart : (moment : ℕ) (before : List Said) (reason : Option Why) → learned_behind address before (resets_by moment other reason) ≡ before
    resets_apart moment before None = refl
    resets_apart moment before (Some reason) = ap (λ (b : Bool). cond b [] before) apart

    act_apart : (moment : ℕ) (act : Act) (before : List Said) (life : Option (List Piece)) → learned_behind address before (messages_by moment other act life) ≡ before
    act_apart moment act before None = refl
    act_apart moment act before (Some pieces) =
        behind before (map (update moment other) (updates_by act pieces)) (resets_by moment other (end_by act pieces))
        ∙ ap (λ (said : List Said). learned_behind address said (resets_by moment other (end_by act pieces))) (updates_apart moment before (updates_by act pieces))
        ∙ resets_apart moment before (end_by act pieces)

  -- what is of this one
  module _ (here : is_at (addr_cmp address) address ≡ true) (grows : (local : Local) (octets more : List ℕ) → closed_by octets ≡ None → Grows local octets more) where
    updates_here : (moment : ℕ) (before : List Said) (said : List Said) → learned_behind address before (map (update moment address) said) ≡ before ++ said
    updates_here moment before [] = sym (append-nil before)
    updates_here moment before (one ∷ others) =
        ap (λ (b : Bool). learned_behind address (cond b (before ++ one ∷ []) before) (map (update moment address) others)) here
        ∙ updates_here moment (before ++ one ∷ []) others ∙ append_assoc before (one ∷ []) others

    resets_here : (moment : ℕ) (before : List Said) (reason : Option Why) → learned_behind address before (resets_by moment address reason) ≡ (if is_some reason then [] else before)
    resets_here moment before None = refl
    resets_here moment before (Some reason) = ap (λ (b : Bool). cond b [] before) here

    more_learned : (local : Local) (octets more : List ℕ) → closed_by octets ≡ None → updates_in octets ++ more_than (updates_in octets) (updates_in (octets ++ more)) ≡ updates_in (octets ++ more)
    more_learned local octets more none =
        let by = grows local octets more none in
        ap (λ (said : List Said). updates_in octets ++ drop (length (updates_in octets)) said) by.learned
        ∙ ap (λ (said : List Said). updates_in octets ++ said) (drop-append_seam (updates_in octets) by.updates) ∙ sym by.learned

    act_here : (local : Local) (moment : ℕ) (act : Act) (life : Option (List Piece)) → ((pieces : List Piece) → life ≡ Some pieces → closed_by (joined pieces) ≡ None)
        → learned_behind address (learned_by life) (messages_by moment address act life) ≡ learned_by (life_after moment act life)
    act_here local moment Up None shut_never = sym nothing_said
    act_here local moment (Bytes octets) None shut_never = refl
    act_here local moment Down None shut_never = refl
    act_here local moment Tick None shut_never = refl
    act_here local moment Up (Some pieces) shut_never = ap (λ (b : Bool). cond b [] (updates_in (joined pieces))) here ∙ sym nothing_said
    act_here local moment Down (Some pieces) shut_never = ap (λ (b : Bool). cond b [] (updates_in (joined pieces))) here
    act_here local moment Tick (Some pieces) shut_never = refl
    act_here local moment (Bytes octets) (Some pieces) shut_never =
        let a = joined pieces in
        behind (updates_in a) (map (update moment address) (updates_by (Bytes octets) pieces)) (resets_by moment address (closed_by (a ++ octets)))
        ∙ ap (λ (said : List Said). learned_behind address said (resets_by moment address (closed_by (a ++ octets)))) (updates_here moment (updates_in a) (updates_by (Bytes octets) pieces) ∙ more_learned local a octets (shut_never pieces refl))
        ∙ resets_here moment (updates_in (a ++ octets)) (closed_by (a ++ octets))
        ∙ by (is_some (closed_by (a ++ octets)))
      where
        by : (over : Bool) → (if over then [] else updates_in (joined pieces ++ octets)) ≡ learned_by (if over then None else Some (record { moment = moment; octets = octets } ∷ pieces))
        by true = refl
        by false = refl

module _ (total : IsTotalOrder addr_cmp) (equal : (a b : Addr) → addr_cmp a b ≡ Equal → a ≡ b)
    (grows : (local : Local) (octets more : List ℕ) → closed_by octets ≡ None → Grows local octets more) (local : Local) (address : Addr) where
  -- the sessions that are expired are reset
  learned_expired : (moment : ℕ) (life : Option (List Piece)) (expired : Bool) → is_expired local moment life ≡ expired → (if expired then [] else learned_by life) ≡ learned_by (unexpired local moment life)
  learned_expired moment life true is = sym (ap (λ (b : Bool). learned_by (cond b None life)) is)
  learned_expired moment life false is = sym (ap (λ (b : Bool). learned_by (cond b None life)) is)

  unexpired_open : (earlier : List RouteEvent) (moment : ℕ) (expired : Bool) → is_expired local moment (life_of local earlier address) ≡ expired
      → (pieces : List Piece) → (if expired then None else life_of local earlier address) ≡ Some pieces → closed_by (joined pieces) ≡ None
  unexpired_open earlier moment true is pieces same = cc same
  unexpired_open earlier moment false is pieces same = life_open local earlier address pieces same

  -- what an event's own session says
  learned_own : (earlier : List RouteEvent) (event : RouteEvent) (bgp here : Bool) → is_bgp event.side ≡ bgp → is_at (addr_cmp address) event.address ≡ here
      → learned_behind address (learned_by (unexpired local event.moment (life_of local earlier address)))
      (messages_by event.moment event.address event.act (if bgp then unexpired local event.moment (life_of local earlier event.address) else None))
      ≡ learned_by (life_of local (event ∷ earlier) address)
  learned_own earlier event true true bgp here =
      let life = unexpired local event.moment (life_of local earlier address) in
      subst (λ (other : Addr). learned_behind address (learned_by life) (messages_by event.moment other event.act (unexpired local event.moment (life_of local earlier other))) ≡ learned_by (life_of local (event ∷ earlier) address))
      (tied equal address event.address here)
      (act_here address (ap (λ (other : Addr). is_at (addr_cmp address) other) (tied equal address event.address here) ∙ here) grows local event.moment event.act life
      (unexpired_open earlier event.moment (is_expired local event.moment (life_of local earlier address)) refl)
      ∙ ap learned_by (sym (of_session local address event earlier ((λ i. bgp i && here i)))))
  learned_own earlier event true false bgp apart =
      act_apart address event.address apart event.moment event.act (learned_by (unexpired local event.moment (life_of local earlier address))) (unexpired local event.moment (life_of local earlier event.address))
      ∙ ap learned_by (sym (of_others local address event earlier (λ i. bgp i && apart i)))
  learned_own earlier event false here bgp is = ap learned_by (sym (of_others local address event earlier (λ i. bgp i && is i)))

  no_event : [] ≡ learned_by (life_of local [] address)
  unfolding life_of
  no_event = refl

  learned_in : (events : List RouteEvent) → learned_behind address [] (messages_in local events) ≡ learned_by (life_of local events address)
  learned_in [] = no_event
  learned_in (event ∷ earlier) =
      let expired = map (reset event.moment) (expired_behind local earlier event.moment) in
      let own = messages_by event.moment event.address event.act (found_by local earlier event) in
      behind address [] (messages_in local earlier) (messages_at local earlier event)
      ∙ ap (λ (said : List Said). learned_behind address said (messages_at local earlier event)) (learned_in earlier)
      ∙ behind address (learned_by (life_of local earlier address)) expired own
      ∙ ap (λ (said : List Said). learned_behind address said own)
      (reset_all address event.moment (learned_by (life_of local earlier address)) (expired_behind local earlier event.moment)
      ∙ ap (λ (b : Bool). if b then [] else learned_by (life_of local earlier address)) (is_among total equal event.moment local earlier address)
      ∙ learned_expired event.moment (life_of local earlier address) (is_expired local event.moment (life_of local earlier address)) refl)
      ∙ learned_own earlier event (is_bgp event.side) (is_at (addr_cmp address) event.address) refl refl

  pub learned_is_said : (daemons : Daemons) (events : List RouteEvent) → learned_behind address [] (messages_of daemons local events) ≡ learned_by (life_of local (events_on daemons events) address)
  unfolding messages_of
  learned_is_said daemons events = learned_in (events_on daemons events)
