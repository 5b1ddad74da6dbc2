-- A life behind one more event.
use Rattle.std.proofs.Common.{◌≡◌, ◌∙◌, ◌++◌, ◌∷◌, [], ℕ, Bool, false, true, cond, List, refl, sym, ap}
use Rattle.std.specs.Prelude.{unwrap_or, Option, Some, None, is_some, option_map, ◌||◌, ◌&&◌, if◌then◌else◌}
use Rattle.acct_types.specs.declared.addr.Addr.{Addr}
use Rattle.acct_types.specs.declared.route_event.Act.{Act}
use Rattle.acct_types.specs.declared.route_event.Act.TheVariants.{Up, Bytes, Down, Tick}
use Rattle.acct_types.specs.declared.route_event.RouteEvent.{RouteEvent}
use Rattle.bgp_msg.specs.Frames.{framed}
use Rattle.bgp_session.specs.Lives.{closed_by}
use Rattle.bgp_session.specs.Moments.{Piece, expired_at, joined}
use Rattle.bgp_session.specs.declared.progress.Local.{Local}
use Rattle.bgp_session.specs.declared.why.Why.{Why}
use Rattle.framed_pieces.specs.Stream.{messages, rest_of}
use Rattle.route_feed.specs.Events.{is_down, is_of, is_up, pieces_by, pieces_of}
use Rattle.route_feed.specs.Lives.{is_expired, is_over, life_of, life_since, since_up}
use Rattle.route_feed.specs.Steps.{life_after, life_with}
use Rattle.route_feed.specs.Told.{unexpired}

-- no octets end nothing
nothing_ends : closed_by [] ≡ None
unfolding closed_by framed messages rest_of
nothing_ends = refl

last_false : (a b : Bool) → (a || b) ≡ false → b ≡ false
last_false false b h = h
last_false true b h = absurd (cc)

no_reason : (reason : Option Why) → is_some reason ≡ false → reason ≡ None
no_reason None h = refl
no_reason (Some reason) h = absurd (cc)

-- the octets of a life that isn't over don't end it
pub still_open : (local : Local) (address : Addr) (since : List RouteEvent) → is_over local address since ≡ false → closed_by (joined (pieces_of address since)) ≡ None
still_open local address [] h = nothing_ends
still_open local address (event ∷ before) h =
    let down = is_of address event && is_down event.act in
    let expired = expired_at local (pieces_of address before) event.moment in
    let reason = closed_by (joined (pieces_of address (event ∷ before))) in
    no_reason reason (last_false (expired || down) (is_some reason) (last_false (is_over local address before) (expired || down || is_some reason) h))

-- nor do those of a life that goes on
pub life_open : (local : Local) (events : List RouteEvent) (address : Addr) (pieces : List Piece) → life_of local events address ≡ Some pieces → closed_by (joined pieces) ≡ None
unfolding life_of
life_open local events address pieces = by (since_up address events)
  where
    goes_on : (since : List RouteEvent) (over : Bool) → is_over local address since ≡ over → (if over then None else Some (pieces_of address since)) ≡ Some pieces → closed_by (joined pieces) ≡ None
    goes_on since true is same = cc same
    goes_on since false is same = ap (λ (life : Option (List Piece)). closed_by (joined (unwrap_or life []))) (sym same) ∙ still_open local address since is

    by : (since : Option (List RouteEvent)) → life_since local address since ≡ Some pieces → closed_by (joined pieces) ≡ None
    by None same = cc same
    by (Some since) same = goes_on since (is_over local address since) refl same

-- the pieces behind an event, by whether it is of the session
abbrev pieces_if : ℕ → Act → Bool → List Piece → List Piece
pieces_if moment act mine before = (if mine then pieces_by moment act else []) ++ before

-- the life behind an event, by the events since the last Up
abbrev behind : Local → Addr → ℕ → Act → Bool → Option (List RouteEvent) → Option (List Piece)
behind local address moment act mine None = if mine && is_up act then Some [] else None
behind local address moment act mine (Some since) =
    if mine && is_up act then Some []
    else (if is_over local address since || (expired_at local (pieces_of address since) moment || mine && is_down act || is_some (closed_by (joined (pieces_if moment act mine (pieces_of address since)))))
    then None else Some (pieces_if moment act mine (pieces_of address since)))

is_behind : (local : Local) (address : Addr) (event : RouteEvent) (earlier : List RouteEvent)
    → life_of local (event ∷ earlier) address ≡ behind local address event.moment event.act (is_of address event) (since_up address earlier)
unfolding life_of
is_behind local address event earlier = by (since_up address earlier) (is_of address event && is_up event.act) refl
  where
    by : (since : Option (List RouteEvent)) (up : Bool) → (is_of address event && is_up event.act) ≡ up
        → life_since local address (if up then Some [] else option_map (λ since. event ∷ since) since) ≡ behind local address event.moment event.act (is_of address event) since
    by None true is = sym (ap (λ (b : Bool). cond b (Some []) None) is)
    by None false is = sym (ap (λ (b : Bool). cond b (Some []) None) is)
    by (Some since) true is = sym (ap (λ (b : Bool). cond b (Some []) (life_since local address (Some (event ∷ since)))) is)
    by (Some since) false is = sym (ap (λ (b : Bool). cond b (Some []) (life_since local address (Some (event ∷ since)))) is)

-- nothing comes to the session
idle : (local : Local) (address : Addr) (moment : ℕ) (since : List RouteEvent) (over expired : Bool) → is_over local address since ≡ over
    → expired_at local (pieces_of address since) moment ≡ expired
    → (if over || (expired || false || is_some (closed_by (joined (pieces_of address since)))) then None else Some (pieces_of address since))
    ≡ unexpired local moment (if over then None else Some (pieces_of address since))
idle local address moment since true expired is_over is_expired = refl
idle local address moment since false true is_over is_expired = sym (ap (λ (b : Bool). cond b None (Some (pieces_of address since))) is_expired)
idle local address moment since false false is_over is_expired =
    ap (λ (reason : Option Why). cond (is_some reason) None (Some (pieces_of address since))) (still_open local address since is_over)
    ∙ sym (ap (λ (b : Bool). cond b None (Some (pieces_of address since))) is_expired)

-- octets come to it
fed : (local : Local) (address : Addr) (moment : ℕ) (octets : List ℕ) (since : List RouteEvent) (over expired : Bool) → is_over local address since ≡ over
    → expired_at local (pieces_of address since) moment ≡ expired
    → (if over || (expired || false || is_some (closed_by (joined (pieces_of address since) ++ octets))) then None else Some (record { moment = moment; octets = octets } ∷ pieces_of address since))
    ≡ life_with moment octets (unexpired local moment (if over then None else Some (pieces_of address since)))
fed local address moment octets since true expired is_over is_expired = refl
fed local address moment octets since false true is_over is_expired = sym (ap (λ (b : Bool). life_with moment octets (cond b None (Some (pieces_of address since)))) is_expired)
fed local address moment octets since false false is_over is_expired = sym (ap (λ (b : Bool). life_with moment octets (cond b None (Some (pieces_of address since)))) is_expired)

gone : (over expired shut : Bool) (other : Option (List Piece)) → (if over || (expired || true || shut) then None else other) ≡ None
gone true expired shut other = refl
gone false true shut other = refl
gone false false shut other = refl

acts : (local : Local) (address : Addr) (moment : ℕ) (act : Act) (since : Option (List RouteEvent))
    → behind local address moment act true since ≡ life_after moment act (unexpired local moment (life_since local address since))
acts local address moment Up None = refl
acts local address moment Up (Some since) = refl
acts local address moment (Bytes octets) None = refl
acts local address moment (Bytes octets) (Some since) = fed local address moment octets since _ _ refl refl
acts local address moment Down None = refl
acts local address moment Down (Some since) =
    gone (is_over local address since) (expired_at local (pieces_of address since) moment) (is_some (closed_by (joined (pieces_of address since)))) (Some (pieces_of address since))
acts local address moment Tick None = refl
acts local address moment Tick (Some since) = idle local address moment since _ _ refl refl

passes : (local : Local) (address : Addr) (moment : ℕ) (act : Act) (since : Option (List RouteEvent))
    → behind local address moment act false since ≡ unexpired local moment (life_since local address since)
passes local address moment act None = refl
passes local address moment act (Some since) = idle local address moment since _ _ refl refl

-- an event of the session with an address: the life that it finds there, behind what it does to it
pub of_session : (local : Local) (address : Addr) (event : RouteEvent) (earlier : List RouteEvent) → is_of address event ≡ true
    → life_of local (event ∷ earlier) address ≡ life_after event.moment event.act (unexpired local event.moment (life_of local earlier address))
unfolding life_of
of_session local address event earlier mine =
    is_behind local address event earlier ∙ ap (λ (b : Bool). behind local address event.moment event.act b (since_up address earlier)) mine
    ∙ acts local address event.moment event.act (since_up address earlier)

-- another event does nothing but expire it
pub of_others : (local : Local) (address : Addr) (event : RouteEvent) (earlier : List RouteEvent) → is_of address event ≡ false
    → life_of local (event ∷ earlier) address ≡ unexpired local event.moment (life_of local earlier address)
unfolding life_of
of_others local address event earlier other =
    is_behind local address event earlier ∙ ap (λ (b : Bool). behind local address event.moment event.act b (since_up address earlier)) other
    ∙ passes local address event.moment event.act (since_up address earlier)
