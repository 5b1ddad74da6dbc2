-- The sessions that are kept, and the lives that they are of.
use Rattle.std.proofs.Common.{◌≡◌, ◌∙◌, ◌++◌, ◌∷◌, [], ℕ, Bool, false, true, cond, List, refl, sym, ap, subst, arith, append_assoc, append-nil, length, drop, map}
use Rattle.std.proofs.Math.Seq.{drop-append_seam}
use Rattle.std.specs.Prelude.{◌&&◌, Result, Ok, Err, OnOk, Option, Some, None, is_none, is_some, if◌then◌else◌}
use Rattle.std.specs.BTreeMap.{is_at}
use Rattle.std.specs.Ordering.{is_eq}
use Rattle.std.specs.declared.cmp.Ordering.{Ordering}
use Rattle.std.specs.declared.cmp.Ordering.TheVariants.{Less, Equal, Greater}
use Rattle.acct_types.specs.Order.{addr_cmp}
use Rattle.acct_types.specs.Updates.{Message, Said, message_view, update_view}
use Rattle.acct_types.specs.declared.addr.Addr.{Addr}
use Rattle.acct_types.specs.declared.route_event.Act.{Act}
use Rattle.acct_types.specs.declared.route_event.Act.TheVariants.{Bytes}
use Rattle.acct_types.specs.declared.route_event.Reply.{Reply}
use Rattle.bgp_session.specs.Lives.{closed_by, replies_to, updates_in}
use Rattle.bgp_session.specs.Moments.{Piece, joined}
use Rattle.bgp_session.specs.Sessions.{HasHeard, SessionState, is_live}
use Rattle.bgp_session.specs.declared.turn.Turn.{Turn}
use Rattle.bgp_session.specs.declared.progress.Local.{Local}
use Rattle.bgp_session.specs.declared.why.Why.{Why}
use Rattle.route_feed.specs.Routings.{AllGoOn, AreOf, GoesOn, GoesOnIf, HasTaken, IsOf, Sessions, session_at}
use Rattle.route_feed.specs.Steps.{Acted, life_after, life_with, with_life}
use Rattle.route_feed.specs.Told.{answers_by, closures_by, closures_for, end_by, messages_by, more_than, replies_by, reply_of, resets_by, update, updates_by}
use Rattle.route_feed.specs.declared.closure.Closure.{Closure}
use Rattle.route_feed.specs.declared.turn.RouteTurn.{RouteTurn}

-- an order that agrees with that of addresses is that
pub in_order : (R : Addr → Addr → Ordering) → ((a b : Addr) → R a b ≡ addr_cmp a b) → R ≡ addr_cmp
in_order R agrees = λ i a b. agrees a b i

-- one entry is another one now
abbrev pub IsUpdated : Addr → Option SessionState → Sessions → Sessions → Type 0
IsUpdated address state before now = (other : Addr) → session_at other now ≡ cond (is_at (addr_cmp address) other) state (session_at other before)

pub go_on_updated : (moment : ℕ) (address : Addr) (state : Option SessionState) (before now : Sessions) → AllGoOn moment before → GoesOnIf moment state
    → IsUpdated address state before now → AllGoOn moment now
unfolding AllGoOn
go_on_updated moment address state before now all one updated = λ other.
    subst (GoesOnIf moment) (sym (updated other)) (by other (is_at (addr_cmp address) other))
  where
    by : (other : Addr) (here : Bool) → GoesOnIf moment (cond here state (session_at other before))
    by other true = one
    by other false = all other

pub are_of_updated : (local : Local) (address : Addr) (state : Option SessionState) (life : Option (List Piece)) (before now : Sessions) (lives : Addr → Option (List Piece))
    → AreOf local before lives → IsOf local state life → IsUpdated address state before now → AreOf local now (with_life address life lives)
unfolding AreOf
are_of_updated local address state life before now lives all one updated = λ other.
    subst (λ (found : Option SessionState). IsOf local found (with_life address life lives other)) (sym (updated other)) (by other (is_at (addr_cmp address) other))
  where
    by : (other : Addr) (here : Bool) → IsOf local (cond here state (session_at other before)) (cond here life (lives other))
    by other true = one
    by other false = all other

-- what is where, behind a session that is dropped where it is over
pub updated_settled : (address : Addr) (state : SessionState) (over : Bool) (before mid now : Sessions) → IsUpdated address (Some state) before mid
    → ((other : Addr) → session_at other now ≡ (if over && is_at (addr_cmp address) other then None else session_at other mid))
    → IsUpdated address (if over then None else Some state) before now
updated_settled address state over before mid now updated settled = λ other. settled other ∙ by other over (is_at (addr_cmp address) other) (updated other)
  where
    by : (other : Addr) (over here : Bool) → session_at other mid ≡ cond here (Some state) (session_at other before)
        → (if over && here then None else session_at other mid) ≡ cond here (if over then None else Some state) (session_at other before)
    by other true true is = refl
    by other true false is = is
    by other false true is = is
    by other false false is = is

pub go_on_at : (moment : ℕ) (address : Addr) (state : SessionState) (sessions : Sessions) → AllGoOn moment sessions → Some state ≡ session_at address sessions → GoesOn moment state
unfolding AllGoOn
go_on_at moment address state sessions all found = subst (GoesOnIf moment) (sym found) (all address)

pub is_of_at : (local : Local) (address : Addr) (found : Option SessionState) (sessions : Sessions) (lives : Addr → Option (List Piece)) → AreOf local sessions lives
    → found ≡ session_at address sessions → IsOf local found (lives address)
unfolding AreOf
is_of_at local address found sessions lives all is = subst (λ (state : Option SessionState). IsOf local state (lives address)) (sym is) (all address)

-- a session that took octets goes on, or is over
pub go_on_if : (moment : ℕ) (state : SessionState) (reason : Option Why) → is_live state ≡ is_none reason → state.moment ≡ moment → GoesOnIf moment (if is_some reason then None else Some state)
go_on_if moment state None live at = record { live = live; earlier = omega (arith, at) }
go_on_if moment state (Some reason) live at = tt

-- nothing comes to a session that isn't there
pub no_life : (local : Local) (life : Option (List Piece)) → IsOf local None life → life ≡ None
no_life local None is = refl
no_life local (Some pieces) is = absurd is

-- what holds where three calls' clauses hold
pub on_ok : {T E P Q R S : Type 0} (result : Result T E) → (P → Q → R → S) → OnOk result P → OnOk result Q → OnOk result R → OnOk result S
on_ok (Ok value) all p q r = all p q r
on_ok (Err error) all p q r = tt

-- what holds whatever a call answers
pub always : {T E P : Type 0} (result : Result T E) → P → OnOk result P
always (Ok value) p = p
always (Err error) p = tt

-- An act that ends the life that it finds, whatever octets came before, and gives nothing else. Where a session is there is what a life is.
pub acted_end : (local : Local) (moment : ℕ) (address : Addr) (act : Act) (reason : Why) (lives : Addr → Option (List Piece)) (found : Option SessionState) (sessions now : Sessions) (before after : RouteTurn)
    → ((pieces : List Piece) → end_by act pieces ≡ Some reason) → ((pieces : List Piece) → updates_by act pieces ≡ []) → ((pieces : List Piece) → answers_by local act pieces ≡ [])
    → AreOf local sessions lives → found ≡ session_at address sessions → AreOf local now (with_life address (life_after moment act (lives address)) lives)
    → map message_view after.messages ≡ map message_view before.messages ++ resets_by moment address (if is_some found then Some reason else None)
    → after.replies ≡ before.replies
    → after.closures ≡ before.closures ++ closures_for moment address (if is_some found then Some reason else None)
    → Acted local moment address act lives now before after
acted_end local moment address act reason lives found sessions now before after ends nothing_learned nothing_answered all is lives_now messages replies closures =
    let of = by found (lives address) (is_of_at local address found sessions lives all is) in
    record {
      lives = lives_now;
      messages = messages ∙ ap (λ (more : List Message). map message_view before.messages ++ more) of.0;
      replies = replies ∙ sym (append-nil before.replies) ∙ ap (λ (more : List Reply). before.replies ++ more) (sym of.2);
      closures = closures ∙ ap (λ (more : List Closure). before.closures ++ more) of.1;
    }
  where
    by : (found : Option SessionState) (life : Option (List Piece)) → IsOf local found life
        → (resets_by moment address (if is_some found then Some reason else None) ≡ messages_by moment address act life)
        × (closures_for moment address (if is_some found then Some reason else None) ≡ closures_by moment address act life)
        × (replies_by local address act life ≡ [])
    by None None is = (refl, refl, refl)
    by None (Some pieces) is = absurd is
    by (Some session) None is = absurd is
    by (Some session) (Some pieces) is = (
      sym (ap (λ (reason : Option Why). resets_by moment address reason) (ends pieces)) ∙ ap (λ (said : List Said). map (update moment address) said ++ resets_by moment address (end_by act pieces)) (sym (nothing_learned pieces)),
      sym (ap (λ (reason : Option Why). closures_for moment address reason) (ends pieces)),
      ap (λ (octets : List ℕ). reply_of address octets) (nothing_answered pieces),
    )

-- what octets give more than those before them
added : {A : Type 0} (before more now : List A) → before ++ more ≡ now → more_than before now ≡ more
added before more now is = ap (drop (length before)) (sym is) ∙ drop-append_seam before more

-- what a call with a session tells of its octets, over any pieces that it took
pub record Told (moment : ℕ) (octets : List ℕ) (state now : SessionState) (given : Turn) : Type 0 where
  pub hears : (earlier : List Piece) → HasHeard state earlier → HasHeard now (record { moment = moment; octets = octets } ∷ earlier)
  pub replies : (earlier : List Piece) → HasHeard state earlier → replies_to state.local (joined earlier) ++ given.replies ≡ replies_to state.local (joined earlier ++ octets)
  pub updates : (earlier : List Piece) → HasHeard state earlier → updates_in (joined earlier) ++ map update_view given.updates ≡ updates_in (joined earlier ++ octets)
  pub closed : (earlier : List Piece) → HasHeard state earlier → given.closed ≡ closed_by (joined earlier ++ octets)
  pub same : now.local ≡ state.local

-- the life behind it, and what it gives
record GivenBy (local : Local) (moment : ℕ) (address : Addr) (octets : List ℕ) (now : SessionState) (given : Turn) (life : Option (List Piece)) : Type 0 where
  goes_on : IsOf local (if is_some given.closed then None else Some now) (life_after moment (Bytes octets) life)
  messages : map (update moment address) (map update_view given.updates) ++ resets_by moment address given.closed ≡ messages_by moment address (Bytes octets) life
  replies : reply_of address given.replies ≡ replies_by local address (Bytes octets) life
  closures : closures_for moment address given.closed ≡ closures_by moment address (Bytes octets) life

given_by : (local : Local) (moment : ℕ) (address : Addr) (octets : List ℕ) (state now : SessionState) (given : Turn) (life : Option (List Piece)) → Told moment octets state now given
    → IsOf local (Some state) life → GivenBy local moment address octets now given life
given_by local moment address octets state now given None told is = absurd is
given_by local moment address octets state now given (Some pieces) told is =
    let a = joined pieces in
    let reason = told.closed pieces is.heard in
    let answers : replies_to local a ++ given.replies ≡ replies_to local (a ++ octets) =
    subst (λ (side : Local). replies_to side a ++ given.replies ≡ replies_to side (a ++ octets)) is.of_side (told.replies pieces is.heard) in
    let learned = added (updates_in a) (map update_view given.updates) (updates_in (a ++ octets)) (told.updates pieces is.heard) in
    record {
      goes_on = by given.closed (closed_by (a ++ octets)) reason (record { of_side = told.same ∙ is.of_side; heard = told.hears pieces is.heard });
      messages = ap (λ (said : List Said). map (update moment address) said ++ resets_by moment address given.closed) (sym learned)
          ∙ ap (λ (reason : Option Why). map (update moment address) (more_than (updates_in a) (updates_in (a ++ octets))) ++ resets_by moment address reason) reason;
      replies = ap (λ (octets : List ℕ). reply_of address octets) (sym (added (replies_to local a) given.replies (replies_to local (a ++ octets)) answers));
      closures = ap (λ (reason : Option Why). closures_for moment address reason) reason;
    }
  where
    by : (mine its : Option Why) → mine ≡ its → HasTaken local now (record { moment = moment; octets = octets } ∷ pieces)
        → IsOf local (if is_some mine then None else Some now) (if is_some its then None else Some (record { moment = moment; octets = octets } ∷ pieces))
    by None None is taken = taken
    by None (Some other) is taken = cc is
    by (Some reason) None is taken = cc is
    by (Some reason) (Some other) is taken = tt

-- octets come to a session
pub acted_octets : (local : Local) (moment : ℕ) (address : Addr) (octets : List ℕ) (lives : Addr → Option (List Piece)) (state new : SessionState) (given : Turn) (sessions now : Sessions) (before after : RouteTurn)
    → AreOf local sessions lives → Some state ≡ session_at address sessions → Told moment octets state new given → IsUpdated address (if is_some given.closed then None else Some new) sessions now
    → map message_view after.messages ≡ map message_view before.messages ++ map (update moment address) (map update_view given.updates) ++ resets_by moment address given.closed
    → after.replies ≡ before.replies ++ reply_of address given.replies
    → after.closures ≡ before.closures ++ closures_for moment address given.closed
    → Acted local moment address (Bytes octets) lives now before after
acted_octets local moment address octets lives state new given sessions now before after all is told updated messages replies closures =
    let by = given_by local moment address octets state new given (lives address) told (is_of_at local address (Some state) sessions lives all is) in
    record {
      lives = are_of_updated local address (if is_some given.closed then None else Some new) (life_after moment (Bytes octets) (lives address)) sessions now lives all by.goes_on updated;
      messages = messages ∙ append_assoc (map message_view before.messages) (map (update moment address) (map update_view given.updates)) (resets_by moment address given.closed)
          ∙ ap (λ (more : List Message). map message_view before.messages ++ more) by.messages;
      replies = replies ∙ ap (λ (more : List Reply). before.replies ++ more) by.replies;
      closures = closures ∙ ap (λ (more : List Closure). before.closures ++ more) by.closures;
    }

is_equal : (o : Ordering) → is_eq o ≡ true → o ≡ Equal
is_equal Less h = absurd (cc)
is_equal Equal h = refl
is_equal Greater h = absurd (cc)

-- addresses that tie are the same
pub tied : ((a b : Addr) → addr_cmp a b ≡ Equal → a ≡ b) → (a b : Addr) → is_at (addr_cmp a) b ≡ true → a ≡ b
tied equal a b h = equal a b (is_equal (addr_cmp a b) h)

-- nothing comes where no session is
pub acted_nowhere : ((a b : Addr) → addr_cmp a b ≡ Equal → a ≡ b) → (local : Local) (moment : ℕ) (address : Addr) (octets : List ℕ) (lives : Addr → Option (List Piece)) (sessions : Sessions) (turn : RouteTurn)
    → AreOf local sessions lives → None ≡ session_at address sessions → Acted local moment address (Bytes octets) lives sessions turn turn
acted_nowhere equal local moment address octets lives sessions turn all is =
    let life : lives address ≡ None = no_life local (lives address) (is_of_at local address None sessions lives all is) in
    record {
      lives = are_of_updated local address None (life_with moment octets (lives address)) sessions sessions lives all (subst (λ (life : Option (List Piece)). IsOf local None (life_with moment octets life)) (sym life) tt)
          (λ other. by other (is_at (addr_cmp address) other) refl);
      messages = sym (append-nil (map message_view turn.messages)) ∙ ap (λ (life : Option (List Piece)). map message_view turn.messages ++ messages_by moment address (Bytes octets) life) (sym life);
      replies = sym (append-nil turn.replies) ∙ ap (λ (life : Option (List Piece)). turn.replies ++ replies_by local address (Bytes octets) life) (sym life);
      closures = sym (append-nil turn.closures) ∙ ap (λ (life : Option (List Piece)). turn.closures ++ closures_by moment address (Bytes octets) life) (sym life);
    }
  where
    by : (other : Addr) (here : Bool) → is_at (addr_cmp address) other ≡ here → session_at other sessions ≡ cond here None (session_at other sessions)
    by other true at = ap (λ (q : Addr). session_at q sessions) (sym (tied equal address other at)) ∙ sym is
    by other false at = refl
