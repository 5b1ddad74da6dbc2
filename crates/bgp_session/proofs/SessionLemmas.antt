-- A session that takes one more piece.
use Rattle.std.proofs.Common.{◌≡◌, ◌+◌, ◌∙◌, ◌∷◌, ◌++◌, [], ℕ, zero, suc, false, true, List, length, refl, sym, ap, subst, arith}
use Rattle.std.proofs.lemmas.Bool.{le-ltb, lt-ltb}
use Rattle.std.proofs.lemmas.Bool.Decides.{nat_tests}
use Rattle.std.specs.Prelude.{Bool, Option, Some, None, Ok, is_none, is_some, not, ◌==◌, nat_lt, if◌then◌else◌}
use Rattle.bgp_msg.specs.Frames.{framed}
use Rattle.bgp_session.specs.Lives.{closed_by, end_at, heard, hold_of, next, stage_behind, stage_of}
use Rattle.bgp_session.specs.Moments.{Piece, expired_at, is_expired, joined, last_heard, moment_of, spoken_by}
use Rattle.bgp_session.specs.Sessions.{Keeps, SessionState, has_expired, is_live, is_over}
use Rattle.bgp_session.specs.Steps.{Outcome, behind, kept, onward, outcome, steps}
use Rattle.bgp_session.specs.Stream.{header_end, messages, rest_of}
use Rattle.bgp_session.specs.declared.progress.Local.{Local}
use Rattle.bgp_session.specs.declared.progress.Progress.{Progress}
use Rattle.bgp_session.specs.declared.progress.Stage.{Stage}
use Rattle.bgp_session.specs.declared.progress.Stage.TheVariants.{AwaitsOpen, AwaitsKeepalive, Established, Closed}
use Rattle.bgp_session.specs.declared.why.Why.{Why}
use Rattle.framed_pieces.specs.Stream.{messages as framed_messages, rest_of as framed_rest}
use Rattle.bgp_session.proofs.JoinLemmas.{continues, longer}
use Rattle.bgp_session.proofs.FrameLemmas.{framed_short}
use Rattle.bgp_session.proofs.LifeLemmas.{life, life_of, start, step_is}
use Rattle.bgp_session.proofs.StepLemmas.{first_then}

not_over : (all : List (List ℕ)) → is_over (stage_behind all) ≡ false
not_over [] = refl
not_over (one ∷ []) = refl
not_over (one ∷ other ∷ others) = refl

-- a session is live where nothing closed its life
stage_live : (octets : List ℕ) → not (is_over (stage_of octets)) ≡ is_none (closed_by octets)
unfolding stage_of
stage_live octets = by (closed_by octets)
  where
    by : (closed : Option Why) → not (is_over (if is_some closed then Closed else stage_behind (heard octets))) ≡ is_none closed
    by None = rw (not_over (heard octets)) refl
    by (Some reason) = refl

pub live_by : (session : SessionState) (pieces : List Piece) → Keeps session pieces → is_live session ≡ is_none (closed_by (joined pieces))
unfolding is_live
live_by session pieces h = ap (λ (stage : Stage). not (is_over stage)) h.stage ∙ stage_live (joined pieces)

pub expired_by : (session : SessionState) (pieces : List Piece) (moment : ℕ) → Keeps session pieces → has_expired session moment ≡ expired_at session.local pieces moment
unfolding has_expired
expired_by session pieces moment h =
    ap (λ (hold : ℕ). is_expired hold session.last moment) h.hold ∙ ap (λ (last : ℕ). is_expired (hold_of session.local (joined pieces)) last moment) h.last

none_from : (closed : Option Why) → is_none closed ≡ true → closed ≡ None
none_from None h = refl
none_from (Some reason) h = absurd (cc)

-- what a live session gives to one more piece is how its life goes on
pub record GoesOn (session : SessionState) (earlier : List Piece) (piece : List ℕ) : Type 0 where
  pub closed : closed_by (joined earlier) ≡ None
  pub all : life_of session.local (joined earlier ++ piece) ≡ onward (life_of session.local (joined earlier)) (outcome session.local session.progress (session.begun ++ piece))
  pub left : rest_of (joined earlier ++ piece) ≡ rest_of (session.begun ++ piece)
  pub partial : framed session.begun ≡ Ok None
  pub spoken : spoken_by (joined earlier) + length session.begun ≡ length (joined earlier)

pub goes_on : (session : SessionState) (earlier : List Piece) (piece : List ℕ) → is_live session ≡ true → Keeps session earlier → GoesOn session earlier piece
goes_on session earlier piece live h =
    let a = joined earlier in
    let none : closed_by a ≡ None = none_from (closed_by a) (sym (live_by session earlier h) ∙ live) in
    let is = life session.local a in
    let on = continues session.local start a piece (ap (λ (o : Outcome). o.closed) is ∙ none) in
    let begun : session.begun ≡ rest_of a = h.begun ∙ ap (λ (closed : Option Why). kept closed (rest_of a)) none in
    let progress : (outcome session.local start a).progress ≡ session.progress =
    ap (λ (o : Outcome). o.progress) is ∙ (λ i. record { stage = sym h.stage i; agreed = sym h.agreed i; hold = sym h.hold i }) in
    record {
      closed = none;
      all = sym (life session.local (a ++ piece)) ∙ on.all
          ∙ ap (λ (o : Outcome). onward o (outcome session.local (outcome session.local start a).progress (rest_of a ++ piece))) is
          ∙ ap (λ (p : Progress). onward (life_of session.local a) (outcome session.local p (rest_of a ++ piece))) progress
          ∙ ap (λ (left : List ℕ). onward (life_of session.local a) (outcome session.local session.progress (left ++ piece))) (sym begun);
      left = on.left ∙ ap (λ (left : List ℕ). rest_of (left ++ piece)) (sym begun);
      partial = ap framed begun ∙ on.partial;
      spoken = ap (λ (n : ℕ). n + length session.begun) (sym (ap (λ (o : Outcome). o.spoken) is))
          ∙ ap (λ (left : List ℕ). (outcome session.local start a).spoken + length left) begun ∙ on.spoken;
    }

-- ---- the moment of the last message

none_spoken : (count : ℕ) → not (count == 0) ≡ false → count ≡ 0
none_spoken zero h = refl
none_spoken (suc count) h = grind (arith, nat_tests, h)

some_spoken : (count : ℕ) → not (count == 0) ≡ true → count ≡ 0 → ⊥
some_spoken count h e = clash (not (count == 0)) h (ap (λ (n : ℕ). not (n == 0)) e)
  where
    clash : (test : Bool) → test ≡ true → test ≡ false → ⊥
    clash test h k = cc

pub last_by : (session : SessionState) (earlier : List Piece) (piece : Piece) (some : Bool) → is_live session ≡ true → Keeps session earlier
    → some ≡ not ((outcome session.local session.progress (session.begun ++ piece.octets)).spoken == 0) → (if some then piece.moment else session.last) ≡ last_heard (piece ∷ earlier)
last_by session earlier piece some live h is = by some is
  where
    a : List ℕ
    a = joined earlier

    later : ℕ
    later = (outcome session.local session.progress (session.begun ++ piece.octets)).spoken

    on : GoesOn session earlier piece.octets
    on = goes_on session earlier piece.octets live h

    sum : spoken_by (a ++ piece.octets) ≡ spoken_by a + later
    sum = ap (λ (o : Outcome). o.spoken) on.all

    by : (some : Bool) → some ≡ not (later == 0) → (if some then piece.moment else session.last) ≡ last_heard (piece ∷ earlier)
    by true e =
        let more = longer session.local session.progress session.begun piece.octets on.partial (some_spoken later (sym e)) in
        let all = on.spoken in
        let total = sum in
        let past : nat_lt (length a) (spoken_by (a ++ piece.octets)) ≡ true = lt-ltb (length a) (spoken_by (a ++ piece.octets)) (omega (arith, more, all, total)) in
        rw past refl
    by false e =
        let nothing = none_spoken later (sym e) in
        let all = on.spoken in
        let total = sum in
        let same : spoken_by (a ++ piece.octets) ≡ spoken_by a = omega (arith, total, nothing) in
        let before : nat_lt (length a) (spoken_by (a ++ piece.octets)) ≡ false = le-ltb (length a) (spoken_by (a ++ piece.octets)) (omega (arith, all, same)) in
        rw before (h.last ∙ ap (λ (count : ℕ). moment_of count earlier) (sym same))

-- ---- what is heard of one more piece

pub has_heard : (session : SessionState) (earlier : List Piece) (piece : Piece) (progress : Progress) (some : Bool) (begun : List ℕ) → is_live session ≡ true → Keeps session earlier
    → let given = outcome session.local session.progress (session.begun ++ piece.octets) in
    progress ≡ given.progress → some ≡ not (given.spoken == 0) → begun ≡ kept given.closed (rest_of (session.begun ++ piece.octets))
    → Keeps (record { peer = session.peer; local = session.local; moment = piece.moment; progress = progress; last = if some then piece.moment else session.last; begun = begun }) (piece ∷ earlier)
has_heard session earlier piece progress some begun live h is spoken left =
    let on = goes_on session earlier piece.octets live h in
    let all = ap (λ (o : Outcome). o.progress) on.all in
    record {
      stage = ap (λ (p : Progress). p.stage) (is ∙ sym all);
      agreed = ap (λ (p : Progress). p.agreed) (is ∙ sym all);
      hold = ap (λ (p : Progress). p.hold) (is ∙ sym all);
      last = last_by session earlier piece some live h spoken;
      begun = left ∙ ap (λ (closed : Option Why). kept closed (rest_of (session.begun ++ piece.octets))) (sym (ap (λ (o : Outcome). o.closed) on.all))
          ∙ ap (kept (closed_by (joined earlier ++ piece.octets))) (sym on.left);
    }

-- nothing was heard yet
pub nothing_heard : (session : SessionState) → session.progress ≡ start → session.last ≡ 0 → session.begun ≡ [] → Keeps session []
unfolding closed_by framed heard hold_of framed_messages framed_rest spoken_by stage_of
nothing_heard session progress last begun = record {
  stage = ap (λ (p : Progress). p.stage) progress;
  agreed = ap (λ (p : Progress). p.agreed) progress;
  hold = ap (λ (p : Progress). p.hold) progress;
  last = last;
  begun = begun;
}

-- ---- what is kept, and whether the session goes on

-- what is kept isn't a whole message
pub kept_partial : (local : Local) (progress : Progress) (octets : List ℕ) → framed (kept (outcome local progress octets).closed (rest_of octets)) ≡ Ok None
kept_partial local progress octets = by (outcome local progress octets).closed refl
  where
    by : (closed : Option Why) → (outcome local progress octets).closed ≡ closed → framed (kept closed (rest_of octets)) ≡ Ok None
    by None e = (continues local progress octets [] e).partial
    by (Some reason) e = framed_short [] (omega arith)

next_live : (stage : Stage) → is_over (next stage) ≡ false
next_live AwaitsOpen = refl
next_live AwaitsKeepalive = refl
next_live Established = refl
next_live Closed = refl

steps_live : (local : Local) (progress : Progress) (reason : Option Why) (all : List (List ℕ)) → is_over progress.stage ≡ false
    → not (is_over (steps local progress reason all).progress.stage) ≡ is_none (steps local progress reason all).closed
steps_live local progress None [] h = rw h refl
steps_live local progress (Some reason) [] h = refl
steps_live local progress reason (message ∷ others) h =
    by (steps_live local (behind local progress message) reason others (next_live progress.stage)) (end_at progress.stage progress.agreed message) refl
  where
    goes : Outcome → Type 0
    goes o = not (is_over o.progress.stage) ≡ is_none o.closed

    by : goes (steps local (behind local progress message) reason others) → (found : Option Why) → end_at progress.stage progress.agreed message ≡ found
        → goes (steps local progress reason (message ∷ others))
    by rest (Some found) e =
        let is = ap (λ (one : Outcome). first_then one (steps local one.progress reason others)) (step_is local progress message (Some found) e) in
        subst goes (sym is) refl
    by rest None e =
        let is = ap (λ (one : Outcome). first_then one (steps local one.progress reason others)) (step_is local progress message None e) in
        subst goes (sym is) rest

live_false : (over : Bool) → not over ≡ true → over ≡ false
live_false false h = refl
live_false true h = absurd (cc)

pub outcome_live : (local : Local) (progress : Progress) (octets : List ℕ) → not (is_over progress.stage) ≡ true
    → not (is_over (outcome local progress octets).progress.stage) ≡ is_none (outcome local progress octets).closed
unfolding outcome
outcome_live local progress octets live = steps_live local progress (header_end (rest_of octets)) (messages octets) (live_false (is_over progress.stage) live)
