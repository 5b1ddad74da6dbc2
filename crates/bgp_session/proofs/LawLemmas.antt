-- Laws of lives.
use Rattle.std.proofs.Common.{◌≡◌, ◌≤◌, ◌∙◌, ◌∷◌, ◌++◌, [], ℕ, zero, suc, false, true, List, length, take, drop, refl, sym, ap, arith, inl, inr, length-drop}
use Rattle.std.proofs.lemmas.Bool.{eqb-true}
use Rattle.std.proofs.lemmas.Bool.Decides.{nat_tests}
use Rattle.std.proofs.lemmas.List.{drop-append-le, take-append-le}
use Rattle.std.specs.Prelude.{Bool, Option, Some, None, Result, Ok, Err, ◌⊎◌, is_some, ◌==◌, if◌then◌else◌}
use Rattle.bgp_msg.specs.Frames.{framed, kind_of}
use Rattle.bgp_msg.specs.declared.message.Agreed.{Agreed}
use Rattle.bgp_msg.specs.declared.message.BgpFault.{BgpFault}
use Rattle.bgp_session.specs.Laws.{AreEstablished, AreInOrder, ComeTogether, Grows, IsOver, StandAlike}
use Rattle.bgp_session.specs.Lives.{closed_by, end_at, fits, heard, heard_from, hold_of, agreed_in, stage_of}
use Rattle.bgp_session.specs.Moments.{Piece, is_expired, joined, moment_of, spoken_by}
use Rattle.bgp_session.specs.Sessions.{Keeps, SessionState, has_expired}
use Rattle.bgp_session.specs.Steps.{Outcome, kept, onward, outcome, step}
use Rattle.bgp_session.specs.Stream.{messages, rest_of}
use Rattle.bgp_session.specs.declared.progress.Local.{Local}
use Rattle.bgp_session.specs.declared.progress.Progress.{Progress}
use Rattle.bgp_session.specs.declared.progress.Stage.TheVariants.{AwaitsOpen, AwaitsKeepalive, Established}
use Rattle.bgp_session.specs.declared.why.Why.{Why}
use Rattle.bgp_session.proofs.FrameLemmas.{framed_bad, framed_more, framed_short, is_framed}
use Rattle.bgp_session.proofs.JoinLemmas.{continues}
use Rattle.bgp_session.proofs.LifeLemmas.{awaited, life, start}
use Rattle.bgp_session.proofs.StepLemmas.{first_ends, first_goes_on, first_then, none_of, outcome_bad, outcome_next, outcome_none, some_of}

-- ---- the order of messages

either : (kind : ℕ) → fits Established kind ≡ true → (kind ≡ 4) ⊎ (kind ≡ 2)
either kind h = by (kind == 4) refl
  where
    by : (four : Bool) → (kind == 4) ≡ four → (kind ≡ 4) ⊎ (kind ≡ 2)
    by true e = inl (eqb-true kind 4 e)
    by false e = inr (grind (arith, nat_tests, h, e))

are_established : (agreed : Agreed) (all : List (List ℕ)) → AreEstablished (heard_from Established agreed all)
are_established agreed [] = tt
are_established agreed (message ∷ others) = by (are_established agreed others) (end_at Established agreed message) refl
  where
    by : AreEstablished (heard_from Established agreed others) → (found : Option Why) → end_at Established agreed message ≡ found
        → AreEstablished (if is_some found then [] else message ∷ heard_from Established agreed others)
    by rest (Some reason) e = tt
    by rest None e = (either (kind_of message) (awaited Established agreed message e), rest)

keepalive_next : (agreed : Agreed) (open_message : List ℕ) (all : List (List ℕ)) → kind_of open_message ≡ 1 → AreInOrder (open_message ∷ heard_from AwaitsKeepalive agreed all)
keepalive_next agreed open_message [] h = h
keepalive_next agreed open_message (message ∷ others) h = by (end_at AwaitsKeepalive agreed message) refl
  where
    by : (found : Option Why) → end_at AwaitsKeepalive agreed message ≡ found → AreInOrder (open_message ∷ (if is_some found then [] else message ∷ heard_from Established agreed others))
    by (Some reason) e = h
    by None e = (h, eqb-true (kind_of message) 4 (awaited AwaitsKeepalive agreed message e), are_established agreed others)

open_first : (agreed : Agreed) (all : List (List ℕ)) → AreInOrder (heard_from AwaitsOpen agreed all)
open_first agreed [] = tt
open_first agreed (message ∷ others) = by (end_at AwaitsOpen agreed message) refl
  where
    by : (found : Option Why) → end_at AwaitsOpen agreed message ≡ found → AreInOrder (if is_some found then [] else message ∷ heard_from AwaitsKeepalive agreed others)
    by (Some reason) e = tt
    by None e = keepalive_next agreed message others (eqb-true (kind_of message) 1 (awaited AwaitsOpen agreed message e))

pub in_order : (octets : List ℕ) → AreInOrder (heard octets)
unfolding heard
in_order octets = open_first (agreed_in (messages octets)) (messages octets)

-- ---- what follows

pub grows : (local : Local) (octets more : List ℕ) → closed_by octets ≡ None → Grows local octets more
grows local octets more live =
    let is = life local octets in
    let on = continues local start octets more (ap (λ (o : Outcome). o.closed) is ∙ live) in
    let later = outcome local (outcome local start octets).progress (rest_of octets ++ more) in
    let all = sym (life local (octets ++ more)) ∙ on.all ∙ ap (λ (o : Outcome). onward o later) is in
    record { replies = later.replies; updates = later.updates; answered = ap (λ (o : Outcome). o.replies) all; learned = ap (λ (o : Outcome). o.updates) all }

clash : (one : Option Why) (reason : Why) → one ≡ Some reason → one ≡ None → ⊥
clash one reason h k = cc

shorter : (most : ℕ) (octets : List ℕ) (size : ℕ) → framed octets ≡ Ok (Some size) → length octets ≤ suc most → length (drop size octets) ≤ most
shorter most octets size is few =
    let least = (is_framed octets size is).least in
    let here = (is_framed octets size is).here in
    let left = length-drop size octets in
    omega (arith, least, here, left, few)

-- where a life is over, its outcome stays
over_from : (most : ℕ) (local : Local) (progress : Progress) (octets more : List ℕ) (reason : Why) → length octets ≤ most → (outcome local progress octets).closed ≡ Some reason
    → outcome local progress (octets ++ more) ≡ outcome local progress octets
over_from zero local progress octets more reason few over =
    absurd (clash (outcome local progress octets).closed reason over (ap (λ (o : Outcome). o.closed) (outcome_none local progress octets (framed_short octets (omega (arith, few))))))
over_from (suc most) local progress octets more reason few over =
    by (λ p size. over_from most local p (drop size octets) more reason) (framed octets) refl
  where
    by : ((p : Progress) (size : ℕ) → length (drop size octets) ≤ most → (outcome local p (drop size octets)).closed ≡ Some reason
        → outcome local p (drop size octets ++ more) ≡ outcome local p (drop size octets))
        → (found : Result (Option ℕ) BgpFault) → framed octets ≡ found → outcome local progress (octets ++ more) ≡ outcome local progress octets
    by rest (Ok None) e = absurd (clash (outcome local progress octets).closed reason over (ap (λ (o : Outcome). o.closed) (outcome_none local progress octets e)))
    by rest (Err fault) e = outcome_bad local progress (octets ++ more) fault (framed_bad octets more fault e) ∙ sym (outcome_bad local progress octets fault e)
    by rest (Ok (Some size)) e = by_end (step local progress (take size octets)).closed refl
      where
        one : Outcome
        one = step local progress (take size octets)

        later : List ℕ → Outcome
        later behind = outcome local one.progress behind

        all : outcome local progress (octets ++ more) ≡ first_then one (later (drop size octets ++ more))
        all =
            let here = (is_framed octets size e).here in
            outcome_next local progress (octets ++ more) size (framed_more octets more size e)
            ∙ ap (λ (message : List ℕ). first_then (step local progress message) (outcome local (step local progress message).progress (drop size (octets ++ more)))) (take-append-le size octets more here)
            ∙ ap (λ (behind : List ℕ). first_then one (later behind)) (drop-append-le size octets more here)

        by_end : (closed : Option Why) → one.closed ≡ closed → outcome local progress (octets ++ more) ≡ outcome local progress octets
        by_end (Some found) f =
            all ∙ first_ends one (later (drop size octets ++ more)) (some_of one.closed found f)
            ∙ sym (outcome_next local progress octets size e ∙ first_ends one (later (drop size octets)) (some_of one.closed found f))
        by_end None f =
            let goes = outcome_next local progress octets size e ∙ first_goes_on one (later (drop size octets)) (none_of one.closed f) in
            let still : (later (drop size octets)).closed ≡ Some reason = ap (λ (o : Outcome). o.closed) (sym goes) ∙ over in
            all ∙ first_goes_on one (later (drop size octets ++ more)) (none_of one.closed f)
            ∙ ap (onward one) (rest one.progress size (shorter most octets size e few) still)
            ∙ sym goes

pub is_over : (local : Local) (octets more : List ℕ) (reason : Why) → closed_by octets ≡ Some reason → IsOver local octets more reason
is_over local octets more reason over =
    let is = life local octets in
    let same = over_from (length octets) local start octets more reason (omega arith) (ap (λ (o : Outcome). o.closed) is ∙ over) in
    let all = sym (life local (octets ++ more)) ∙ same ∙ is in
    record { closed = ap (λ (o : Outcome). o.closed) all ∙ over; answered = ap (λ (o : Outcome). o.replies) all; learned = ap (λ (o : Outcome). o.updates) all }

-- ---- pieces

pub alike : (one other : SessionState) (pieces others : List Piece) → Keeps one pieces → Keeps other others → one.local ≡ other.local → joined pieces ≡ joined others → StandAlike one other
unfolding StandAlike
alike one other pieces others h k local same =
    let stage = h.stage ∙ ap stage_of same ∙ sym k.stage in
    let agreed = h.agreed ∙ ap (λ (octets : List ℕ). agreed_in (heard octets)) same ∙ sym k.agreed in
    let hold = h.hold ∙ ap (λ (l : Local). hold_of l (joined pieces)) local ∙ ap (hold_of other.local) same ∙ sym k.hold in
    record {
      progress = λ i. record { stage = stage i; agreed = agreed i; hold = hold i };
      begun = h.begun ∙ ap (λ (octets : List ℕ). kept (closed_by octets) (rest_of octets)) same ∙ sym k.begun;
    }

same_last : (one other : SessionState) (pieces others : List Piece) → Keeps one pieces → Keeps other others → joined pieces ≡ joined others → ComeTogether pieces others → one.last ≡ other.last
same_last one other pieces others h k same together =
    h.last ∙ together (spoken_by (joined pieces)) ∙ ap (λ (octets : List ℕ). moment_of (spoken_by octets) others) same ∙ sym k.last

pub expire : (one other : SessionState) (pieces others : List Piece) → Keeps one pieces → Keeps other others → one.local ≡ other.local → joined pieces ≡ joined others → ComeTogether pieces others
    → (moment : ℕ) → has_expired one moment ≡ has_expired other moment
unfolding has_expired StandAlike
expire one other pieces others h k local same together moment =
    let both = alike one other pieces others h k local same in
    ap (λ (p : Progress). is_expired p.hold one.last moment) both.progress ∙ ap (λ (last : ℕ). is_expired other.progress.hold last moment) (same_last one other pieces others h k same together)

-- what is kept is by the octets and their moments alone
pub recut : (session : SessionState) (pieces others : List Piece) → Keeps session pieces → joined pieces ≡ joined others → ComeTogether pieces others → Keeps session others
recut session pieces others h same together = record {
  stage = h.stage ∙ ap stage_of same;
  agreed = h.agreed ∙ ap (λ (octets : List ℕ). agreed_in (heard octets)) same;
  hold = h.hold ∙ ap (hold_of session.local) same;
  last = h.last ∙ together (spoken_by (joined pieces)) ∙ ap (λ (octets : List ℕ). moment_of (spoken_by octets) others) same;
  begun = h.begun ∙ ap (λ (octets : List ℕ). kept (closed_by octets) (rest_of octets)) same;
}
