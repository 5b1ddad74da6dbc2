-- What octets give that come behind others.
use Rattle.std.proofs.Common.{◌≡◌, ◌<◌, ◌+◌, ◌∙◌, ◌∷◌, ◌++◌, [], ℕ, List, length, take, drop, refl, sym, ap, length-append, arith}
use Rattle.std.proofs.lemmas.List.{length-take-le}
use Rattle.std.specs.Prelude.{Option, Some, None, Result, Ok, Err}
use Rattle.bgp_msg.specs.Frames.{framed}
use Rattle.bgp_msg.specs.declared.message.BgpFault.{BgpFault}
use Rattle.bgp_session.specs.Lives.{end_at}
use Rattle.bgp_session.specs.Steps.{Outcome, onward, outcome, step, steps}
use Rattle.bgp_session.specs.Stream.{header_end, join, messages, rest_of}
use Rattle.bgp_session.specs.declared.progress.Local.{Local}
use Rattle.bgp_session.specs.declared.progress.Progress.{Progress}
use Rattle.bgp_session.specs.declared.why.Why.{Why}
use Rattle.bgp_session.proofs.FrameLemmas.{is_framed, longer_than_part}
use Rattle.bgp_session.proofs.LifeLemmas.{step_is}
use Rattle.bgp_session.proofs.StepLemmas.{first_ends, first_goes_on, none_of, onward_assoc, onward_none, outcome_bad, outcome_next, outcome_none, some_of}
use Rattle.bgp_session.proofs.StreamLemmas.{joins}

clash : (one : Option Why) (reason : Why) → one ≡ Some reason → one ≡ None → ⊥
clash one reason h k = cc

-- where nothing ends a life, no header has a fault
reason_none : (local : Local) (progress : Progress) (reason : Option Why) (all : List (List ℕ)) → (steps local progress reason all).closed ≡ None → reason ≡ None
reason_none local progress None all live = refl
reason_none local progress (Some reason) [] live = absurd (cc)
reason_none local progress (Some reason) (message ∷ others) live =
    by (reason_none local (step local progress message).progress (Some reason) others) (step local progress message).closed refl
  where
    one : Outcome
    one = step local progress message

    later : Outcome
    later = steps local one.progress (Some reason) others

    by : (later.closed ≡ None → Some reason ≡ None) → (closed : Option Why) → one.closed ≡ closed → Some reason ≡ None
    by rest (Some found) e = absurd (clash one.closed found e (ap (λ (o : Outcome). o.closed) (sym (first_ends one later (some_of one.closed found e))) ∙ live))
    by rest None e = rest (ap (λ (o : Outcome). o.closed) (sym (first_goes_on one later (none_of one.closed e))) ∙ live)

steps_append : (local : Local) (progress : Progress) (reason : Option Why) (all others : List (List ℕ)) → (steps local progress None all).closed ≡ None
    → steps local progress reason (all ++ others) ≡ onward (steps local progress None all) (steps local (steps local progress None all).progress reason others)
steps_append local progress reason [] others live = sym (onward_none progress (steps local progress reason others))
steps_append local progress reason (message ∷ all) others live =
    by (steps_append local (step local progress message).progress reason all others) (step local progress message).closed refl
  where
    one : Outcome
    one = step local progress message

    later : Outcome
    later = steps local one.progress None all

    behind : Progress → Outcome
    behind p = steps local p reason others

    by : (later.closed ≡ None → steps local one.progress reason (all ++ others) ≡ onward later (behind later.progress)) → (closed : Option Why) → one.closed ≡ closed
        → steps local progress reason ((message ∷ all) ++ others) ≡ onward (steps local progress None (message ∷ all)) (behind (steps local progress None (message ∷ all)).progress)
    by rest (Some found) e = absurd (clash one.closed found e (ap (λ (o : Outcome). o.closed) (sym (first_ends one later (some_of one.closed found e))) ∙ live))
    by rest None e =
        let is = first_goes_on one later (none_of one.closed e) in
        let still : later.closed ≡ None = ap (λ (o : Outcome). o.closed) (sym is) ∙ live in
        first_goes_on one (steps local one.progress reason (all ++ others)) (none_of one.closed e)
        ∙ ap (onward one) (rest still)
        ∙ onward_assoc one later (behind later.progress)
        ∙ ap (λ (o : Outcome). onward o (behind o.progress)) (sym is)

-- the octets of the messages that were heard, where nothing ended the life
steps_spoken : (local : Local) (progress : Progress) (all : List (List ℕ)) → (steps local progress None all).closed ≡ None → (steps local progress None all).spoken ≡ length (join all)
steps_spoken local progress [] live = refl
steps_spoken local progress (message ∷ others) live =
    by (steps_spoken local (step local progress message).progress others) (end_at progress.stage progress.agreed message) refl
  where
    one : Outcome
    one = step local progress message

    later : Outcome
    later = steps local one.progress None others

    by : (later.closed ≡ None → later.spoken ≡ length (join others)) → (found : Option Why) → end_at progress.stage progress.agreed message ≡ found
        → (steps local progress None (message ∷ others)).spoken ≡ length (message ++ join others)
    by rest (Some found) e =
        let is = step_is local progress message (Some found) e in
        let over : one.closed ≡ Some found = ap (λ (o : Outcome). o.closed) is in
        absurd (clash one.closed found over (ap (λ (o : Outcome). o.closed) (sym (first_ends one later (some_of one.closed found over))) ∙ live))
    by rest None e =
        let is = step_is local progress message None e in
        let on : one.closed ≡ None = ap (λ (o : Outcome). o.closed) is in
        let goes = first_goes_on one later (none_of one.closed on) in
        let still : later.closed ≡ None = ap (λ (o : Outcome). o.closed) (sym goes) ∙ live in
        ap (λ (o : Outcome). o.spoken) goes
        ∙ ap (λ (n : ℕ). n + later.spoken) (ap (λ (o : Outcome). o.spoken) is)
        ∙ ap (λ (n : ℕ). length message + n) (rest still)
        ∙ sym (length-append message (join others))

-- octets behind others go on where those ended
pub record Continues (local : Local) (progress : Progress) (a b : List ℕ) : Type 0 where
  pub all : outcome local progress (a ++ b) ≡ onward (outcome local progress a) (outcome local (outcome local progress a).progress (rest_of a ++ b))
  pub left : rest_of (a ++ b) ≡ rest_of (rest_of a ++ b)
  pub partial : framed (rest_of a) ≡ Ok None
  pub spoken : (outcome local progress a).spoken + length (rest_of a) ≡ length a

pub continues : (local : Local) (progress : Progress) (a b : List ℕ) → (outcome local progress a).closed ≡ None → Continues local progress a b
unfolding outcome
continues local progress a b live =
    let fine = reason_none local progress (header_end (rest_of a)) (messages a) live in
    let split = joins a b fine in
    let is : outcome local progress a ≡ steps local progress None (messages a) = ap (λ (reason : Option Why). steps local progress reason (messages a)) fine in
    let still : (steps local progress None (messages a)).closed ≡ None = ap (λ (o : Outcome). o.closed) (sym is) ∙ live in
    let reason = header_end (rest_of (rest_of a ++ b)) in
    let others = messages (rest_of a ++ b) in
    record {
      all = ap (λ (left : List ℕ). steps local progress (header_end left) (messages (a ++ b))) split.left
          ∙ ap (steps local progress reason) split.split
          ∙ steps_append local progress reason (messages a) others still
          ∙ ap (λ (o : Outcome). onward o (steps local o.progress reason others)) (sym is);
      left = split.left;
      partial = split.partial;
      spoken = ap (λ (n : ℕ). n + length (rest_of a)) (ap (λ (o : Outcome). o.spoken) is ∙ steps_spoken local progress (messages a) still)
          ∙ sym (length-append (join (messages a)) (rest_of a)) ∙ ap length split.all;
    }

-- A message that is heard behind octets that aren't a whole message has more octets than those.
pub longer : (local : Local) (progress : Progress) (a b : List ℕ) → framed a ≡ Ok None → ((outcome local progress (a ++ b)).spoken ≡ 0 → ⊥) → length a < (outcome local progress (a ++ b)).spoken
longer local progress a b part some = by (framed (a ++ b)) refl
  where
    by : (found : Result (Option ℕ) BgpFault) → framed (a ++ b) ≡ found → length a < (outcome local progress (a ++ b)).spoken
    by (Ok None) e = absurd (some (ap (λ (o : Outcome). o.spoken) (outcome_none local progress (a ++ b) e)))
    by (Err fault) e = absurd (some (ap (λ (o : Outcome). o.spoken) (outcome_bad local progress (a ++ b) fault e)))
    by (Ok (Some size)) e = by_end (end_at progress.stage progress.agreed message) refl
      where
        message : List ℕ
        message = take size (a ++ b)

        one : Outcome
        one = step local progress message

        later : Outcome
        later = outcome local one.progress (drop size (a ++ b))

        by_end : (found : Option Why) → end_at progress.stage progress.agreed message ≡ found → length a < (outcome local progress (a ++ b)).spoken
        by_end (Some found) f =
            let is = step_is local progress message (Some found) f in
            let over : one.closed ≡ Some found = ap (λ (o : Outcome). o.closed) is in
            absurd (some (ap (λ (o : Outcome). o.spoken) (outcome_next local progress (a ++ b) size e ∙ first_ends one later (some_of one.closed found over) ∙ is)))
        by_end None f =
            let is = step_is local progress message None f in
            let on : one.closed ≡ None = ap (λ (o : Outcome). o.closed) is in
            let all : (outcome local progress (a ++ b)).spoken ≡ length message + later.spoken =
            ap (λ (o : Outcome). o.spoken) (outcome_next local progress (a ++ b) size e ∙ first_goes_on one later (none_of one.closed on))
            ∙ ap (λ (n : ℕ). n + later.spoken) (ap (λ (o : Outcome). o.spoken) is) in
            let long : length message ≡ size = length-take-le size (a ++ b) (is_framed (a ++ b) size e).here in
            let more = longer_than_part a b size part e in
            omega (arith, all, long, more)
