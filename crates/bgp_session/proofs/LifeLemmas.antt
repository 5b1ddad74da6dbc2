-- A life, as its messages one after another give it.
use Rattle.std.proofs.Common.{◌≡◌, ◌∙◌, ◌∷◌, ◌++◌, [], ℕ, false, true, List, length, refl, sym, ap, append_assoc, length-append, arith}
use Rattle.std.proofs.lemmas.Bool.Decides.{nat_tests}
use Rattle.std.specs.Option.{option_or}
use Rattle.std.specs.Prelude.{Bool, Option, Some, None, is_some, ◌==◌, flat_map, not, if◌then◌else◌, min}
use Rattle.bgp_msg.specs.Frames.{fault, kind_of}
use Rattle.bgp_msg.specs.Messages.{body_fault}
use Rattle.bgp_msg.specs.Opens.{hello_of}
use Rattle.bgp_msg.specs.declared.message.Agreed.{Agreed}
use Rattle.bgp_session.specs.Lives.{agreed_in, agreed_with, closed_by, end_at, end_from, farewell, fits, heard, heard_from, hold_agreed, hold_of, next, nothing_agreed, replies_to, reply_to, stage_behind, stage_of, update_in, updates_in}
use Rattle.bgp_session.specs.Moments.{spoken_by}
use Rattle.bgp_session.specs.Steps.{Outcome, behind, ending, onward, outcome, step, step_by, steps}
use Rattle.bgp_session.specs.Stream.{header_end, join, messages, rest_of}
use Rattle.bgp_session.specs.declared.progress.Local.{Local}
use Rattle.bgp_session.specs.declared.progress.Progress.{Progress}
use Rattle.bgp_session.specs.declared.progress.Stage.{Stage}
use Rattle.bgp_session.specs.declared.progress.Stage.TheVariants.{AwaitsOpen, AwaitsKeepalive, Established, Closed}
use Rattle.bgp_session.specs.declared.why.Why.{Why}
use Rattle.bgp_session.specs.declared.why.Why.TheVariants as why
use Rattle.bgp_session.proofs.StepLemmas.{first_then}

-- what a message gives, by what it ends
pub step_is : (local : Local) (progress : Progress) (message : List ℕ) (found : Option Why) → end_at progress.stage progress.agreed message ≡ found
    → step local progress message ≡ step_by local progress message found
unfolding step
step_is local progress message found is = ap (step_by local progress message) is

if_none : (test : Bool) (reason : Why) (other : Option Why) → (if test then Some reason else other) ≡ None → (test ≡ false) × (other ≡ None)
if_none true reason other h = absurd (cc)
if_none false reason other h = (refl, h)

not_false : (test : Bool) → not test ≡ false → test ≡ true
not_false true h = refl
not_false false h = absurd (cc)

-- a message that is heard was awaited
pub awaited : (stage : Stage) (agreed : Agreed) (message : List ℕ) → end_at stage agreed message ≡ None → fits stage (kind_of message) ≡ true
unfolding end_at
awaited stage agreed message none =
    let first = if_none (kind_of message == 3) (why.Notified _ _) _ none in
    let second = if_none (not (fits stage (kind_of message))) (why.Fault (fault 5 0 18)) _ first.1 in
    not_false (fits stage (kind_of message)) second.0

-- an OPEN is awaited first alone
abbrev opens : Stage → Bool
opens AwaitsOpen = true
opens AwaitsKeepalive = false
opens Established = false
opens Closed = false

next_later : (stage : Stage) → opens (next stage) ≡ false
next_later AwaitsOpen = refl
next_later AwaitsKeepalive = refl
next_later Established = refl
next_later Closed = refl

no_open : (stage : Stage) (kind : ℕ) → opens stage ≡ false → fits stage kind ≡ true → (kind == 1) ≡ false
no_open AwaitsOpen kind h k = absurd (cc)
no_open AwaitsKeepalive kind h k = grind (arith, nat_tests, k)
no_open Established kind h k = grind (arith, nat_tests, k)
no_open Closed kind h k = absurd (cc)

-- how an OPEN is read doesn't depend on what is agreed
end_open : (one other : Agreed) (message : List ℕ) → end_at AwaitsOpen one message ≡ end_at AwaitsOpen other message
unfolding end_at body_fault
end_open one other message = by (kind_of message == 1) refl
  where
    by : (opened : Bool) → (kind_of message == 1) ≡ opened → end_at AwaitsOpen one message ≡ end_at AwaitsOpen other message
    by true h = rw h refl
    by false h = rw h refl

-- the stage behind messages that were heard
abbrev stage_from : Stage → List (List ℕ) → Stage
stage_from stage [] = stage
stage_from stage (message ∷ others) = stage_from (next stage) others

established : (others : List (List ℕ)) → stage_from Established others ≡ Established
established [] = refl
established (message ∷ others) = established others

behind_open : (message : List ℕ) (others : List (List ℕ)) → stage_from AwaitsKeepalive others ≡ stage_behind (message ∷ others)
behind_open message [] = refl
behind_open message (keepalive ∷ others) = established others

abbrev stand : Progress → Option Why → List (List ℕ) → Progress
stand progress closed heard = record { stage = if is_some closed then Closed else stage_from progress.stage heard; agreed = progress.agreed; hold = progress.hold }

-- what messages give behind an OPEN, by those that are heard and by what ends them
abbrev told : Local → Progress → Option Why → List (List ℕ) → Outcome
told local progress closed heard = record {
  progress = stand progress closed heard;
  replies = flat_map (reply_to local) heard ++ farewell closed;
  updates = flat_map (update_in progress.agreed) heard;
  spoken = length (join heard);
  closed = closed;
}

told_end : (local : Local) (progress : Progress) (reason : Option Why) → ending progress reason ≡ told local progress reason []
told_end local progress None = refl
told_end local progress (Some reason) = refl

-- one more in front
told_one : (local : Local) (progress : Progress) (message : List ℕ) (closed : Option Why) (heard : List (List ℕ)) → (kind_of message == 1) ≡ false
    → onward (step_by local progress message None) (told local (behind local progress message) closed heard) ≡ told local progress closed (message ∷ heard)
told_one local progress message closed heard other =
    let later : behind local progress message ≡ record { stage = next progress.stage; agreed = progress.agreed; hold = progress.hold } = rw other refl in
    ap (λ (p : Progress). onward (step_by local progress message None) (told local p closed heard)) later
    ∙ (λ i. record {
      progress = stand progress closed (message ∷ heard);
      replies = sym (append_assoc (reply_to local message) (flat_map (reply_to local) heard) (farewell closed)) i;
      updates = flat_map (update_in progress.agreed) (message ∷ heard);
      spoken = sym (length-append message (join heard)) i;
      closed = closed;
    })

-- behind the OPEN
later : (local : Local) (progress : Progress) (reason : Option Why) (all : List (List ℕ)) → opens progress.stage ≡ false
    → steps local progress reason all ≡ told local progress (option_or (end_from progress.stage progress.agreed all) reason) (heard_from progress.stage progress.agreed all)
later local progress reason [] h = told_end local progress reason
later local progress reason (message ∷ others) h =
    by (later local (behind local progress message) reason others (next_later progress.stage)) (end_at progress.stage progress.agreed message) refl
  where
    heard_then : Agreed → List (List ℕ)
    heard_then agreed = heard_from (next progress.stage) agreed others

    end_then : Agreed → Option Why
    end_then agreed = end_from (next progress.stage) agreed others

    whole : Option Why → Outcome
    whole found = told local progress (option_or (option_or found (end_then progress.agreed)) reason) (if is_some found then [] else message ∷ heard_then progress.agreed)

    by : steps local (behind local progress message) reason others ≡ told local (behind local progress message) (option_or (end_then (behind local progress message).agreed) reason) (heard_then (behind local progress message).agreed)
        → (found : Option Why) → end_at progress.stage progress.agreed message ≡ found → steps local progress reason (message ∷ others) ≡ whole found
    by rest (Some reason') e =
        ap (λ (one : Outcome). first_then one (steps local one.progress reason others)) (step_is local progress message (Some reason') e)
        ∙ told_end local progress (Some reason')
    by rest None e =
        let one = step_by local progress message None in
        let other = no_open progress.stage (kind_of message) h (awaited progress.stage progress.agreed message e) in
        let same : (behind local progress message).agreed ≡ progress.agreed = rw other refl in
        ap (λ (one : Outcome). first_then one (steps local one.progress reason others)) (step_is local progress message None e)
        ∙ ap (onward one) rest
        ∙ ap (λ (agreed : Agreed). onward one (told local (behind local progress message) (option_or (end_then agreed) reason) (heard_then agreed))) same
        ∙ told_one local progress message (option_or (end_then progress.agreed) reason) (heard_then progress.agreed) other

-- from the start on
abbrev pub start : Progress
start = record { stage = AwaitsOpen; agreed = nothing_agreed; hold = 0 }

abbrev given : Local → Agreed → Option Why → List (List ℕ) → Outcome
given local agreed closed heard = record {
  progress = record { stage = if is_some closed then Closed else stage_behind heard; agreed = agreed_in heard; hold = hold_agreed local heard };
  replies = flat_map (reply_to local) heard ++ farewell closed;
  updates = flat_map (update_in agreed) heard;
  spoken = length (join heard);
  closed = closed;
}

no_update : (agreed : Agreed) (message : List ℕ) → (kind_of message == 1) ≡ true → update_in agreed message ≡ []
unfolding update_in
no_update agreed message h =
    let other : (kind_of message == 2) ≡ false = grind (arith, nat_tests, h) in
    rw other refl

given_open : (local : Local) (message : List ℕ) (closed : Option Why) (heard : List (List ℕ)) → (kind_of message == 1) ≡ true
    → onward (step_by local start message None) (told local (record { stage = AwaitsKeepalive; agreed = agreed_with (hello_of message); hold = min local.hold (hello_of message).hold }) closed heard)
    ≡ given local (agreed_with (hello_of message)) closed (message ∷ heard)
given_open local message closed heard h =
    let agreed = agreed_with (hello_of message) in
    let nothing : update_in nothing_agreed message ≡ update_in agreed message = no_update nothing_agreed message h ∙ sym (no_update agreed message h) in
    let stage = behind_open message heard in
    λ i. record {
      progress = record { stage = if is_some closed then Closed else stage i; agreed = agreed; hold = min local.hold (hello_of message).hold };
      replies = sym (append_assoc (reply_to local message) (flat_map (reply_to local) heard) (farewell closed)) i;
      updates = nothing i ++ flat_map (update_in agreed) heard;
      spoken = sym (length-append message (join heard)) i;
      closed = closed;
    }

first : (local : Local) (reason : Option Why) (all : List (List ℕ))
    → steps local start reason all ≡ given local (agreed_in all) (option_or (end_from AwaitsOpen (agreed_in all) all) reason) (heard_from AwaitsOpen (agreed_in all) all)
first local None [] = refl
first local (Some reason) [] = refl
first local reason (message ∷ others) = by (end_at AwaitsOpen agreed message) refl
  where
    agreed : Agreed
    agreed = agreed_with (hello_of message)

    heard_then : List (List ℕ)
    heard_then = heard_from AwaitsKeepalive agreed others

    end_then : Option Why
    end_then = end_from AwaitsKeepalive agreed others

    whole : Option Why → Outcome
    whole found = given local agreed (option_or (option_or found end_then) reason) (if is_some found then [] else message ∷ heard_then)

    by : (found : Option Why) → end_at AwaitsOpen agreed message ≡ found → steps local start reason (message ∷ others) ≡ whole found
    by (Some reason') e =
        ap (λ (one : Outcome). first_then one (steps local one.progress reason others)) (step_is local start message (Some reason') (end_open nothing_agreed agreed message ∙ e))
    by None e =
        let one = step_by local start message None in
        let opened = awaited AwaitsOpen agreed message e in
        let after : Progress = record { stage = AwaitsKeepalive; agreed = agreed; hold = min local.hold (hello_of message).hold } in
        let same : behind local start message ≡ after = rw opened refl in
        ap (λ (one : Outcome). first_then one (steps local one.progress reason others)) (step_is local start message None (end_open nothing_agreed agreed message ∙ e))
        ∙ ap (λ (progress : Progress). onward one (steps local progress reason others)) same
        ∙ ap (onward one) (later local after reason others refl)
        ∙ given_open local message (option_or end_then reason) heard_then opened

-- what a life is, as an outcome
abbrev pub life_of : Local → List ℕ → Outcome
life_of local octets = record {
  progress = record { stage = stage_of octets; agreed = agreed_in (heard octets); hold = hold_of local octets };
  replies = replies_to local octets;
  updates = updates_in octets;
  spoken = spoken_by octets;
  closed = closed_by octets;
}

pub life : (local : Local) (octets : List ℕ) → outcome local start octets ≡ life_of local octets
unfolding outcome heard closed_by replies_to updates_in hold_of stage_of spoken_by
life local octets = first local (header_end (rest_of octets)) (messages octets)
