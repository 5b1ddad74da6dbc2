-- One message after another.
use Rattle.std.proofs.Common.{◌≡◌, ◌+◌, ◌∙◌, ◌∷◌, ◌++◌, [], ℕ, false, true, List, take, drop, refl, sym, ap, subst, append_assoc, add_assoc, zero-add, arith}
use Rattle.std.proofs.lemmas.Bool.Decides.{nat_tests}
use Rattle.std.specs.Prelude.{Bool, Option, Some, None, Ok, Err, is_some, option_map, ◌||◌, ◌==◌, not, map, if◌then◌else◌}
use Rattle.acct_types.specs.Updates.{update_view}
use Rattle.bgp_msg.specs.Frames.{framed}
use Rattle.bgp_msg.specs.declared.message.BgpFault.{BgpFault}
use Rattle.bgp_session.specs.Steps.{Gathered, Outcome, added, ending, gathered, kept, listening, onward, outcome, step, steps}
use Rattle.bgp_session.specs.Stream.{header_end, messages, rest_of}
use Rattle.bgp_session.specs.declared.hearing.Hearing.{Hearing}
use Rattle.bgp_session.specs.declared.progress.Local.{Local}
use Rattle.bgp_session.specs.declared.progress.Progress.{Progress}
use Rattle.bgp_session.specs.declared.why.Why.{Why}
use Rattle.bgp_session.specs.declared.why.Why.TheVariants.{Fault}
use Rattle.framed_pieces.specs.Listening.{heard_all, judged, kept as kept_by, taken}
use Rattle.framed_pieces.specs.Stream.{fault_at}
use Rattle.framed_pieces.proofs.TakenLemmas.{at_end}
use Rattle.bgp_session.proofs.StreamLemmas.{end_bad, end_none, messages_bad, messages_next, messages_none, rest_bad, rest_next, rest_none}

-- ---- what octets give

pub outcome_none : (local : Local) (progress : Progress) (octets : List ℕ) → framed octets ≡ Ok None → outcome local progress octets ≡ ending progress None
unfolding outcome
outcome_none local progress octets is =
    ap (λ (left : List ℕ). steps local progress (header_end left) (messages octets)) (rest_none octets is)
    ∙ ap (λ (reason : Option Why). steps local progress reason (messages octets)) (end_none octets is)
    ∙ ap (steps local progress None) (messages_none octets is)

pub outcome_bad : (local : Local) (progress : Progress) (octets : List ℕ) (fault : BgpFault) → framed octets ≡ Err fault → outcome local progress octets ≡ ending progress (Some (Fault fault))
unfolding outcome
outcome_bad local progress octets fault is =
    ap (λ (left : List ℕ). steps local progress (header_end left) (messages octets)) (rest_bad octets fault is)
    ∙ ap (λ (reason : Option Why). steps local progress reason (messages octets)) (end_bad octets fault is)
    ∙ ap (steps local progress (Some (Fault fault))) (messages_bad octets fault is)

-- what a message gives, and what those behind it give, unless it ends the life
abbrev pub first_then : Outcome → Outcome → Outcome
first_then first later = if is_some first.closed then first else onward first later

pub outcome_next : (local : Local) (progress : Progress) (octets : List ℕ) (size : ℕ) → framed octets ≡ Ok (Some size)
    → outcome local progress octets ≡ first_then (step local progress (take size octets)) (outcome local (step local progress (take size octets)).progress (drop size octets))
unfolding outcome
outcome_next local progress octets size is =
    ap (λ (left : List ℕ). steps local progress (header_end left) (messages octets)) (rest_next octets size is)
    ∙ ap (steps local progress (header_end (rest_of (drop size octets)))) (messages_next octets size is)

pub some_of : (closed : Option Why) (reason : Why) → closed ≡ Some reason → is_some closed ≡ true
some_of closed reason h = rw h refl

pub none_of : (closed : Option Why) → closed ≡ None → is_some closed ≡ false
none_of closed h = rw h refl

pub first_ends : (first later : Outcome) → is_some first.closed ≡ true → first_then first later ≡ first
first_ends first later h = rw h refl

pub first_goes_on : (first later : Outcome) → is_some first.closed ≡ false → first_then first later ≡ onward first later
first_goes_on first later h = rw h refl

-- ---- what is gathered

or_false : (b : Bool) → b ≡ (b || false)
or_false true = refl
or_false false = refl

append_none : {A : Type 0} (xs : List A) → xs ≡ xs ++ []
append_none [] = refl
append_none (x ∷ xs) = ap (λ (ys : List _). x ∷ ys) (append_none xs)

-- nothing in front changes nothing
pub onward_none : (progress : Progress) (later : Outcome) → onward (ending progress None) later ≡ later
onward_none progress later = λ i. record {
  progress = later.progress;
  replies = later.replies;
  updates = later.updates;
  spoken = zero-add later.spoken i;
  closed = later.closed;
}

-- one behind another are added
or_sum : (a b : ℕ) → (not (a == 0) || not (b == 0)) ≡ not (a + b == 0)
or_sum a b = grind (arith, nat_tests)

or_assoc : (a b c : Bool) → ((a || b) || c) ≡ (a || (b || c))
or_assoc true b c = refl
or_assoc false b c = refl

pub onward_assoc : (first second third : Outcome) → onward first (onward second third) ≡ onward (onward first second) third
onward_assoc first second third = λ i. record {
  progress = third.progress;
  replies = sym (append_assoc first.replies second.replies third.replies) i;
  updates = sym (append_assoc first.updates second.updates third.updates) i;
  spoken = sym (add_assoc first.spoken second.spoken third.spoken) i;
  closed = third.closed;
}

-- nothing more
added_none : (before : Gathered) → before.closed ≡ None → before ≡ added before (ending before.progress None)
added_none before live = λ i. record {
  local = before.local;
  progress = before.progress;
  replies = append_none before.replies i;
  updates = append_none before.updates i;
  some = or_false before.some i;
  closed = live i;
}

added_onward : (before : Gathered) (first later : Outcome) → added (added before first) later ≡ added before (onward first later)
added_onward before first later =
    let some : ((before.some || not (first.spoken == 0)) || not (later.spoken == 0)) ≡ (before.some || not (first.spoken + later.spoken == 0)) =
    or_assoc before.some (not (first.spoken == 0)) (not (later.spoken == 0)) ∙ ap (λ (b : Bool). before.some || b) (or_sum first.spoken later.spoken) in
    λ i. record {
      local = before.local;
      progress = later.progress;
      replies = append_assoc before.replies first.replies later.replies i;
      updates = append_assoc before.updates first.updates later.updates i;
      some = some i;
      closed = later.closed;
    }

abbrev as_end : Option BgpFault → Option Why
as_end found = option_map (λ fault. Fault fault) found

-- what a listener gathers of messages is what they give
gathers : (before : Gathered) (found : Option BgpFault) (all : List (List ℕ)) → before.closed ≡ None
    → judged listening (heard_all listening before all) found ≡ added before (steps before.local before.progress (as_end found) all)
gathers before None [] live = added_none before live
gathers before (Some fault) [] live = ap (λ (closed : Option Why). if is_some closed then before else added before (ending before.progress (Some (Fault fault)))) live
gathers before found (message ∷ others) live = by (gathers (added before one) found others) one.closed refl
  where
    one : Outcome
    one = step before.local before.progress message

    later : Outcome
    later = steps before.local one.progress (as_end found) others

    goes : Bool → Gathered
    goes over = judged listening (if over then added before one else heard_all listening (added before one) others) found

    by : (one.closed ≡ None → goes false ≡ added (added before one) later) → (closed : Option Why) → one.closed ≡ closed → goes (is_some one.closed) ≡ added before (first_then one later)
    by rest (Some reason) e =
        let over = some_of one.closed reason e in
        ap goes over ∙ at_end listening (added before one) found over ∙ ap (added before) (sym (first_ends one later over))
    by rest None e =
        let on = none_of one.closed e in
        ap goes on ∙ rest e ∙ added_onward before one later ∙ ap (added before) (sym (first_goes_on one later on))

pub taken_is : (before : Gathered) (octets : List ℕ) → before.closed ≡ None → taken framed listening before octets ≡ added before (outcome before.local before.progress octets)
unfolding taken outcome
taken_is before octets live = gathers before (fault_at framed (rest_of octets)) (messages octets) live

-- what a piece gives
pub record Gives (old new : Hearing) (begun : List ℕ) (given : Outcome) (octets : List ℕ) : Type 0 where
  pub progress : new.progress ≡ given.progress
  pub replies : new.replies ≡ old.replies ++ given.replies
  pub updates : map update_view new.updates ≡ map update_view old.updates ++ given.updates
  pub some : new.some ≡ (old.some || not (given.spoken == 0))
  pub closed : new.closed ≡ given.closed
  pub kept : begun ≡ kept given.closed (rest_of octets)

kept_is : (closed : Option Why) (rest : List ℕ) → (if is_some closed then [] else rest) ≡ kept closed rest
kept_is None rest = refl
kept_is (Some reason) rest = refl

pub gives : (old new : Hearing) (begun octets : List ℕ) → old.closed ≡ None → gathered new ≡ taken framed listening (gathered old) octets → begun ≡ kept_by framed listening (gathered old) octets
    → Gives old new begun (outcome old.local old.progress octets) octets
gives old new begun octets live takes keeps =
    let is = taken_is (gathered old) octets live in
    let all = takes ∙ is in
    record {
      progress = ap (λ (g : Gathered). g.progress) all;
      replies = ap (λ (g : Gathered). g.replies) all;
      updates = ap (λ (g : Gathered). g.updates) all;
      some = ap (λ (g : Gathered). g.some) all;
      closed = ap (λ (g : Gathered). g.closed) all;
      kept = keeps ∙ ap (λ (g : Gathered). if is_some g.closed then [] else rest_of octets) is ∙ kept_is (outcome old.local old.progress octets).closed (rest_of octets);
    }

pub gives_from : (old new : Hearing) (begun octets : List ℕ) (local : Local) (start : Progress) → old.local ≡ local → old.progress ≡ start → old.closed ≡ None
    → gathered new ≡ taken framed listening (gathered old) octets → begun ≡ kept_by framed listening (gathered old) octets → Gives old new begun (outcome local start octets) octets
gives_from old new begun octets local start local_is start_is live takes keeps =
    subst (λ (l : Local). Gives old new begun (outcome l start octets) octets) local_is
    (subst (λ (p : Progress). Gives old new begun (outcome old.local p octets) octets) start_is (gives old new begun octets live takes keeps))
