-- What a call of a reader leaves, whatever octets follow.
use Rattle.std.proofs.Common.{◌≡◌, ℕ, ◌∙◌, Bool, true, false, max, List, [], ◌∷◌, ◌++◌, length, take, drop, Option, Some, None, Result, Ok, Err, refl, sym, ap, subst, append_assoc, append-nil, arith}
use Rattle.std.specs.Prelude.{IsTrue, if◌then◌else◌}
use Rattle.std.specs.Option.{option_map}
use Rattle.outside_io.specs.Octets.{Takes}
use Rattle.outside_io.specs.Inputs.{prepend_told, given, EndsAs}
use Rattle.outside_io.specs.declared.input_fault.InputFault.{InputFault}
use Rattle.outside_io.specs.declared.input_fault.InputFault.TheVariants as fault
use Rattle.capture_file.specs.declared.flows.CaptureEnd.{CaptureEnd}
use Rattle.capture_file.specs.declared.flows.CaptureEnd.TheVariants as capture
use Rattle.capture_file.specs.declared.reader.Step.{Step}
use Rattle.capture_file.specs.declared.reader.Progress.{Progress}
use Rattle.capture_file.specs.declared.reader.Progress.TheVariants.{Live}
use Rattle.capture_file.specs.Capture.{has_magic, events_from, end_from, events_of, end_of_events, read_behind}
use Rattle.capture_file.specs.Event.{stamp_of}
use Rattle.capture_file.specs.Reader.{progress_after, told_at, ending_at, ending_told, IsRead}
use Rattle.capture_file.specs.Reading.{event_of, fault_of, step_at, Answers, IsCall, IsEndAt, IsEventAt, Reads, ReadsOn, says_all, events_read, events_behind}
use Rattle.capture_file.specs.Standing.{Standing, at_start, with_octets, judged_at, is_open, past_event, events_at, end_at, ReadsWhileOpen}
use Rattle.capture_file.proofs.Events.{same_events, same_end}
use Rattle.capture_file.proofs.Standing.{IsSame, goes_on, open_is_err, same_with, stands, stops, with_octets-again, with_octets-append}
use Rattle.std.proofs.Common.{length-drop}

-- the reader took the event at the front
pub handed : {E : Type 0} (read : Bool → ℕ → List ℕ → E) (before there next : Standing) (left_before left_now : Option (List ℕ)) (octets : List ℕ) (event : E) (width : ℕ)
    → Takes left_before octets left_now → ReadsWhileOpen before octets → there ≡ with_octets before octets → judged_at there ≡ Ok width
    → event ≡ read there.flows there.moment (take width there.ahead) → next ≡ past_event there width
    → IsCall (read before.flows) before next left_before left_now (Ok (Some event))
handed read before there next left_before left_now octets event width taken while_open at whole same behind = record {
  octets = octets;
  taken = taken;
  while_open = while_open;
  answer = record {
    width = width;
    whole = sym (ap judged_at at) ∙ whole;
    same = same ∙ ap (λ (s : Standing). read s.flows s.moment (take width s.ahead)) at
        ∙ ap (λ (flows : Bool). read flows (with_octets before octets).moment (take width (with_octets before octets).ahead)) (same_with before octets).flows;
    behind = behind ∙ ap (λ (s : Standing). past_event s width) at;
  };
}

-- after an answer without an event the reader stands where it stood with all that it took
stays : {E : Type 0} (read : ℕ → List ℕ → E) (there now : Standing) (left : Option (List ℕ)) (error : InputFault) → Answers read there now left (Err error) → now ≡ there
stays read there now left fault.ReadFault answer = answer.1
stays read there now left fault.NoMemory answer = answer
stays read there now left fault.BadMagic answer = answer.2.stays
stays read there now left (fault.BadKind place) answer = answer.2.stays
stays read there now left (fault.Torn place) answer = answer.2.stays
stays read there now left (fault.TooLong place) answer = answer.2.stays
stays read there now left fault.TooMany answer = answer.2.stays

-- the events that follow, and why they end
record Follows {E : Type 0} (read : ℕ → List ℕ → E) (before now : Standing) (octets later : List ℕ) (handed_out : List E) : Type 0 where
  events : read_behind read before.moment (events_at (with_octets before (octets ++ later))) ≡ handed_out ++ read_behind read now.moment (events_at (with_octets now later))
  end : end_at (with_octets before (octets ++ later)) ≡ end_at (with_octets now later)

follows_stay : {E : Type 0} (read : ℕ → List ℕ → E) (before now : Standing) (octets later : List ℕ) → now ≡ with_octets before octets → Follows read before now octets later []
follows_stay {E = E} read before now octets later at =
    let joined : with_octets before (octets ++ later) ≡ with_octets now later = sym (with_octets-append before octets later) ∙ ap (λ (s : Standing). with_octets s later) (sym at) in
    let moment : before.moment ≡ now.moment = sym (same_with before octets).moment ∙ ap (λ (s : Standing). s.moment) (sym at) in
    record {
      events = ap (λ (s : Standing). read_behind read before.moment (events_at s)) joined ∙ ap (λ (m : ℕ). read_behind read m (events_at (with_octets now later))) moment;
      end = ap end_at joined;
    }

follows_event : {E : Type 0} (read : ℕ → List ℕ → E) (before now : Standing) (octets later : List ℕ) (event : E) → IsEventAt read (with_octets before octets) now event → Follows read before now octets later (event ∷ [])
follows_event {E = E} read before now octets later event is =
    let there = with_octets before octets in
    let width = is.width in
    let goes = goes_on there width later is.whole in
    let joined = sym (with_octets-append before octets later) in
    let ev = take width there.ahead in
    let rest = events_at (with_octets (past_event there width) later) in
    record {
      events = ap (λ (s : Standing). read_behind read before.moment (events_at s)) joined
          ∙ ap (λ (m : ℕ). read_behind read m (events_at (with_octets there later))) (sym (same_with before octets).moment)
          ∙ ap (read_behind read there.moment) goes.events
          ∙ ap (λ (e : E). e ∷ read_behind read (max there.moment (stamp_of ev)) rest) (sym is.same)
          ∙ ap (λ (s : Standing). event ∷ read_behind read s.moment (events_at (with_octets s later))) (sym is.behind);
      end = ap end_at joined ∙ goes.end ∙ ap (λ (s : Standing). end_at (with_octets s later)) (sym is.behind);
    }

follows : {E : Type 0} (read : ℕ → List ℕ → E) (before now : Standing) (octets later : List ℕ) (left : Option (List ℕ)) (result : Result (Option E) InputFault)
    → Answers read (with_octets before octets) now left result → Follows read before now octets later (given result)
follows read before now octets later left (Ok (Some event)) answer = follows_event read before now octets later event answer
follows read before now octets later left (Ok None) answer = follows_stay read before now octets later answer.stays
follows read before now octets later left (Err error) answer = follows_stay read before now octets later (stays read (with_octets before octets) now left error answer)

-- nothing follows where a reader said so
record Nothing {E : Type 0} (read : ℕ → List ℕ → E) (now : Standing) (later : List ℕ) (end : CaptureEnd) : Type 0 where
  none : read_behind read now.moment (events_at (with_octets now later)) ≡ []
  reason : end_at (with_octets now later) ≡ end

nothing : {E : Type 0} (read : ℕ → List ℕ → E) (before now : Standing) (octets later : List ℕ) (end : CaptureEnd) → judged_at (with_octets before octets) ≡ Err end → now ≡ with_octets before octets
    → (IsTrue (is_open (with_octets before octets)) → later ≡ []) → Nothing read now later end
nothing read before now octets later end is at last =
    let there = with_octets before octets in
    let stop = stops there end later is (with_octets-again before octets) last in
    record {
      none = ap (λ (s : Standing). read_behind read s.moment (events_at (with_octets s later))) at ∙ ap (read_behind read there.moment) stop.events;
      reason = ap (λ (s : Standing). end_at (with_octets s later)) at ∙ stop.reason;
    }

nothing_at_end : {E : Type 0} (read : ℕ → List ℕ → E) (before now : Standing) (octets later : List ℕ) (end : CaptureEnd) → IsEndAt (with_octets before octets) now (Some later) end → Nothing read now later end
nothing_at_end read before now octets later end is = nothing read before now octets later end is.reason is.stays is.last

-- what a reader tells goes on as it stands, or is nothing
told_on : {E : Type 0} (read : ℕ → List ℕ → E) (before now : Standing) (octets later : List ℕ) (result : Result (Option E) InputFault)
    → Answers read (with_octets before octets) now (Some later) result → told_at read now Live later ≡ told_at read now (progress_after result) later
told_on read before now octets later (Ok (Some event)) answer = refl
told_on read before now octets later (Ok None) answer = (nothing_at_end read before now octets later capture.Ended answer).none
told_on read before now octets later (Err fault.ReadFault) answer = refl
told_on read before now octets later (Err fault.NoMemory) answer = refl
told_on read before now octets later (Err fault.BadMagic) answer = (nothing_at_end read before now octets later answer.0 answer.2).none
told_on read before now octets later (Err (fault.BadKind place)) answer = (nothing_at_end read before now octets later answer.0 answer.2).none
told_on read before now octets later (Err (fault.Torn place)) answer = (nothing_at_end read before now octets later answer.0 answer.2).none
told_on read before now octets later (Err (fault.TooLong place)) answer = (nothing_at_end read before now octets later answer.0 answer.2).none
told_on read before now octets later (Err fault.TooMany) answer = (nothing_at_end read before now octets later answer.0 answer.2).none

ending_on : {E : Type 0} (read : ℕ → List ℕ → E) (before now : Standing) (octets later : List ℕ) (result : Result (Option E) InputFault)
    → Answers read (with_octets before octets) now (Some later) result → ending_at now Live later ≡ ending_at now (progress_after result) later
ending_on read before now octets later (Ok (Some event)) answer = refl
ending_on read before now octets later (Ok None) answer = ap fault_of (nothing_at_end read before now octets later capture.Ended answer).reason
ending_on read before now octets later (Err fault.ReadFault) answer = refl
ending_on read before now octets later (Err fault.NoMemory) answer = refl
ending_on read before now octets later (Err fault.BadMagic) answer = ap fault_of (nothing_at_end read before now octets later answer.0 answer.2).reason ∙ answer.1
ending_on read before now octets later (Err (fault.BadKind place)) answer = ap fault_of (nothing_at_end read before now octets later answer.0 answer.2).reason ∙ answer.1
ending_on read before now octets later (Err (fault.Torn place)) answer = ap fault_of (nothing_at_end read before now octets later answer.0 answer.2).reason ∙ answer.1
ending_on read before now octets later (Err (fault.TooLong place)) answer = ap fault_of (nothing_at_end read before now octets later answer.0 answer.2).reason ∙ answer.1
ending_on read before now octets later (Err fault.TooMany) answer = ap fault_of (nothing_at_end read before now octets later answer.0 answer.2).reason ∙ answer.1

-- what an input tells before and after a call
pub call_left : {E : Type 0} (read : ℕ → List ℕ → E) (before now : Standing) (progress after : Progress) (left_before left_now : Option (List ℕ)) (result : Result (Option E) InputFault)
    → progress ≡ Live → after ≡ progress_after result → IsCall read before now left_before left_now result
    → prepend_told (given result) (option_map (told_at read now after) left_now) ≡ option_map (told_at read before progress) left_before
call_left {E = E} read before now progress after left_before left_now result live goes call =
    ap (λ (p : Progress). prepend_told (given result) (option_map (told_at read now p) left_now)) goes
    ∙ by left_now call.taken call.answer
    ∙ ap (λ (p : Progress). option_map (told_at read before p) left_before) (sym live)
  where
    by : (left : Option (List ℕ)) → Takes left_before call.octets left → Answers read (with_octets before call.octets) now left result
        → prepend_told (given result) (option_map (told_at read now (progress_after result)) left) ≡ option_map (told_at read before Live) left_before
    by None taken answer = ap (option_map (told_at read before Live)) taken
    by (Some later) taken answer =
        ap (λ (es : List E). Some (given result ++ es)) (sym (told_on read before now call.octets later result answer))
        ∙ ap Some (sym (follows read before now call.octets later (Some later) result answer).events)
        ∙ ap (option_map (told_at read before Live)) taken

pub call_ending : {E : Type 0} (read : ℕ → List ℕ → E) (before now : Standing) (progress after : Progress) (left_before left_now : Option (List ℕ)) (result : Result (Option E) InputFault)
    → progress ≡ Live → after ≡ progress_after result → IsCall read before now left_before left_now result
    → ending_told now after left_now ≡ ending_told before progress left_before
call_ending {E = E} read before now progress after left_before left_now result live goes call =
    ap (λ (p : Progress). ending_told now p left_now) goes
    ∙ by left_now call.taken call.answer
    ∙ ap (λ (p : Progress). ending_told before p left_before) (sym live)
  where
    by : (left : Option (List ℕ)) → Takes left_before call.octets left → Answers read (with_octets before call.octets) now left result
        → ending_told now (progress_after result) left ≡ ending_told before Live left_before
    by None taken answer = ap (ending_told before Live) taken
    by (Some later) taken answer =
        sym (ending_on read before now call.octets later result answer)
        ∙ ap fault_of (sym (follows read before now call.octets later (Some later) result answer).end)
        ∙ ap (ending_told before Live) taken

ends_none : {E : Type 0} (ending : Option InputFault) (result : Result (Option E) InputFault) → EndsAs {T = E} None ending result
ends_none ending (Ok (Some event)) = tt
ends_none ending (Ok None) = tt
ends_none ending (Err fault.ReadFault) = tt
ends_none ending (Err fault.NoMemory) = tt
ends_none ending (Err fault.BadMagic) = tt
ends_none ending (Err (fault.BadKind place)) = tt
ends_none ending (Err (fault.Torn place)) = tt
ends_none ending (Err (fault.TooLong place)) = tt
ends_none ending (Err fault.TooMany) = tt

-- where a reader says that the capture ends, it told nothing more, and that end
ends_some : {E : Type 0} (read : ℕ → List ℕ → E) (before now : Standing) (octets later : List ℕ) (result : Result (Option E) InputFault)
    → Answers read (with_octets before octets) now (Some later) result → EndsAs (Some (told_at read before Live (octets ++ later))) (ending_at before Live (octets ++ later)) result
ends_some {E = E} read before now octets later result answer = by result answer
  where
    end_by : (error : Option InputFault) (end : CaptureEnd) → fault_of end ≡ error → IsEndAt (with_octets before octets) now (Some later) end
        → (told_at read before Live (octets ++ later) ≡ []) × (ending_at before Live (octets ++ later) ≡ error)
    end_by error end is at =
        let on = follows_stay read before now octets later at.stays in
        let stop = nothing_at_end read before now octets later end at in
        (on.events ∙ stop.none, ap fault_of (on.end ∙ stop.reason) ∙ is)

    by : (r : Result (Option E) InputFault) → Answers read (with_octets before octets) now (Some later) r → EndsAs (Some (told_at read before Live (octets ++ later))) (ending_at before Live (octets ++ later)) r
    by (Ok (Some event)) a = tt
    by (Ok None) a = end_by None capture.Ended refl a
    by (Err fault.ReadFault) a = tt
    by (Err fault.NoMemory) a = tt
    by (Err fault.BadMagic) a = end_by (Some fault.BadMagic) a.0 a.1 a.2
    by (Err (fault.BadKind place)) a = end_by (Some (fault.BadKind place)) a.0 a.1 a.2
    by (Err (fault.Torn place)) a = end_by (Some (fault.Torn place)) a.0 a.1 a.2
    by (Err (fault.TooLong place)) a = end_by (Some (fault.TooLong place)) a.0 a.1 a.2
    by (Err fault.TooMany) a = end_by (Some fault.TooMany) a.0 a.1 a.2

pub call_ends : {E : Type 0} (read : ℕ → List ℕ → E) (before now : Standing) (progress : Progress) (left_before left_now : Option (List ℕ)) (result : Result (Option E) InputFault)
    → progress ≡ Live → IsCall read before now left_before left_now result → EndsAs (option_map (told_at read before progress) left_before) (ending_told before progress left_before) result
call_ends {E = E} read before now progress left_before left_now result live call =
    subst (λ (p : Progress). EndsAs (option_map (told_at read before p) left_before) (ending_told before p left_before) result) (sym live) (by left_now call.taken call.answer)
  where
    by : (left : Option (List ℕ)) → Takes left_before call.octets left → Answers read (with_octets before call.octets) now left result
        → EndsAs (option_map (told_at read before Live) left_before) (ending_told before Live left_before) result
    by None taken answer = subst (λ (o : Option (List ℕ)). EndsAs (option_map (told_at read before Live) o) (ending_told before Live o) result) taken (ends_none None result)
    by (Some later) taken answer = subst (λ (o : Option (List ℕ)). EndsAs (option_map (told_at read before Live) o) (ending_told before Live o) result) taken (ends_some read before now call.octets later result answer)

-- a reader goes on with the same capture
pub call_same : {E : Type 0} (read : ℕ → List ℕ → E) (before now : Standing) (octets : List ℕ) (left : Option (List ℕ)) (result : Result (Option E) InputFault)
    → Answers read (with_octets before octets) now left result → (now.flows ≡ before.flows) × (now.most ≡ before.most)
call_same {E = E} read before now octets left result answer = by result answer
  where
    same : IsSame (with_octets before octets) before
    same = same_with before octets

    at : now ≡ with_octets before octets → (now.flows ≡ before.flows) × (now.most ≡ before.most)
    at e = (ap (λ (s : Standing). s.flows) e ∙ same.flows, ap (λ (s : Standing). s.most) e ∙ same.most)

    by : (r : Result (Option E) InputFault) → Answers read (with_octets before octets) now left r → (now.flows ≡ before.flows) × (now.most ≡ before.most)
    by (Ok (Some event)) a = (ap (λ (s : Standing). s.flows) a.behind ∙ same.flows, ap (λ (s : Standing). s.most) a.behind ∙ same.most)
    by (Ok None) a = at a.stays
    by (Err error) a = at (stays read (with_octets before octets) now left error a)

-- what was handed out was read
pub call_read : {E : Type 0} (read : ℕ → List ℕ → E) (before now : Standing) (left_before left_now : Option (List ℕ)) (result : Result (Option E) InputFault)
    → IsCall read before now left_before left_now result → IsRead read before.moment now.moment result
call_read {E = E} read before now left_before left_now result call = by result call.answer
  where
    moment : (with_octets before call.octets).moment ≡ before.moment
    moment = (same_with before call.octets).moment

    by : (r : Result (Option E) InputFault) → Answers read (with_octets before call.octets) now left_now r → IsRead read before.moment now.moment r
    by (Ok (Some event)) a = record {
      octets = take a.width (with_octets before call.octets).ahead;
      same = a.same ∙ ap (λ (m : ℕ). read m (take a.width (with_octets before call.octets).ahead)) moment;
      now = ap (λ (s : Standing). s.moment) a.behind ∙ ap (λ (m : ℕ). max m (stamp_of (take a.width (with_octets before call.octets).ahead))) moment;
      short = (stands (with_octets before call.octets) a.width a.whole).short;
    }
    by (Ok None) a = ap (λ (s : Standing). s.moment) a.stays ∙ moment
    by (Err error) a = ap (λ (s : Standing). s.moment) (stays read (with_octets before call.octets) now left_now error a) ∙ moment

-- the capture from its start
fresh_events : (flows : Bool) (most : ℕ) (octets : List ℕ) → events_at (with_octets (at_start flows most) octets) ≡ events_of flows most octets
fresh_events flows most octets = by (has_magic octets)
  where
    by : (b : Bool) → events_at (if b then record { flows = flows; most = most; begun = true; used = 0; moment = 0; ahead = drop 8 octets } else record { flows = flows; most = most; begun = false; used = 0; moment = 0; ahead = octets })
        ≡ (if b then events_from flows (length octets) most 0 (drop 8 octets) else [])
    by true = same_events flows (length (drop 8 octets)) (length octets) most 0 (drop 8 octets) (omega arith) (omega (arith, length-drop 8 octets))
    by false = refl

fresh_end : (flows : Bool) (most : ℕ) (octets : List ℕ) → end_at (with_octets (at_start flows most) octets) ≡ end_of_events flows most octets
fresh_end flows most octets = by (has_magic octets)
  where
    by : (b : Bool) → end_at (if b then record { flows = flows; most = most; begun = true; used = 0; moment = 0; ahead = drop 8 octets } else record { flows = flows; most = most; begun = false; used = 0; moment = 0; ahead = octets })
        ≡ (if b then end_from flows (length octets) most 0 (drop 8 octets) else capture.BadMagic)
    by true = same_end flows (length (drop 8 octets)) (length octets) most 0 (drop 8 octets) (omega arith) (omega (arith, length-drop 8 octets))
    by false = refl

pub fresh_reads : {E : Type 0} (read : Bool → ℕ → List ℕ → E) (flows : Bool) (most : ℕ) → Reads read (at_start flows most) [] []
fresh_reads read flows most = record {
  first = λ later. ap (read_behind (read flows) 0) (sym (fresh_events flows most later));
  end = λ later. sym (fresh_end flows most later);
}

pub fresh_told : {E : Type 0} (read : ℕ → List ℕ → E) (flows : Bool) (most : ℕ) (octets : List ℕ) → told_at read (at_start flows most) Live octets ≡ read_behind read 0 (events_of flows most octets)
fresh_told read flows most octets = ap (read_behind read 0) (fresh_events flows most octets)

pub fresh_ending : (flows : Bool) (most : ℕ) (octets : List ℕ) → ending_at (at_start flows most) Live octets ≡ fault_of (end_of_events flows most octets)
fresh_ending flows most octets = ap fault_of (fresh_end flows most octets)

-- a step that was read is an event
pub step_is_event : (flows : Bool) (moment : ℕ) (octets : List ℕ) (step : Step) → step ≡ step_at flows moment octets → event_of (Ok step) ≡ Ok (Some step)
step_is_event true moment octets step is = ap (λ (s : Step). event_of (Ok s)) is ∙ ap (λ (s : Step). Ok (Some s)) (sym is)
step_is_event false moment octets step is = ap (λ (s : Step). event_of (Ok s)) is ∙ ap (λ (s : Step). Ok (Some s)) (sym is)

-- where a call says so, no whole event is left of the octets taken
pub none_behind : {E : Type 0} (read : Bool → ℕ → List ℕ → E) (before now : Standing) (left_before left_now : Option (List ℕ)) (result : Result (Option E) InputFault)
    → IsCall (read before.flows) before now left_before left_now result → IsTrue (says_all result) → events_behind read now [] ≡ []
none_behind {E = E} read before now left_before left_now result call said = by result call.answer said
  where
    at_end : (stop : CaptureEnd) → judged_at (with_octets before call.octets) ≡ Err stop → now ≡ with_octets before call.octets → events_behind read now [] ≡ []
    at_end stop is at = (nothing (read now.flows) before now call.octets [] stop is at (λ _. refl)).none

    by : (r : Result (Option E) InputFault) → Answers (read before.flows) (with_octets before call.octets) now left_now r → IsTrue (says_all r) → events_behind read now [] ≡ []
    by (Ok (Some event)) a s = absurd (no s)
      where
        no : false ≡ true → ⊥
        no e = cc
    by (Err fault.NoMemory) a s = absurd (no s)
      where
        no : false ≡ true → ⊥
        no e = cc
    by (Ok None) a s = at_end capture.Ended a.reason a.stays
    by (Err fault.ReadFault) a s = let stop = open_is_err (with_octets before call.octets) a.0 in at_end stop.0 stop.1 a.1
    by (Err fault.BadMagic) a s = at_end a.0 a.2.reason a.2.stays
    by (Err (fault.BadKind place)) a s = at_end a.0 a.2.reason a.2.stays
    by (Err (fault.Torn place)) a s = at_end a.0 a.2.reason a.2.stays
    by (Err (fault.TooLong place)) a s = at_end a.0 a.2.reason a.2.stays
    by (Err fault.TooMany) a s = at_end a.0 a.2.reason a.2.stays

-- one call more
pub call_reads : {E : Type 0} (read : Bool → ℕ → List ℕ → E) (before now : Standing) (left_before left_now : Option (List ℕ)) (result : Result (Option E) InputFault) (octets : List ℕ) (events : List E)
    → IsCall (read before.flows) before now left_before left_now result → Reads read before octets events → ReadsOn read now left_before left_now octets events result
call_reads {E = E} read before now left_before left_now result octets events call so_far = record {
  more = call.octets;
  taken = call.taken;
  reads = record { first = first; end = end };
  all = λ said. ap (events_read read now.flows now.most) (sym (append-nil (octets ++ call.octets))) ∙ first [] ∙ ap (λ (xs : List E). (events ++ given result) ++ xs) (none_behind read before now left_before left_now result call said) ∙ append-nil (events ++ given result);
}
  where
    same : (now.flows ≡ before.flows) × (now.most ≡ before.most)
    same = call_same (read before.flows) before now call.octets left_now result call.answer

    first : (later : List ℕ) → events_read read now.flows now.most ((octets ++ call.octets) ++ later) ≡ (events ++ given result) ++ events_behind read now later
    first later =
        let on = follows (read before.flows) before now call.octets later left_now result call.answer in
        ap (λ (xs : List ℕ). events_read read now.flows now.most xs) (append_assoc octets call.octets later)
        ∙ ap (λ (f : Bool). events_read read f now.most (octets ++ (call.octets ++ later))) same.0
        ∙ ap (λ (m : ℕ). events_read read before.flows m (octets ++ (call.octets ++ later))) same.1
        ∙ so_far.first (call.octets ++ later)
        ∙ ap (λ (xs : List E). events ++ xs) (on.events ∙ ap (λ (f : Bool). given result ++ read_behind (read f) now.moment (events_at (with_octets now later))) (sym same.0))
        ∙ sym (append_assoc events (given result) (events_behind read now later))

    end : (later : List ℕ) → end_of_events now.flows now.most ((octets ++ call.octets) ++ later) ≡ end_at (with_octets now later)
    end later =
        let on = follows (read before.flows) before now call.octets later left_now result call.answer in
        ap (λ (xs : List ℕ). end_of_events now.flows now.most xs) (append_assoc octets call.octets later)
        ∙ ap (λ (f : Bool). end_of_events f now.most (octets ++ (call.octets ++ later))) same.0
        ∙ ap (λ (m : ℕ). end_of_events before.flows m (octets ++ (call.octets ++ later))) same.1
        ∙ so_far.end (call.octets ++ later)
        ∙ on.end

-- what an input over a fresh reader tells
pub fresh_left : {E : Type 0} (read : ℕ → List ℕ → E) (flows : Bool) (most : ℕ) (there : Standing) (progress : Progress) (left : Option (List ℕ)) → there ≡ at_start flows most → progress ≡ Live
    → option_map (told_at read there progress) left ≡ option_map (λ octets. read_behind read 0 (events_of flows most octets)) left
fresh_left {E = E} read flows most there progress left start live =
    ap (λ (s : Standing). option_map (told_at read s progress) left) start
    ∙ ap (λ (p : Progress). option_map (told_at read (at_start flows most) p) left) live
    ∙ by left
  where
    by : (o : Option (List ℕ)) → option_map (told_at read (at_start flows most) Live) o ≡ option_map (λ octets. read_behind read 0 (events_of flows most octets)) o
    by None = refl
    by (Some octets) = ap Some (fresh_told read flows most octets)

pub fresh_ends : (flows : Bool) (most : ℕ) (there : Standing) (progress : Progress) (left : Option (List ℕ)) (octets : List ℕ) → there ≡ at_start flows most → progress ≡ Live → left ≡ Some octets
    → ending_told there progress left ≡ fault_of (end_of_events flows most octets)
fresh_ends flows most there progress left octets start live told =
    ap (ending_told there progress) told
    ∙ ap (λ (s : Standing). ending_at s progress octets) start
    ∙ ap (λ (p : Progress). ending_at (at_start flows most) p octets) live
    ∙ fresh_ending flows most octets
