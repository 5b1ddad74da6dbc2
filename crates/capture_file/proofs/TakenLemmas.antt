-- What any calls of an input over a fresh reader took and handed out.
use Rattle.std.proofs.Common.{◌≡◌, ℕ, ◌∙◌, Bool, true, false, List, [], ◌∷◌, ◌++◌, Option, Some, None, Result, Ok, Err, refl, sym, ap, subst, append_assoc, append-nil, length}
use Rattle.std.specs.Prelude.{IsTrue, nat_lt, if◌then◌else◌}
use Rattle.std.specs.Io.KnownBytes.{IsAtEnd}
use Rattle.std.proofs.lemmas.Grind.{flat_map-append}
use Rattle.outside_io.specs.Calls.{Calls, EndWith, handed_out}
use Rattle.outside_io.specs.Inputs.{given, is_of_capture}
use Rattle.outside_io.specs.States.{SourceState}
use Rattle.outside_io.specs.Octets.{Takes}
use Rattle.outside_io.specs.declared.input_fault.InputFault.{InputFault}
use Rattle.outside_io.specs.declared.input_fault.InputFault.TheVariants as fault
use Rattle.capture_file.specs.declared.flows.CaptureEnd.{CaptureEnd}
use Rattle.capture_file.specs.declared.flows.CaptureEnd.TheVariants as capture
use Rattle.capture_file.specs.declared.reader.CaptureReader.{CaptureReader}
use Rattle.capture_file.specs.declared.reader.Progress.{Progress}
use Rattle.capture_file.specs.declared.reader.Progress.TheVariants.{Live, Over, Failed}
use Rattle.capture_file.specs.Capture.{end_of_events, read_behind}
use Rattle.capture_file.specs.Event.{datagram_at, judged, route_event_at}
use Rattle.capture_file.specs.Inputs.{flows_call, flows_reader, routes_call, routes_reader}
use Rattle.capture_file.specs.Reader.{end_answer, progress_after, progress_of, source_of, standing_of, IsCallAt, IsFresh, IsInputCall, IsLiveCall}
use Rattle.capture_file.specs.Reading.{fault_of, says_all, events_read, events_behind, Answers, IsCall, IsEndAt, Reads}
use Rattle.capture_file.specs.Standing.{Standing, past_magic, with_octets, judged_at, is_open, may_turn, end_at}
use Rattle.capture_file.specs.Taken.{HandsOutTaken, FlowsHandOutTaken, RoutesHandOutTaken}
use Rattle.capture_file.proofs.Calls.{call_reads, call_same, fresh_reads, none_behind}
use Rattle.capture_file.proofs.Looking.{takes_more, takes_nothing}
use Rattle.capture_file.proofs.Standing.{stops, with_octets-again}

-- the reader stands where its capture ends for that reason
record StandsAtEnd (now : Standing) (left : Option (List ℕ)) (end : CaptureEnd) : Type 0 where
  reason : judged_at now ≡ Err end
  passed : past_magic now ≡ now
  last : IsTrue (is_open now) → IsAtEnd left

-- it does once the capture is over
abbrev StandsBy : Standing → Option (List ℕ) → Progress → Type 0
StandsBy now left Live = Unit {0}
StandsBy now left (Over end) = StandsAtEnd now left end
StandsBy now left Failed = Unit {0}

-- how the reader goes on behind its last answer, and that nothing is ahead of a failed read
abbrev Leaves : {E : Type 0} → (Bool → ℕ → List ℕ → E) → Standing → Progress → Result (Option E) InputFault → Type 0
Leaves read now progress (Ok (Some event)) = Unit {0}
Leaves read now progress (Ok None) = progress ≡ Over capture.Ended
Leaves read now progress (Err fault.ReadFault) = events_behind read now [] ≡ []
Leaves read now progress (Err fault.NoMemory) = Unit {0}
Leaves read now progress (Err error) = (end : CaptureEnd) × (fault_of end ≡ Some error) × (progress ≡ Over end)

-- what is known behind some calls
record SoFar {E S : Type 0} (read : ℕ → List ℕ → E) (state : S → SourceState) (start reader : CaptureReader S) (answers : List (Result (Option E) InputFault)) : Type 0 where
  octets : List ℕ
  taken : Takes (state (source_of start)).left octets (state (source_of reader)).left
  reads : Reads (λ _. read) (standing_of reader) octets (handed_out answers)
  same : ((standing_of reader).flows ≡ (standing_of start).flows) × ((standing_of reader).most ≡ (standing_of start).most)
  stands : StandsBy (standing_of reader) (state (source_of reader)).left (progress_of reader)
  last : (answer : Result (Option E) InputFault) → EndWith answers answer → Leaves (λ _. read) (standing_of reader) (progress_of reader) answer

-- one answer alone is the last
abbrev last_or : {T : Type 0} → T → List T → T
last_or other [] = other
last_or other (x ∷ xs) = last_or x xs

last_or-append : {T : Type 0} (other : T) (xs : List T) (x : T) → last_or other (xs ++ x ∷ []) ≡ x
last_or-append other [] x = refl
last_or-append other (y ∷ xs) x = last_or-append y xs x

same_last : {E : Type 0} (answers : List (Result (Option E) InputFault)) (answer other : Result (Option E) InputFault) → EndWith (answers ++ answer ∷ []) other → answer ≡ other
same_last answers answer other (earlier, is) = sym (last_or-append answer answers answer) ∙ ap (last_or answer) is ∙ last_or-append answer earlier other

none_last : {E : Type 0} (answer : Result (Option E) InputFault) → EndWith [] answer → ⊥
none_last answer ([], is) = cc
none_last answer (x ∷ earlier, is) = cc

handed_out_more : {E : Type 0} (answers : List (Result (Option E) InputFault)) (answer : Result (Option E) InputFault) → handed_out answers ++ given answer ≡ handed_out (answers ++ answer ∷ [])
handed_out_more {E = E} answers answer =
    ap (λ (events : List E). handed_out answers ++ events) (sym (append-nil (given answer))) ∙ sym (flat_map-append given answers (answer ∷ []))

-- a call that answers an end leaves the reader there
at_end : (before now : Standing) (octets : List ℕ) (left : Option (List ℕ)) (end : CaptureEnd) → IsEndAt (with_octets before octets) now left end → StandsAtEnd now left end
at_end before now octets left end is = record {
  reason = ap judged_at is.stays ∙ is.reason;
  passed = ap past_magic is.stays ∙ with_octets-again before octets ∙ sym is.stays;
  last = λ opened. is.last (sym (ap is_open is.stays) ∙ opened);
}

-- the end that a fault is
abbrev end_of_fault : Option InputFault → CaptureEnd
end_of_fault None = capture.Ended
end_of_fault (Some fault.BadMagic) = capture.BadMagic
end_of_fault (Some (fault.BadKind place)) = capture.BadKind place
end_of_fault (Some (fault.Torn place)) = capture.Torn place
end_of_fault (Some (fault.TooLong place)) = capture.TooLong place
end_of_fault (Some fault.TooMany) = capture.TooMany
end_of_fault (Some fault.ReadFault) = capture.Ended
end_of_fault (Some fault.NoMemory) = capture.Ended

end_of_fault-fault_of : (end : CaptureEnd) → end_of_fault (fault_of end) ≡ end
end_of_fault-fault_of capture.Ended = refl
end_of_fault-fault_of capture.BadMagic = refl
end_of_fault-fault_of (capture.BadKind place) = refl
end_of_fault-fault_of (capture.Torn place) = refl
end_of_fault-fault_of (capture.TooLong place) = refl
end_of_fault-fault_of capture.TooMany = refl

at_fault : (before now : Standing) (octets : List ℕ) (left : Option (List ℕ)) (error : InputFault)
    → (end : CaptureEnd) × (fault_of end ≡ Some error) × IsEndAt (with_octets before octets) now left end → StandsAtEnd now left (end_of_fault (Some error))
at_fault before now octets left error (end, is, stands) =
    subst (StandsAtEnd now left) (sym (end_of_fault-fault_of end) ∙ ap end_of_fault is) (at_end before now octets left end stands)

call_stands : {E : Type 0} (read : ℕ → List ℕ → E) (before now : Standing) (octets : List ℕ) (left : Option (List ℕ)) (result : Result (Option E) InputFault)
    → Answers read (with_octets before octets) now left result → StandsBy now left (progress_after result)
call_stands read before now octets left (Ok (Some event)) answer = tt
call_stands read before now octets left (Ok None) answer = at_end before now octets left capture.Ended answer
call_stands read before now octets left (Err fault.ReadFault) answer = tt
call_stands read before now octets left (Err fault.NoMemory) answer = tt
call_stands read before now octets left (Err fault.BadMagic) answer = at_fault before now octets left fault.BadMagic answer
call_stands read before now octets left (Err (fault.BadKind place)) answer = at_fault before now octets left (fault.BadKind place) answer
call_stands read before now octets left (Err (fault.Torn place)) answer = at_fault before now octets left (fault.Torn place) answer
call_stands read before now octets left (Err (fault.TooLong place)) answer = at_fault before now octets left (fault.TooLong place) answer
call_stands read before now octets left (Err fault.TooMany) answer = at_fault before now octets left fault.TooMany answer

call_leaves : {E : Type 0} (read : Bool → ℕ → List ℕ → E) (before now : Standing) (left_before left_now : Option (List ℕ)) (result : Result (Option E) InputFault)
    → IsCall (read before.flows) before now left_before left_now result → Leaves read now (progress_after result) result
call_leaves read before now left_before left_now (Ok (Some event)) call = tt
call_leaves read before now left_before left_now (Ok None) call = refl
call_leaves read before now left_before left_now (Err fault.ReadFault) call = none_behind read before now left_before left_now (Err fault.ReadFault) call refl
call_leaves read before now left_before left_now (Err fault.NoMemory) call = tt
call_leaves read before now left_before left_now (Err fault.BadMagic) call = (capture.BadMagic, refl, refl)
call_leaves read before now left_before left_now (Err (fault.BadKind place)) call = (capture.BadKind place, refl, refl)
call_leaves read before now left_before left_now (Err (fault.Torn place)) call = (capture.Torn place, refl, refl)
call_leaves read before now left_before left_now (Err (fault.TooLong place)) call = (capture.TooLong place, refl, refl)
call_leaves read before now left_before left_now (Err fault.TooMany) call = (capture.TooMany, refl, refl)

-- an end that is answered again
again_leaves : {E : Type 0} (read : Bool → ℕ → List ℕ → E) (now : Standing) (end : CaptureEnd) → Leaves read now (Over end) (end_answer end)
again_leaves read now capture.Ended = refl
again_leaves read now capture.BadMagic = (capture.BadMagic, refl, refl)
again_leaves read now (capture.BadKind place) = (capture.BadKind place, refl, refl)
again_leaves read now (capture.Torn place) = (capture.Torn place, refl, refl)
again_leaves read now (capture.TooLong place) = (capture.TooLong place, refl, refl)
again_leaves read now capture.TooMany = (capture.TooMany, refl, refl)

end_gives_none : {E : Type 0} (end : CaptureEnd) → given (end_answer {E = E} end) ≡ []
end_gives_none capture.Ended = refl
end_gives_none capture.BadMagic = refl
end_gives_none (capture.BadKind place) = refl
end_gives_none (capture.Torn place) = refl
end_gives_none (capture.TooLong place) = refl
end_gives_none capture.TooMany = refl

fresh : {E S : Type 0} (read : ℕ → List ℕ → E) (state : S → SourceState) (flows : Bool) (start : CaptureReader S) → IsFresh flows start → SoFar read state start start []
fresh read state flows start is = record {
  octets = [];
  taken = takes_nothing (state (source_of start)).left;
  reads = subst (λ (there : Standing). Reads (λ _. read) there [] []) (sym is.start) (fresh_reads (λ _. read) flows (standing_of start).most);
  same = (refl, refl);
  stands = subst (λ (p : Progress). StandsBy (standing_of start) (state (source_of start)).left p) (sym is.live) tt;
  last = λ answer is_last. absurd (none_last answer is_last);
}

-- a call of a live reader
live_more : {E S : Type 0} (read : ℕ → List ℕ → E) (state : S → SourceState) (start before after : CaptureReader S) (answers : List (Result (Option E) InputFault)) (answer : Result (Option E) InputFault)
    → SoFar read state start before answers → IsLiveCall read state before after answer → SoFar read state start after (answers ++ answer ∷ [])
live_more {E = E} read state start before after answers answer so_far live =
    let call = live.call in
    let on = call_reads (λ _. read) (standing_of before) (standing_of after) _ _ answer so_far.octets (handed_out answers) call so_far.reads in
    let same = call_same read (standing_of before) (standing_of after) call.octets _ answer call.answer in
    record {
      octets = so_far.octets ++ on.more;
      taken = takes_more _ _ _ so_far.octets on.more so_far.taken on.taken;
      reads = subst (λ (events : List E). Reads (λ _. read) (standing_of after) (so_far.octets ++ on.more) events) (handed_out_more answers answer) on.reads;
      same = (same.0 ∙ so_far.same.0, same.1 ∙ so_far.same.1);
      stands = subst (λ (p : Progress). StandsBy (standing_of after) (state (source_of after)).left p) (sym live.progress)
          (call_stands read (standing_of before) (standing_of after) call.octets _ answer call.answer);
      last = λ other is_last. subst (λ (last : Result (Option E) InputFault). Leaves (λ _. read) (standing_of after) (progress_of after) last) (same_last answers answer other is_last)
          (subst (λ (p : Progress). Leaves (λ _. read) (standing_of after) p answer) (sym live.progress) (call_leaves (λ _. read) (standing_of before) (standing_of after) _ _ answer call));
    }

-- a call of one that isn't, whose answer hands out nothing
idle_more : {E S : Type 0} (read : ℕ → List ℕ → E) (state : S → SourceState) (start reader : CaptureReader S) (answers : List (Result (Option E) InputFault)) (answer : Result (Option E) InputFault)
    → SoFar read state start reader answers → given answer ≡ [] → Leaves (λ _. read) (standing_of reader) (progress_of reader) answer → SoFar read state start reader (answers ++ answer ∷ [])
idle_more {E = E} read state start reader answers answer so_far none leaves = record {
  octets = so_far.octets;
  taken = so_far.taken;
  reads = subst (λ (events : List E). Reads (λ _. read) (standing_of reader) so_far.octets events) (sym (append-nil (handed_out answers)) ∙ ap (λ (xs : List E). handed_out answers ++ xs) (sym none) ∙ handed_out_more answers answer) so_far.reads;
  same = so_far.same;
  stands = so_far.stands;
  last = λ other is_last. subst (λ (last : Result (Option E) InputFault). Leaves (λ _. read) (standing_of reader) (progress_of reader) last) (same_last answers answer other is_last) leaves;
}

-- one call more
one_more : {E S : Type 0} (read : ℕ → List ℕ → E) (state : S → SourceState) (start before after : CaptureReader S) (answers : List (Result (Option E) InputFault)) (answer : Result (Option E) InputFault)
    → SoFar read state start before answers → IsInputCall read state before after answer → SoFar read state start after (answers ++ answer ∷ [])
one_more {E = E} {S = S} read state start before after answers answer so_far call = by (progress_of before) refl call
  where
    by : (p : Progress) → progress_of before ≡ p → IsCallAt p read state before after answer → SoFar read state start after (answers ++ answer ∷ [])
    by Live at live = live_more read state start before after answers answer so_far live
    by (Over end) at idle =
        subst (λ (reader : CaptureReader S). SoFar read state start reader (answers ++ answer ∷ [])) (sym idle.unchanged)
        (idle_more read state start before answers answer so_far (ap given idle.answer ∙ end_gives_none end)
        (subst (λ (p : Progress). Leaves (λ _. read) (standing_of before) p answer) (sym at)
        (subst (λ (last : Result (Option E) InputFault). Leaves (λ _. read) (standing_of before) (Over end) last) (sym idle.answer) (again_leaves (λ _. read) (standing_of before) end))))
    by Failed at live = live_more read state start before after answers answer so_far live

-- any more calls
more : {E S : Type 0} (read : ℕ → List ℕ → E) (state : S → SourceState) (start before after : CaptureReader S) (answers next : List (Result (Option E) InputFault))
    → SoFar read state start before answers → Calls (IsInputCall read state) before after next → SoFar read state start after (answers ++ next)
more {E = E} {S = S} read state start before after answers [] so_far none =
    subst (λ (all : List (Result (Option E) InputFault)). SoFar read state start after all) (sym (append-nil answers)) (subst (λ (reader : CaptureReader S). SoFar read state start reader answers) (sym none) so_far)
more {E = E} read state start before after answers (answer ∷ next) so_far (between, call, calls) =
    subst (λ (all : List (Result (Option E) InputFault)). SoFar read state start after all) (append_assoc answers (answer ∷ []) next)
    (more read state start between after (answers ++ answer ∷ []) next (one_more read state start before between answers answer so_far call) calls)

-- a reader whose capture is over has nothing ahead
record IsDone {E : Type 0} (read : Bool → ℕ → List ℕ → E) (now : Standing) (end : CaptureEnd) (later : List ℕ) : Type 0 where
  none : events_behind read now later ≡ []
  reason : end_at (with_octets now later) ≡ end

done : {E : Type 0} (read : Bool → ℕ → List ℕ → E) (now : Standing) (left : Option (List ℕ)) (end : CaptureEnd) (later : List ℕ) → StandsAtEnd now left end → (IsTrue (is_open now) → later ≡ []) → IsDone read now end later
done read now left end later at none =
    let stop = stops now end later at.reason at.passed none in
    record { none = ap (read_behind (read now.flows) now.moment) stop.events; reason = stop.reason }

-- an end without a fault is open
ended_is_open : (now : Standing) → judged_at now ≡ Err capture.Ended → IsTrue (is_open now)
ended_is_open now is = by now.begun is
  where
    by : (b : Bool) → (if b then judged now.flows now.most now.used now.ahead else Err capture.BadMagic) ≡ Err capture.Ended → (if b then may_turn (judged now.flows now.most now.used now.ahead) else nat_lt (length now.ahead) 8) ≡ true
    by true e = ap may_turn e
    by false e = cc

-- behind a fault of the capture the capture is over
fault_leaves : {E : Type 0} (read : Bool → ℕ → List ℕ → E) (now : Standing) (progress : Progress) (error : InputFault) → IsTrue (is_of_capture error)
    → Leaves read now progress (Err error) → (end : CaptureEnd) × (fault_of end ≡ Some error) × (progress ≡ Over end)
fault_leaves read now progress fault.BadMagic is leaves = leaves
fault_leaves read now progress (fault.BadKind place) is leaves = leaves
fault_leaves read now progress (fault.Torn place) is leaves = leaves
fault_leaves read now progress (fault.TooLong place) is leaves = leaves
fault_leaves read now progress fault.TooMany is leaves = leaves
fault_leaves read now progress fault.ReadFault is leaves = cc
fault_leaves read now progress fault.NoMemory is leaves = cc

no_later : (left : Option (List ℕ)) (later : List ℕ) → left ≡ Some later → IsAtEnd left → later ≡ []
no_later None later is at = cc
no_later (Some octets) later is at = let same : octets ≡ later = cc in sym same ∙ at

-- what the calls so far say
tells : {E S : Type 0} (read : ℕ → List ℕ → E) (state : S → SourceState) (flows : Bool) (start reader : CaptureReader S) (answers : List (Result (Option E) InputFault)) → IsFresh flows start → SoFar read state start reader answers
    → let most = (standing_of start).most in HandsOutTaken (events_read (λ _. read) flows most) (end_of_events flows most) (state (source_of start)).left (state (source_of reader)).left answers
tells {E = E} read state flows start reader answers is so_far = record {
  octets = so_far.octets;
  taken = so_far.taken;
  ahead = events_behind (λ _. read) now [];
  first = ap (events_read (λ _. read) flows most) (sym (append-nil so_far.octets)) ∙ events [];
  first_on = λ later. (events_behind (λ _. read) now later, events later);
  all = λ answer is_last said. all answer said (so_far.last answer is_last);
  whole = λ is_last. record {
    end = ap (end_of_events flows most) (sym (append-nil so_far.octets)) ∙ end [] ∙ (done (λ _. read) now left_now capture.Ended [] (over capture.Ended (so_far.last (Ok None) is_last)) (λ _. refl)).reason;
    last = let at = over capture.Ended (so_far.last (Ok None) is_last) in at.last (ended_is_open now at.reason);
  };
  bad = λ error is_last of_capture.
      let leaves = fault_leaves (λ _. read) now (progress_of reader) error of_capture (so_far.last (Err error) is_last) in
      let is_done = done (λ _. read) now left_now leaves.0 [] (over leaves.0 leaves.2) (λ _. refl) in
      record {
        spelled = ap (events_read (λ _. read) flows most) (sym (append-nil so_far.octets)) ∙ events [] ∙ nothing is_done.none;
        fault = ap (λ (octets : List ℕ). fault_of (end_of_events flows most octets)) (sym (append-nil so_far.octets)) ∙ ap fault_of (end [] ∙ is_done.reason) ∙ leaves.1;
      };
  bad_on = λ error later is_last of_capture told.
      let leaves = fault_leaves (λ _. read) now (progress_of reader) error of_capture (so_far.last (Err error) is_last) in
      let at = over leaves.0 leaves.2 in
      let is_done = done (λ _. read) now left_now leaves.0 later at (λ opened. no_later left_now later told (at.last opened)) in
      record { spelled = events later ∙ nothing is_done.none; fault = ap fault_of (end later ∙ is_done.reason) ∙ leaves.1 };
}
  where
    most : ℕ
    most = (standing_of start).most

    now : Standing
    now = standing_of reader

    left_now : Option (List ℕ)
    left_now = (state (source_of reader)).left

    same_flows : now.flows ≡ flows
    same_flows = so_far.same.0 ∙ ap (λ (there : Standing). there.flows) is.start

    events : (later : List ℕ) → events_read (λ _. read) flows most (so_far.octets ++ later) ≡ handed_out answers ++ events_behind (λ _. read) now later
    events later =
        ap (λ (f : Bool). events_read (λ _. read) f most (so_far.octets ++ later)) (sym same_flows)
        ∙ ap (λ (m : ℕ). events_read (λ _. read) now.flows m (so_far.octets ++ later)) (sym so_far.same.1)
        ∙ so_far.reads.first later

    end : (later : List ℕ) → end_of_events flows most (so_far.octets ++ later) ≡ end_at (with_octets now later)
    end later =
        ap (λ (f : Bool). end_of_events f most (so_far.octets ++ later)) (sym same_flows)
        ∙ ap (λ (m : ℕ). end_of_events now.flows m (so_far.octets ++ later)) (sym so_far.same.1)
        ∙ so_far.reads.end later

    over : (stop : CaptureEnd) → progress_of reader ≡ Over stop → StandsAtEnd now left_now stop
    over stop at = subst (λ (p : Progress). StandsBy now left_now p) at so_far.stands

    nothing : {xs : List E} → xs ≡ [] → handed_out answers ++ xs ≡ handed_out answers
    nothing none = ap (λ (ys : List E). handed_out answers ++ ys) none ∙ append-nil (handed_out answers)

    none_at : (stop : CaptureEnd) → progress_of reader ≡ Over stop → events_behind (λ _. read) now [] ≡ []
    none_at stop at = (done (λ _. read) now left_now stop [] (over stop at) (λ _. refl)).none

    all : (answer : Result (Option E) InputFault) → IsTrue (says_all answer) → Leaves (λ _. read) now (progress_of reader) answer → events_behind (λ _. read) now [] ≡ []
    all (Ok (Some event)) said leaves = cc
    all (Ok None) said leaves = none_at capture.Ended leaves
    all (Err fault.ReadFault) said leaves = leaves
    all (Err fault.NoMemory) said leaves = cc
    all (Err fault.BadMagic) said leaves = none_at leaves.0 leaves.2
    all (Err (fault.BadKind place)) said leaves = none_at leaves.0 leaves.2
    all (Err (fault.Torn place)) said leaves = none_at leaves.0 leaves.2
    all (Err (fault.TooLong place)) said leaves = none_at leaves.0 leaves.2
    all (Err fault.TooMany) said leaves = none_at leaves.0 leaves.2

-- calls of an input are calls of what it stands on
calls_on : {I J T : Type 0} (on : I → J) (Call : J → J → Result (Option T) InputFault → Type 0) (before after : I) (answers : List (Result (Option T) InputFault))
    → Calls (λ one other answer. Call (on one) (on other) answer) before after answers → Calls Call (on before) (on after) answers
calls_on on Call before after [] none = ap on none
calls_on on Call before after (answer ∷ answers) (between, call, calls) = (on between, call, calls_on on Call between after answers calls)

pub flows_hand_out : {S : Type 0} (state : S → SourceState) → FlowsHandOutTaken state (flows_call state)
flows_hand_out state before after answers is calls =
    tells datagram_at state true (flows_reader before) (flows_reader after) answers is
    (more datagram_at state (flows_reader before) (flows_reader before) (flows_reader after) [] answers (fresh datagram_at state true (flows_reader before) is) (calls_on flows_reader (IsInputCall datagram_at state) before after answers calls))

pub routes_hand_out : {S : Type 0} (state : S → SourceState) → RoutesHandOutTaken state (routes_call state)
routes_hand_out state before after answers is calls =
    tells route_event_at state false (routes_reader before) (routes_reader after) answers is
    (more route_event_at state (routes_reader before) (routes_reader before) (routes_reader after) [] answers (fresh route_event_at state false (routes_reader before) is) (calls_on routes_reader (IsInputCall route_event_at state) before after answers calls))
