-- What the calls of an input over a capture say of the octets that they took of its source.
use Rattle.std.specs.Prelude.{◌≡◌, ℕ, true, false, List, [], ◌++◌, IsTrue, Option, Some, None, Result, Ok, Err}
use Rattle.std.specs.Io.KnownBytes.{IsAtEnd}
use Rattle.acct_types.specs.declared.datagram.Datagram.{Datagram}
use Rattle.outside_io.specs.Calls.{Calls, EndWith, handed_out}
use Rattle.outside_io.specs.Inputs.{is_of_capture}
use Rattle.outside_io.specs.Octets.{Takes}
use Rattle.outside_io.specs.States.{SourceState}
use Rattle.outside_io.specs.declared.input_fault.InputFault.{InputFault}
use Rattle.acct_types.specs.declared.route_event.RouteEvent.{RouteEvent}
use Rattle.capture_file.specs.declared.flows.CaptureEnd.{CaptureEnd}
use Rattle.capture_file.specs.declared.flows.CaptureEnd.TheVariants.{Ended}
use Rattle.capture_file.specs.declared.inputs.CaptureFlows.{CaptureFlows}
use Rattle.capture_file.specs.declared.inputs.CaptureRoutes.{CaptureRoutes}
use Rattle.capture_file.specs.Capture.{datagrams_of, end_of, route_events_of, route_end_of}
use Rattle.capture_file.specs.Inputs.{flows_reader, routes_reader}
use Rattle.capture_file.specs.Reader.{source_of, standing_of, IsFresh}
use Rattle.capture_file.specs.Reading.{fault_of, says_all}

-- a whole capture was taken, and the source has nothing left
pub record IsWholeCapture (end_in : List ℕ → CaptureEnd) (taken : List ℕ) (left : Option (List ℕ)) : Type 0 where
  pub end : end_in taken ≡ Ended
  pub last : IsAtEnd left

-- these octets are a capture of these events that ends with that fault
pub record EndsWithFault {E : Type 0} (events_in : List ℕ → List E) (end_in : List ℕ → CaptureEnd) (octets : List ℕ) (events : List E) (error : InputFault) : Type 0 where
  pub spelled : events_in octets ≡ events
  pub fault : fault_of (end_in octets) ≡ Some error

-- Of a capture's events and its end as its octets spell them, and of what a source told that it had left before some calls and after
-- them: the calls took these octets, and handed out the first of their events.
pub record HandsOutTaken {E : Type 0} (events_in : List ℕ → List E) (end_in : List ℕ → CaptureEnd) (left_before left_after : Option (List ℕ)) (answers : List (Result (Option E) InputFault)) : Type 0 where
  pub octets : List ℕ
  pub taken : Takes left_before octets left_after
  -- the events that are yet to be handed out
  pub ahead : List E
  pub first : events_in octets ≡ handed_out answers ++ ahead
  -- whatever octets follow, those that were handed out are the first events
  pub first_on : (later : List ℕ) → (more : List E) × (events_in (octets ++ later) ≡ handed_out answers ++ more)
  -- none are where the last answer is the end, or a fault other than want of memory
  pub all : (answer : Result (Option E) InputFault) → EndWith answers answer → IsTrue (says_all answer) → ahead ≡ []
  pub whole : EndWith answers (Ok None) → IsWholeCapture end_in octets left_after
  -- a fault of the capture is that of the octets taken, and stays so with all that follow
  pub bad : (error : InputFault) → EndWith answers (Err error) → IsTrue (is_of_capture error) → EndsWithFault events_in end_in octets (handed_out answers) error
  pub bad_on : (error : InputFault) (later : List ℕ) → EndWith answers (Err error) → IsTrue (is_of_capture error) → left_after ≡ Some later → EndsWithFault events_in end_in (octets ++ later) (handed_out answers) error

-- any calls of an input over a reader of flows whose `next` wasn't called, and what `state` tells of its source
abbrev pub FlowsHandOutTaken : {S : Type 0} → (S → SourceState) → (CaptureFlows S → CaptureFlows S → Result (Option Datagram) InputFault → Type 0) → Type 0
FlowsHandOutTaken {S = S} state Call =
    (before after : CaptureFlows S) (answers : List (Result (Option Datagram) InputFault)) → IsFresh true (flows_reader before) → Calls Call before after answers
    → let most = (standing_of (flows_reader before)).most in
    HandsOutTaken (datagrams_of most) (end_of most) (state (source_of (flows_reader before))).left (state (source_of (flows_reader after))).left answers

-- the same of an input over a reader of routes
abbrev pub RoutesHandOutTaken : {S : Type 0} → (S → SourceState) → (CaptureRoutes S → CaptureRoutes S → Result (Option RouteEvent) InputFault → Type 0) → Type 0
RoutesHandOutTaken {S = S} state Call =
    (before after : CaptureRoutes S) (answers : List (Result (Option RouteEvent) InputFault)) → IsFresh false (routes_reader before) → Calls Call before after answers
    → let most = (standing_of (routes_reader before)).most in
    HandsOutTaken (route_events_of most) (route_end_of most) (state (source_of (routes_reader before))).left (state (source_of (routes_reader after))).left answers
