-- What the calls of a reader take and answer.
use Rattle.std.specs.Prelude.{◌≡◌, ℕ, Bool, true, false, List, ◌++◌, take, if◌then◌else◌, IsTrue, Option, Some, None, IsSome, Result, Ok, Err}
use Rattle.std.specs.Io.KnownBytes.{IsAtEnd}
use Rattle.outside_io.specs.Octets.{Takes}
use Rattle.outside_io.specs.Inputs.{given}
use Rattle.outside_io.specs.declared.input_fault.InputFault.{InputFault}
use Rattle.outside_io.specs.declared.input_fault.InputFault.TheVariants as fault
use Rattle.capture_file.specs.declared.flows.CaptureEnd.{CaptureEnd}
use Rattle.capture_file.specs.declared.flows.CaptureEnd.TheVariants as capture
use Rattle.capture_file.specs.declared.reader.Step.{Step}
use Rattle.capture_file.specs.declared.reader.Step.TheVariants.{Flow, Route, Ended}
use Rattle.capture_file.specs.Capture.{events_of, end_of_events, read_behind}
use Rattle.capture_file.specs.Event.{datagram_at, route_event_at}
use Rattle.capture_file.specs.Standing.{Standing, with_octets, judged_at, is_open, ReadsWhileOpen, past_event, events_at, end_at}

-- the fault that a capture's end is, None where it simply ends
abbrev pub fault_of : CaptureEnd → Option InputFault
fault_of capture.Ended = None
fault_of capture.BadMagic = Some fault.BadMagic
fault_of (capture.BadKind place) = Some (fault.BadKind place)
fault_of (capture.Torn place) = Some (fault.Torn place)
fault_of (capture.TooLong place) = Some (fault.TooLong place)
fault_of capture.TooMany = Some fault.TooMany

-- the step that a whole event is, in a capture of flows or of routes
abbrev pub step_at : Bool → ℕ → List ℕ → Step
step_at flows moment event = if flows then Flow (datagram_at moment event) else Route (route_event_at moment event)

-- a step as the event that it has, none at the end
abbrev pub event_of : Result Step InputFault → Result (Option Step) InputFault
event_of (Ok (Flow datagram)) = Ok (Some (Flow datagram))
event_of (Ok (Route event)) = Ok (Some (Route event))
event_of (Ok Ended) = Ok None
event_of (Err fault) = Err fault

-- `event` is the one that stands there whole, and now the reader stands behind it
pub record IsEventAt {E : Type 0} (read : ℕ → List ℕ → E) (there now : Standing) (event : E) : Type 0 where
  pub width : ℕ
  pub whole : judged_at there ≡ Ok width
  pub same : event ≡ read there.moment (take width there.ahead)
  pub behind : now ≡ past_event there width

-- The capture ends there for this reason, and all octets that were taken are ahead still. What more octets could turn is said only
-- where the source has none left.
pub record IsEndAt (there now : Standing) (left : Option (List ℕ)) (end : CaptureEnd) : Type 0 where
  pub reason : judged_at there ≡ Err end
  pub stays : now ≡ there
  pub last : IsTrue (is_open there) → IsAtEnd left

-- what a call answers where the reader stands there, with all that the call took, and how it leaves it
abbrev pub Answers : {E : Type 0} → (ℕ → List ℕ → E) → Standing → Standing → Option (List ℕ) → Result (Option E) InputFault → Type 0
Answers read there now left (Ok (Some event)) = IsEventAt read there now event
Answers read there now left (Ok None) = IsEndAt there now left capture.Ended
Answers read there now left (Err fault.ReadFault) = IsTrue (is_open there) × (now ≡ there)
Answers read there now left (Err fault.NoMemory) = now ≡ there
Answers read there now left (Err fault) = (end : CaptureEnd) × (fault_of end ≡ Some fault) × IsEndAt there now left end

-- One call, of which the source tells what it had and has left: it took some octets, and answered what they and those ahead show.
pub record IsCall {E : Type 0} (read : ℕ → List ℕ → E) (before now : Standing) (left_before left_now : Option (List ℕ)) (result : Result (Option E) InputFault) : Type 0 where
  pub octets : List ℕ
  pub taken : Takes left_before octets left_now
  pub while_open : ReadsWhileOpen before octets
  pub answer : Answers read (with_octets before octets) now left_now result

-- the events of a capture's octets, each as it is read
abbrev pub events_read : {E : Type 0} → (Bool → ℕ → List ℕ → E) → Bool → ℕ → List ℕ → List E
events_read read flows most octets = read_behind (read flows) 0 (events_of flows most octets)

-- the events that a reader has yet to hand out, where these octets follow
abbrev pub events_behind : {E : Type 0} → (Bool → ℕ → List ℕ → E) → Standing → List ℕ → List E
events_behind read now later = read_behind (read now.flows) now.moment (events_at (with_octets now later))

-- Of all calls so far: these octets were taken, and these events handed out. However the octets go on, the events are the first ones of
-- theirs, and the others are those that the reader has yet to hand out.
pub record Reads {E : Type 0} (read : Bool → ℕ → List ℕ → E) (now : Standing) (octets : List ℕ) (events : List E) : Type 0 where
  pub first : (later : List ℕ) → events_read read now.flows now.most (octets ++ later) ≡ events ++ events_behind read now later
  pub end : (later : List ℕ) → end_of_events now.flows now.most (octets ++ later) ≡ end_at (with_octets now later)

-- whether an answer says that no whole event is left of the octets taken
abbrev pub says_all : {E : Type 0} → Result (Option E) InputFault → Bool
says_all (Ok (Some event)) = false
says_all (Err fault.NoMemory) = false
says_all answer = true

-- One call more: it took some octets and answered, and where it says so the events are all of those of the octets taken.
pub record ReadsOn {E : Type 0} (read : Bool → ℕ → List ℕ → E) (now : Standing) (left_before left_now : Option (List ℕ)) (octets : List ℕ) (events : List E) (result : Result (Option E) InputFault) : Type 0 where
  pub more : List ℕ
  pub taken : Takes left_before more left_now
  pub reads : Reads read now (octets ++ more) (events ++ given result)
  pub all : IsTrue (says_all result) → events_read read now.flows now.most (octets ++ more) ≡ events ++ given result

-- where the source tells its octets, a call took these and no others
abbrev pub TakenIsUnique : Type 0
TakenIsUnique =
    (left_before left_now : Option (List ℕ)) (one other : List ℕ) → IsSome left_before → Takes left_before one left_now → Takes left_before other left_now → one ≡ other
