-- What a reader holds, and what an input over it tells.
use Rattle.std.specs.Prelude.{◌≡◌, ◌≤◌, ℕ, Bool, true, false, max, List, [], length, Option, Some, None, Result, Ok, Err}
use Rattle.std.specs.Option.{option_map}
use Rattle.outside_io.specs.States.{SourceState, InputState}
use Rattle.outside_io.specs.declared.fault.IoFault.{IoFault}
use Rattle.outside_io.specs.declared.fault.IoFault.TheVariants as io
use Rattle.outside_io.specs.declared.input_fault.InputFault.{InputFault}
use Rattle.outside_io.specs.declared.input_fault.InputFault.TheVariants as fault
use Rattle.capture_file.specs.declared.flows.CaptureEnd.{CaptureEnd}
use Rattle.capture_file.specs.declared.flows.CaptureEnd.TheVariants as capture
use Rattle.capture_file.specs.declared.reader.Step.{Step}
use Rattle.capture_file.specs.declared.reader.Step.TheVariants.{Flow, Route, Ended}
use Rattle.capture_file.specs.declared.reader.Progress.{Progress}
use Rattle.capture_file.specs.declared.reader.Progress.TheVariants.{Live, Over, Failed}
use Rattle.capture_file.specs.declared.reader.CaptureReader.{CaptureReader}
use Rattle.capture_file.specs.Capture.{read_behind}
use Rattle.capture_file.specs.Event.{LONGEST, octets_of, stamp_of}
use Rattle.capture_file.specs.Reading.{fault_of, IsCall}
use Rattle.capture_file.specs.Standing.{Standing, at_start, with_octets, events_at, end_at}

-- where it stands
abbrev pub standing_of : {S : Type 0} → CaptureReader S → Standing
standing_of reader = reader.reading

abbrev pub source_of : {S : Type 0} → CaptureReader S → S
source_of reader = reader.source

abbrev pub progress_of : {S : Type 0} → CaptureReader S → Progress
progress_of reader = reader.progress

abbrev pub goes_on : Progress → Bool
goes_on Live = true
goes_on (Over end) = false
goes_on Failed = false

abbrev pub is_live : {S : Type 0} → CaptureReader S → Bool
is_live reader = goes_on reader.progress

-- a reader is live after a step that is an event
abbrev pub is_live_after : Result Step InputFault → Bool
is_live_after (Ok (Flow datagram)) = true
is_live_after (Ok (Route event)) = true
is_live_after (Ok Ended) = false
is_live_after (Err fault) = false

-- its `next` wasn't called
pub record IsFresh {S : Type 0} (flows : Bool) (reader : CaptureReader S) : Type 0 where
  pub start : standing_of reader ≡ at_start flows (standing_of reader).most
  pub live : progress_of reader ≡ Live

-- how a reader goes on after an answer
abbrev pub progress_after : {E : Type 0} → Result (Option E) InputFault → Progress
progress_after (Ok (Some event)) = Live
progress_after (Ok None) = Over capture.Ended
progress_after (Err fault.ReadFault) = Failed
progress_after (Err fault.BadMagic) = Over capture.BadMagic
progress_after (Err (fault.BadKind place)) = Over (capture.BadKind place)
progress_after (Err (fault.Torn place)) = Over (capture.Torn place)
progress_after (Err (fault.TooLong place)) = Over (capture.TooLong place)
progress_after (Err fault.TooMany) = Over capture.TooMany
progress_after (Err fault.NoMemory) = Failed

-- what a capture's end is to an input
abbrev pub end_answer : {E : Type 0} → CaptureEnd → Result (Option E) InputFault
end_answer capture.Ended = Ok None
end_answer capture.BadMagic = Err fault.BadMagic
end_answer (capture.BadKind place) = Err (fault.BadKind place)
end_answer (capture.Torn place) = Err (fault.Torn place)
end_answer (capture.TooLong place) = Err (fault.TooLong place)
end_answer capture.TooMany = Err fault.TooMany

-- One call of an input over a reader that goes on, with what the source told before and after it: the reader was called, and goes on as the answer says.
pub record IsLiveCall {E S : Type 0} (read : ℕ → List ℕ → E) (state : S → SourceState) (before after : CaptureReader S) (result : Result (Option E) InputFault) : Type 0 where
  pub call : IsCall read (standing_of before) (standing_of after) (state (source_of before)).left (state (source_of after)).left result
  pub progress : progress_of after ≡ progress_after result

-- one of an input over a reader of a capture that ended: nothing changed, and that was answered
pub record IsIdleCall {E S : Type 0} (before after : CaptureReader S) (result said : Result (Option E) InputFault) : Type 0 where
  pub unchanged : after ≡ before
  pub answer : result ≡ said

-- One call of an input over a reader, by how it goes on: once the capture ended its end is answered again, and where a read or memory
-- failed it reads on.
abbrev pub IsCallAt : {E S : Type 0} → Progress → (ℕ → List ℕ → E) → (S → SourceState) → CaptureReader S → CaptureReader S → Result (Option E) InputFault → Type 0
IsCallAt Live read state before after result = IsLiveCall read state before after result
IsCallAt (Over end) read state before after result = IsIdleCall before after result (end_answer end)
IsCallAt Failed read state before after result = IsLiveCall read state before after result

-- one call of an input over a reader
abbrev pub IsInputCall : {E S : Type 0} → (ℕ → List ℕ → E) → (S → SourceState) → CaptureReader S → CaptureReader S → Result (Option E) InputFault → Type 0
IsInputCall read state before after result = IsCallAt (progress_of before) read state before after result

abbrev pub io_answer : {E : Type 0} → IoFault → Result (Option E) InputFault
io_answer io.Failed = Err fault.ReadFault
io_answer io.NoMemory = Err fault.NoMemory

-- The events that a reader has yet to hand out, of the octets that its source has left. Once it answered the end or a fault of the
-- capture there are none.
abbrev pub told_at : {E : Type 0} → (ℕ → List ℕ → E) → Standing → Progress → List ℕ → List E
told_at read there Live octets = read_behind read there.moment (events_at (with_octets there octets))
told_at read there (Over end) octets = []
told_at read there Failed octets = read_behind read there.moment (events_at (with_octets there octets))

-- the fault that ends them, None where they simply end
abbrev pub ending_at : Standing → Progress → List ℕ → Option InputFault
ending_at there Live octets = fault_of (end_at (with_octets there octets))
ending_at there (Over end) octets = fault_of end
ending_at there Failed octets = fault_of (end_at (with_octets there octets))

-- the same where the source tells its octets
abbrev pub told_of : {E S : Type 0} → (ℕ → List ℕ → E) → Option (List ℕ) → CaptureReader S → Option (List E)
told_of read left reader = option_map (told_at read (standing_of reader) (progress_of reader)) left

abbrev pub ending_told : Standing → Progress → Option (List ℕ) → Option InputFault
ending_told there progress None = None
ending_told there progress (Some octets) = ending_at there progress octets

abbrev pub ending_of : {S : Type 0} → Option (List ℕ) → CaptureReader S → Option InputFault
ending_of left reader = ending_told (standing_of reader) (progress_of reader) left

-- the capture's end was answered
abbrev pub says_end : Progress → Bool
says_end (Over capture.Ended) = true
says_end progress = false

-- what an input over a reader tells
abbrev pub input_state : {E S : Type 0} → (ℕ → List ℕ → E) → (S → SourceState) → CaptureReader S → InputState E
input_state read state reader = record {
  left = told_of read (state (source_of reader)).left reader;
  ending = ending_of (state (source_of reader)).left reader;
  handed = None;
  ended = says_end (progress_of reader);
  moment = (standing_of reader).moment;
  faults = (state (source_of reader)).faults;
  captured = true;
}

-- an event that was handed out is what some octets are read as, behind the greatest stamp before them
pub record IsReadOf {E : Type 0} (read : ℕ → List ℕ → E) (moment_before moment_now : ℕ) (event : E) : Type 0 where
  pub octets : List ℕ
  pub same : event ≡ read moment_before octets
  pub now : moment_now ≡ max moment_before (stamp_of octets)
  pub short : length (octets_of octets) ≤ LONGEST

-- the same of an answer; one that hands out nothing leaves the moment
abbrev pub IsRead : {E : Type 0} → (ℕ → List ℕ → E) → ℕ → ℕ → Result (Option E) InputFault → Type 0
IsRead read moment_before moment_now (Ok (Some event)) = IsReadOf read moment_before moment_now event
IsRead read moment_before moment_now (Ok None) = moment_now ≡ moment_before
IsRead read moment_before moment_now (Err fault) = moment_now ≡ moment_before
