-- Where a reader of a capture stands, and what the capture is from there on.
use Rattle.std.specs.Prelude.{◌≡◌, ◌⊎◌, IsTrue, ℕ, ◌+◌, Bool, true, false, List, [], ◌++◌, length, take, drop, max, nat_lt, if◌then◌else◌, Result, Ok, Err}
use Rattle.capture_file.specs.declared.flows.CaptureEnd.{CaptureEnd}
use Rattle.capture_file.specs.declared.flows.CaptureEnd.TheVariants.{Ended, BadMagic, BadKind, Torn, TooLong, TooMany}
use Rattle.capture_file.specs.Capture.{has_magic, events_from, end_from}
use Rattle.capture_file.specs.Event.{judged, stamp_of}

pub record Standing : Type 0 where
  -- whether the capture is one of flows, and the most octets that its events may have
  pub flows : Bool
  pub most : ℕ
  -- the magic was read
  pub begun : Bool
  -- how many octets the events that were read have, and the greatest of their stamps
  pub used : ℕ
  pub moment : ℕ
  -- the octets that were taken and not read yet
  pub ahead : List ℕ

-- nothing was taken
abbrev pub at_start : Bool → ℕ → Standing
at_start flows most = record { flows = flows; most = most; begun = false; used = 0; moment = 0; ahead = [] }

-- behind the magic, where the octets ahead have it
abbrev pub past_magic : Standing → Standing
past_magic there = if there.begun then there else (if has_magic there.ahead then record there { begun = true; ahead = drop 8 there.ahead } else there)

-- these octets were taken besides, and the magic was read once its octets were there
abbrev pub with_octets : Standing → List ℕ → Standing
with_octets there octets = past_magic (record there { ahead = there.ahead ++ octets })

-- how many octets the event at the front has, or why none stands there
abbrev pub judged_at : Standing → Result ℕ CaptureEnd
judged_at there = if there.begun then judged there.flows there.most there.used there.ahead else Err BadMagic

-- whether octets that follow may turn this judgement of an event
abbrev pub may_turn : Result ℕ CaptureEnd → Bool
may_turn (Ok width) = false
may_turn (Err Ended) = true
may_turn (Err (Torn place)) = true
may_turn (Err BadMagic) = false
may_turn (Err (BadKind place)) = false
may_turn (Err (TooLong place)) = false
may_turn (Err TooMany) = false

-- Whether octets that follow decide what stands there. The magic is judged once its eight octets are there.
abbrev pub is_open : Standing → Bool
is_open there = if there.begun then may_turn (judged there.flows there.most there.used there.ahead) else nat_lt (length there.ahead) 8

-- behind the event of this width
abbrev pub past_event : Standing → ℕ → Standing
past_event there width = record there { used = there.used + width; moment = max there.moment (stamp_of (take width there.ahead)); ahead = drop width there.ahead }

-- the events that stand there, and why they end
abbrev pub events_at : Standing → List (List ℕ)
events_at there = if there.begun then events_from there.flows (length there.ahead) there.most there.used there.ahead else []

abbrev pub end_at : Standing → CaptureEnd
end_at there = if there.begun then end_from there.flows (length there.ahead) there.most there.used there.ahead else BadMagic

-- The last octets were taken where those before them decided nothing.
abbrev pub ReadsWhileOpen : Standing → List ℕ → Type 0
ReadsWhileOpen before octets = (octets ≡ []) ⊎ ((earlier : List ℕ) × (last : List ℕ) × (octets ≡ earlier ++ last) × IsTrue (is_open (with_octets before earlier)))
