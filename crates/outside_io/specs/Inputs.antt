-- What a call of an input hands out, and when it says that nothing more comes.
use Rattle.std.specs.Prelude.{◌≡◌, ◌≤◌, ℕ, Bool, true, false, ⊤, List, [], ◌∷◌, ◌++◌, Option, Some, None, IsTrue, Result, Ok, Err, IfErr, IsErrOf}
use Rattle.std.specs.Option.{option_map}
use Rattle.outside_io.specs.Causes.{Rose}
use Rattle.outside_io.specs.declared.input_fault.InputFault.{InputFault}
use Rattle.outside_io.specs.declared.input_fault.InputFault.TheVariants.{ReadFault, NoMemory}

-- these events, and then those that are told
abbrev pub prepend_told : {T : Type 0} → List T → Option (List T) → Option (List T)
prepend_told first told = option_map (λ events. first ++ events) told

-- the events that are told, and then these
abbrev pub append_told : {T : Type 0} → Option (List T) → List T → Option (List T)
append_told told next = option_map (λ events. events ++ next) told

-- the events that a call handed out: one, or none at the end and after an error
abbrev pub given : {T : Type 0} → Result (Option T) InputFault → List T
given (Ok (Some event)) = event ∷ []
given (Ok None) = []
given (Err fault) = []

-- P of the event that a call handed out, and Q where it handed out none
abbrev pub MatchGiven : {T : Type 0} → Result (Option T) InputFault → (T → Type 0) → Type 0 → Type 0
MatchGiven (Ok (Some event)) P Q = P event
MatchGiven (Ok None) P Q = Q
MatchGiven (Err fault) P Q = Q

-- P of the event, if a call handed out one
abbrev pub IfGiven : {T : Type 0} → Result (Option T) InputFault → (T → Type 0) → Type 0
IfGiven result P = MatchGiven result P ⊤

-- Nothing is left, and the input ends with that fault, or simply ends.
abbrev pub IsAtEndWith : {T : Type 0} → Option (List T) → Option InputFault → Option InputFault → Type 0
IsAtEndWith None ending said = ⊤
IsAtEndWith (Some events) ending said = (events ≡ []) × (ending ≡ said)

-- Where the events left are told, a call says that the input ends only where nothing is left, and then how it ends. A failed read
-- and want of memory don't say that.
abbrev pub EndsAs : {T : Type 0} → Option (List T) → Option InputFault → Result (Option T) InputFault → Type 0
EndsAs left ending (Ok (Some event)) = ⊤
EndsAs left ending (Ok None) = IsAtEndWith left ending None
EndsAs left ending (Err ReadFault) = ⊤
EndsAs left ending (Err NoMemory) = ⊤
EndsAs left ending (Err fault) = IsAtEndWith left ending (Some fault)

-- It has ended once a call answers None. Every other answer leaves that as it was.
abbrev pub EndsHere : {T : Type 0} → Bool → Bool → Result (Option T) InputFault → Type 0
EndsHere before now (Ok (Some event)) = now ≡ before
EndsHere before now (Ok None) = now ≡ true
EndsHere before now (Err fault) = now ≡ before

-- The moment is that of the event handed out, which isn't before the one that it was. It stays where none is handed out.
abbrev pub MovesOn : {T : Type 0} → (T → ℕ) → ℕ → ℕ → Result (Option T) InputFault → Type 0
MovesOn moment_of before now result = MatchGiven result (λ event. (before ≤ moment_of event) × (now ≡ moment_of event)) (now ≡ before)

-- whether a fault says that a capture isn't well formed, or has too many octets
abbrev pub is_of_capture : InputFault → Bool
is_of_capture ReadFault = false
is_of_capture NoMemory = false
is_of_capture fault = true

-- a fault of a capture is answered only by what reads one
abbrev pub OnlyOfCapture : {T : Type 0} → Bool → Result T InputFault → Type 0
OnlyOfCapture captured result = IfErr result (λ fault. IsTrue (is_of_capture fault) → IsTrue captured)

-- the number never falls, and `ReadFault` is answered only where it rose
pub record HasInputCause {T : Type 0} (before now : ℕ) (result : Result T InputFault) : Type 0 where
  pub later : before ≤ now
  pub failed : IsErrOf result ReadFault → Rose before now
