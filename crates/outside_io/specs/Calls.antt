-- Calls of an input, one after another.
use Rattle.std.specs.Prelude.{◌≡◌, List, [], ◌∷◌, ◌++◌, flat_map, Option, Result}
use Rattle.outside_io.specs.Inputs.{given}
use Rattle.outside_io.specs.declared.input_fault.InputFault.{InputFault}

-- The calls that gave these answers, from an input as it stood before them to the input as it stands after them. `Call` holds of each
-- call: of the input before it and after it, and of its answer.
abbrev pub Calls : {I T : Type 0} → (I → I → Result (Option T) InputFault → Type 0) → I → I → List (Result (Option T) InputFault) → Type 0
Calls Call before after [] = after ≡ before
Calls {I = I} Call before after (answer ∷ answers) = (between : I) × Call before between answer × Calls Call between after answers

-- the events that these answers hand out, one after another
abbrev pub handed_out : {T : Type 0} → List (Result (Option T) InputFault) → List T
handed_out answers = flat_map given answers

-- the last of these answers is that one
abbrev pub EndWith : {T : Type 0} → List (Result (Option T) InputFault) → Result (Option T) InputFault → Type 0
EndWith {T = T} answers answer = (earlier : List (Result (Option T) InputFault)) × (answers ≡ earlier ++ answer ∷ [])

-- calls and then more calls are the calls of both, and hand out what the first did and then what the others did
pub record CallsJoin {I T : Type 0} (Call : I → I → Result (Option T) InputFault → Type 0) : Type 0 where
  pub calls : (before between after : I) (first next : List (Result (Option T) InputFault)) → Calls Call before between first → Calls Call between after next → Calls Call before after (first ++ next)
  pub events : (first next : List (Result (Option T) InputFault)) → handed_out (first ++ next) ≡ handed_out first ++ handed_out next

-- the same of one call more
pub record OneCallMore {I T : Type 0} (Call : I → I → Result (Option T) InputFault → Type 0) : Type 0 where
  pub calls : (before between after : I) (answers : List (Result (Option T) InputFault)) (answer : Result (Option T) InputFault) → Calls Call before between answers → Call between after answer → Calls Call before after (answers ++ answer ∷ [])
  pub events : (answers : List (Result (Option T) InputFault)) (answer : Result (Option T) InputFault) → handed_out (answers ++ answer ∷ []) ≡ handed_out answers ++ given answer
