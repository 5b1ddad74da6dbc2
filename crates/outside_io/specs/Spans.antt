-- The events that an input hands out between two moments.
use Rattle.std.specs.Prelude.{◌≡◌, ◌⊎◌, List, [], ◌++◌, Option, IsSome}
use Rattle.outside_io.specs.Inputs.{prepend_told, append_told}

-- Of what an input tells at an earlier and at a later moment: these events were handed out between them. An input that tells what it
-- has left had them in front of what it has now, and one that tells what it handed out has them behind what it had handed out.
pub record HandsOut {T : Type 0} (left_then handed_then : Option (List T)) (events : List T) (left_now handed_now : Option (List T)) : Type 0 where
  pub left : prepend_told events left_now ≡ left_then
  pub handed : handed_now ≡ append_told handed_then events

-- at one moment nothing is handed out
abbrev pub NothingInNoTime : Type 0 → Type 0
NothingInNoTime T = (left handed : Option (List T)) → HandsOut left handed [] left handed

-- what is handed out up to a moment, and then what is handed out behind it, is handed out over both
abbrev pub SpansJoin : Type 0 → Type 0
SpansJoin T =
    (left_first handed_first left_between handed_between left_last handed_last : Option (List T)) → (earlier later : List T)
    → HandsOut left_first handed_first earlier left_between handed_between
    → HandsOut left_between handed_between later left_last handed_last
    → HandsOut left_first handed_first (earlier ++ later) left_last handed_last

-- an input that tells what it has left, or what it handed out, handed out only one list
abbrev pub SpansAreUnique : Type 0 → Type 0
SpansAreUnique T =
    (left_then handed_then left_now handed_now : Option (List T)) → (one other : List T)
    → IsSome left_then ⊎ IsSome handed_then
    → HandsOut left_then handed_then one left_now handed_now
    → HandsOut left_then handed_then other left_now handed_now
    → one ≡ other
