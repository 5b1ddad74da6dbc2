-- The rules of a map, a line each.
use Rattle.std.specs.Prelude.{◌≡◌, ℕ, ◌+◌, List, [], ◌∷◌, ◌++◌, length, nat_lt, Result, Ok, Err, if◌then◌else◌}
use Rattle.config_keys.specs.Lines.{Text, is_passed_over, lines_of}
use Rattle.pretag_map.specs.declared.fault.MapCause.{MapCause}
use Rattle.pretag_map.specs.declared.fault.MapCause.TheVariants.{TooManyRules}
use Rattle.pretag_map.specs.declared.fault.MapFault.{MapFault}
use Rattle.pretag_map.specs.declared.fault.MapFault.TheVariants.{At, NoMemory}

-- a rule behind so many others: a map has at most 4,096
abbrev pub with_room : {R : Type 0} → ℕ → Result R MapCause → Result R MapCause
with_room count (Err cause) = Err cause
with_room count (Ok rule) = if nat_lt count 4096 then Ok rule else Err TooManyRules

abbrev pub and_more : {R : Type 0} → ℕ → Result R MapCause → (R → Result (List R) MapFault) → Result (List R) MapFault
and_more number (Err cause) more = Err (At number cause)
and_more number (Ok rule) more = more rule

-- The rules of lines that stand behind others and are counted from a number on; or the first of these lines with a
-- cause. Of the lines before them the rules are given. Empty lines and comments say nothing.
abbrev pub rules_from : {R : Type 0} → (Text → Result R MapCause) → ℕ → List R → List Text → Result (List R) MapFault
rules_from said number before [] = Ok before
rules_from said number before (line ∷ lines) =
    if is_passed_over line then rules_from said (number + 1) before lines
    else and_more number (with_room (length before) (said line)) (λ rule. rules_from said (number + 1) (before ++ rule ∷ []) lines)

-- the rules of a text in order, or the least line with a cause
abbrev pub rules_of : {R : Type 0} → (Text → Result R MapCause) → Text → Result (List R) MapFault
rules_of said text = rules_from said 1 [] (lines_of text)

-- the fault that is said, unless memory ran out
abbrev pub FaultIs : {S : Type 0} → MapFault → Result S MapFault → Type 0
FaultIs (At line cause) said = said ≡ Err (At line cause)
FaultIs NoMemory said = Unit {0}

-- the rules that are said, or the fault
abbrev pub RulesAre : {R : Type 0} → Result (List R) MapFault → Result (List R) MapFault → Type 0
RulesAre (Ok rules) said = said ≡ Ok rules
RulesAre (Err fault) said = FaultIs fault said
