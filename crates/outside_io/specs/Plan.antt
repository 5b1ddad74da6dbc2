-- Which calls of one kind are to fail.
use Rattle.std.specs.Prelude.{◌≡◌, ℕ, ◌+◌, ◌-◌, ◌^◌, min, List, Contains, Result, MatchResult}
use Rattle.outside_io.specs.declared.call_plan.CallPlan.{CallPlan}
use Rattle.outside_io.specs.declared.fault.IoFault.{IoFault}
use Rattle.outside_io.specs.declared.fault.IoFault.TheVariants.{Failed}
use Rattle.outside_io.specs.declared.input_fault.InputFault.{InputFault}
use Rattle.outside_io.specs.declared.input_fault.InputFault.TheVariants.{ReadFault}

-- no call was made yet, and those with these numbers, from 1, are to fail
abbrev pub plan_of : List ℕ → CallPlan
plan_of failing = record { failing = failing; calls = 0 }

-- one call more was made, where the number of calls isn't at its end
abbrev pub after_call : CallPlan → CallPlan
after_call plan = record plan { calls = min (plan.calls + 1) (2 ^ 64 - 1) }

-- the next call is to fail
abbrev pub FailsNext : CallPlan → Type 0
FailsNext plan = Contains plan.failing (after_call plan).calls

-- `Failed` is answered where there is that cause, and Ok where there is none
abbrev pub FailsWhere : {T : Type 0} → Type 0 → Result T IoFault → Type 0
FailsWhere cause result = MatchResult result (λ _. ¬ cause) (λ fault. fault ≡ Failed → cause)

-- `ReadFault`, and no other error, is answered where there is that cause, and Ok where there is none
abbrev pub ReadFailsWhere : {T : Type 0} → Type 0 → Result T InputFault → Type 0
ReadFailsWhere cause result = MatchResult result (λ _. ¬ cause) (λ fault. (fault ≡ ReadFault) × cause)
