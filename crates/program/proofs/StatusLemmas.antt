-- What a status of 0 says.
use Rattle.std.proofs.Common.{◌≡◌, ℕ, List, Option, arith, refl}
use Rattle.acct_top.specs.Answers.{Holds}
use Rattle.acct_top.specs.Say.{SaysAnswer}
use Rattle.outside_io.specs.States.{PlaceState}
use Rattle.acct_top.specs.Status.{status_of}
use Rattle.acct_top.specs.declared.answer.Answer.{Answer}
use Rattle.acct_top.specs.declared.answer.Answer.TheVariants.{Done, Usage, ConfigRefused, OpenFault, FlowFault, CaptureTorn, CaptureBad, WriteFault, SayFault, TooMany, NoMemory}
use Rattle.config_keys.specs.declared.tool.Tool.{Tool}
use Rattle.program.specs.Status.{AllIsDone, ZeroIsDone}

all_is_done : (answer : Answer) (tool : Tool) (words : List (List ℕ)) (before after : PlaceState) (says_before says_after : ℕ) (held_before held_after : Option (List ℕ))
    → 0 ≡ status_of answer → SaysAnswer tool answer says_before says_after held_before held_after → Holds answer tool words before after
    → AllIsDone tool words before after held_before held_after
all_is_done Done tool words before after says_before says_after held_before held_after is said holds = record { run = holds; line = said }
all_is_done Usage tool words before after says_before says_after held_before held_after is said holds = absurd (omega (arith, is))
all_is_done (ConfigRefused file line cause) tool words before after says_before says_after held_before held_after is said holds = absurd (omega (arith, is))
all_is_done (OpenFault name) tool words before after says_before says_after held_before held_after is said holds = absurd (omega (arith, is))
all_is_done FlowFault tool words before after says_before says_after held_before held_after is said holds = absurd (omega (arith, is))
all_is_done (CaptureTorn flows place) tool words before after says_before says_after held_before held_after is said holds = absurd (omega (arith, is))
all_is_done (CaptureBad flows place cause) tool words before after says_before says_after held_before held_after is said holds = absurd (omega (arith, is))
all_is_done (WriteFault name) tool words before after says_before says_after held_before held_after is said holds = absurd (omega (arith, is))
all_is_done SayFault tool words before after says_before says_after held_before held_after is said holds = absurd (omega (arith, is))
all_is_done (TooMany which) tool words before after says_before says_after held_before held_after is said holds = absurd (omega (arith, is))
all_is_done NoMemory tool words before after says_before says_after held_before held_after is said holds = absurd (omega (arith, is))

pub zero_is_done : ZeroIsDone
zero_is_done = λ tool words before after says_before says_after held_before held_after run.
    all_is_done run.answer tool words before after says_before says_after held_before held_after run.is run.said (run.holds refl)
