-- An answer after its line was said.
use Rattle.std.specs.Prelude.{◌≡◌, ◌⊎◌, ℕ}
use Rattle.outside_io.specs.Causes.{Rose}
use Rattle.acct_top.specs.declared.answer.Answer.{Answer}
use Rattle.acct_top.specs.declared.answer.Answer.TheVariants.{Done, SayFault, NoMemory}

-- the same, or want of memory, or, in place of Done, that the line couldn't be said
abbrev pub IsSaidAs : Answer → Answer → ℕ → ℕ → Type 0
IsSaidAs answer said faults_before faults_after =
    (said ≡ answer) ⊎ ((said ≡ NoMemory) ⊎ ((answer ≡ Done) × (said ≡ SayFault) × Rose faults_before faults_after))
