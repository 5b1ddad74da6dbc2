-- The answers that are owed.
use Rattle.std.specs.Prelude.{◌≡◌, ◌≢◌, ◌⊎◌, ℕ, List, Some}
use Rattle.outside_io.specs.Causes.{Rose}
use Rattle.outside_io.specs.Names.{Names}
use Rattle.acct_top.specs.declared.answer.AnyCause.{AnyCause}
use Rattle.acct_top.specs.declared.answer.Answer.{Answer}
use Rattle.acct_top.specs.declared.answer.Answer.TheVariants.{Done, Usage, ConfigRefused, OpenFault, FlowFault, NoMemory}
use Rattle.collect_core.specs.declared.job.Job.{Job}
use Rattle.outside_io.specs.declared.ends.SideEnd.{SideEnd}
use Rattle.outside_io.specs.declared.ends.SideEnd.TheVariants.{Ended}
use Rattle.acct_top.specs.Answers.{IsConfigRefused, IsRead, NamesFile, OfJob, side_answer}
use Rattle.acct_top.specs.Conservation.{flow_end}
use Rattle.acct_top.specs.Job.{capture_of}
use Rattle.outside_io.specs.States.{PlaceState}
use Rattle.config_keys.specs.declared.tool.Tool.{Tool}

-- no number of faults rose
pub record NoneRose (before after : PlaceState) (says_before says_after : ℕ) : Type 0 where
  pub opens : (name : List ℕ) → Rose (before.opens name) (after.opens name) → ⊥
  pub reads : (name : List ℕ) → Rose (before.reads name) (after.reads name) → ⊥
  pub writes : (name : List ℕ) → Rose (before.writes name) (after.writes name) → ⊥
  pub says : Rose says_before says_after → ⊥

-- the job's capture has these octets
abbrev pub HasCapture : Names → Job → (List ℕ → Type 0) → Type 0
HasCapture names job P = (octets : List ℕ) × (names (capture_of job) ≡ Some octets) × P octets

-- The answers that are owed to the words and to the octets of the files.
pub record IsOwed (answer : Answer) (tool : Tool) (words : List (List ℕ)) (before after : PlaceState) (says_before says_after : ℕ) : Type 0 where
  -- accepted words and configuration, a whole capture within the limits and no fault give Done, unless memory runs out
  pub complete : NoneRose before after says_before says_after → OfJob tool words before.names (λ job. HasCapture before.names job (λ octets. flow_end job octets ≡ Ended))
      → (answer ≡ Done) ⊎ (answer ≡ NoMemory)
  -- words that name no file are answered by Usage
  pub usage : ((file : List ℕ) → NamesFile tool words file → ⊥) → (answer ≡ Usage) ⊎ (answer ≡ NoMemory)
  -- a configuration or a map that is refused is answered so, unless it or one that is read before couldn't be read
  pub refused : (name : List ℕ) (line : ℕ) (cause : AnyCause) → IsConfigRefused tool words name line cause before.names
      → (answer ≡ ConfigRefused name line cause)
      ⊎ (((unread : List ℕ) × IsRead tool words before.names unread × (answer ≡ OpenFault unread)) ⊎ (answer ≡ NoMemory))
  -- a capture that isn't whole, or passes a limit, is answered so, unless an open or a read failed
  pub stopped : (end : SideEnd) → end ≢ Ended → OfJob tool words before.names (λ job. HasCapture before.names job (λ octets. flow_end job octets ≡ end))
      → (answer ≡ side_answer end) ⊎ ((answer ≡ FlowFault) ⊎ (((name : List ℕ) × (answer ≡ OpenFault name)) ⊎ (answer ≡ NoMemory)))
