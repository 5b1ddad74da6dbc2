-- The status of a program.
use Rattle.std.specs.Prelude.{◌≡◌, ℕ, Bool, true, IsTrue, List, Option}
use Rattle.std.specs.Io.KnownBytes.{append_known}
use Rattle.acct_top.specs.Answers.{HasReason, Holds, IsDone, OfRun}
use Rattle.acct_top.specs.Complete.{IsOwed}
use Rattle.acct_top.specs.Say.{SaysAnswer, answer_line}
use Rattle.outside_io.specs.States.{PlaceState}
use Rattle.acct_top.specs.Status.{status_of}
use Rattle.acct_top.specs.declared.answer.Answer.{Answer}
use Rattle.acct_top.specs.declared.answer.Answer.TheVariants.{Done}
use Rattle.config_keys.specs.declared.tool.Tool.{Tool}

-- the status of an answer
abbrev pub IsStatus : ℕ → Type 0
IsStatus status = (answer : Answer) × (status ≡ status_of answer)

-- The status of a run: there is an answer that has it, and all that is claimed of a run's answer holds of this one.
pub record IsStatusOf (status : ℕ) (tells : Bool) (tool : Tool) (words : List (List ℕ)) (before after : PlaceState) (says_before says_after : ℕ) (held_before held_after : Option (List ℕ)) : Type 0 where
  pub answer : Answer
  pub is : status ≡ status_of answer
  -- the line of the answer was said
  pub said : SaysAnswer tool answer says_before says_after held_before held_after
  -- a fault is answered only where its number rose
  pub reason : HasReason answer tells tool words before after says_before says_after
  -- over a place that tells its octets: what holds after the answer
  pub holds : IsTrue tells → Holds answer tool words before after
  -- over such a place: the answer is one that is owed to the words and the files
  pub owed : IsTrue tells → IsOwed answer tool words before after says_before says_after

-- all is done: the words have a job of which the conservation theorem holds, and the line of Done was said
pub record AllIsDone (tool : Tool) (words : List (List ℕ)) (before after : PlaceState) (held_before held_after : Option (List ℕ)) : Type 0 where
  pub run : OfRun tool words before (λ job begun. IsDone job begun after)
  pub line : held_after ≡ append_known held_before (answer_line tool Done)

-- over a place that tells its octets a status of 0 says that all is done
abbrev pub ZeroIsDone : Type 0
ZeroIsDone = (tool : Tool) (words : List (List ℕ)) (before after : PlaceState) (says_before says_after : ℕ) (held_before held_after : Option (List ℕ))
    → IsStatusOf 0 true tool words before after says_before says_after held_before held_after → AllIsDone tool words before after held_before held_after
