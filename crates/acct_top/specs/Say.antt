-- The line that a program says of its answer.
use Rattle.std.specs.Prelude.{◌≡◌, ⊤, ℕ, Bool, List, [], ◌∷◌, ◌++◌, Option, codes, decimal, if◌then◌else◌}
use Rattle.std.specs.Io.KnownBytes.{append_known}
use Rattle.outside_io.specs.Causes.{Rose}
use Rattle.outside_io.specs.Octets.{WritesFront}
use Rattle.config_keys.specs.Causes as config
use Rattle.pretag_map.specs.Causes as map
use Rattle.config_keys.specs.declared.tool.Tool.{Tool}
use Rattle.config_keys.specs.declared.tool.Tool.TheVariants.{Nfacctd, Sfacctd, Pmbgpd}
use Rattle.outside_io.specs.declared.ends.Which.{Which}
use Rattle.outside_io.specs.declared.ends.Which.TheVariants.{Records, Messages, Octets}
use Rattle.acct_top.specs.declared.answer.AnyCause.{AnyCause}
use Rattle.acct_top.specs.declared.answer.AnyCause.TheVariants.{Config, Map, TooLong}
use Rattle.acct_top.specs.declared.answer.BadCause.{BadCause}
use Rattle.acct_top.specs.declared.answer.BadCause.TheVariants.{Magic, Kind, Length}
use Rattle.acct_top.specs.declared.answer.Answer.{Answer}
use Rattle.acct_top.specs.declared.answer.Answer.TheVariants.{Done, Usage, ConfigRefused, OpenFault, FlowFault, CaptureTorn, CaptureBad, WriteFault, SayFault, TooMany, NoMemory}

abbrev pub tool_name : Tool → List ℕ
tool_name Nfacctd = codes "nfacctd"
tool_name Sfacctd = codes "sfacctd"
tool_name Pmbgpd = codes "pmbgpd"

unfoldable pub usage_line : Tool → List ℕ
usage_line Nfacctd = codes "usage: nfacctd -f FILE | --generate NUMBER" ++ 10 ∷ []
usage_line Sfacctd = codes "usage: sfacctd -f FILE" ++ 10 ∷ []
usage_line Pmbgpd = codes "usage: pmbgpd -f FILE" ++ 10 ∷ []

abbrev pub cause_text : AnyCause → List ℕ
cause_text (Config cause) = config.cause_text cause
cause_text (Map cause) = map.cause_text cause
cause_text TooLong = codes "too-long"

abbrev pub side_text : Bool → List ℕ
side_text flows = if flows then codes "flow" else codes "route"

abbrev pub bad_text : BadCause → List ℕ
bad_text Magic = codes "magic"
bad_text Kind = codes "kind"
bad_text Length = codes "length"

abbrev pub which_text : Which → List ℕ
which_text Records = codes "records"
which_text Messages = codes "messages"
which_text Octets = codes "octets"

-- what is said behind the program's name
abbrev pub answer_text : Answer → List ℕ
answer_text Done = codes "done"
answer_text Usage = []
answer_text (ConfigRefused file line cause) = file ++ codes ":" ++ decimal line ++ codes ": " ++ cause_text cause
answer_text (OpenFault name) = codes "cannot open " ++ name
answer_text FlowFault = codes "flow input failed"
answer_text (CaptureTorn flows place) = side_text flows ++ codes " capture torn at " ++ decimal place
answer_text (CaptureBad flows place cause) = side_text flows ++ codes " capture bad at " ++ decimal place ++ codes ": " ++ bad_text cause
answer_text (WriteFault name) = codes "cannot write " ++ name
answer_text SayFault = codes "done"
answer_text (TooMany which) = codes "too many " ++ which_text which
answer_text NoMemory = codes "no memory"

-- the line of an answer; where it couldn't be said that all is done, that of Done
abbrev pub answer_line : Tool → Answer → List ℕ
answer_line tool Usage = usage_line tool
answer_line tool answer = tool_name tool ++ codes ": " ++ answer_text answer ++ 10 ∷ []

-- What was said: the line of the answer, or, where the number of faults rose, perhaps a front of it.
pub record Says (line : List ℕ) (faults_before faults_after : ℕ) (before after : Option (List ℕ)) : Type 0 where
  pub front : WritesFront before after line
  pub whole : (Rose faults_before faults_after → ⊥) → after ≡ append_known before line

abbrev pub SaysAnswer : Tool → Answer → ℕ → ℕ → Option (List ℕ) → Option (List ℕ) → Type 0
SaysAnswer tool NoMemory faults_before faults_after before after = ⊤
SaysAnswer tool Done faults_before faults_after before after = after ≡ append_known before (answer_line tool Done)
SaysAnswer tool answer faults_before faults_after before after = Says (answer_line tool answer) faults_before faults_after before after
