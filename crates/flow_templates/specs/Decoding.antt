-- What a datagram says, and what its decoder answers.
use Rattle.std.specs.Prelude.{◌≡◌, List, [], Result, Ok, Err, IsOk}
use Rattle.flow_templates.specs.declared.decoded.Notice.{Notice}
use Rattle.flow_templates.specs.declared.decoded.RawDecoded.{RawDecoded}
use Rattle.flow_templates.specs.declared.decoded.RawRecord.{RawRecord}
use Rattle.flow_templates.specs.declared.refusal.Cause.{Cause}
use Rattle.flow_templates.specs.declared.refusal.Undecodable.{Undecodable}
use Rattle.flow_templates.specs.declared.refusal.Undecodable.TheVariants.{Refused, NoMemory}
use Rattle.flow_templates.specs.Changes.{StagedChanges, nothing_staged}

-- what a datagram says: its records, the notices, and what it teaches, each in reading order
pub record Said : Type 0 where
  pub rows : List RawRecord
  pub notices : List Notice
  pub changes : StagedChanges

-- what a datagram says that has records alone
abbrev pub rows_alone : Result (List RawRecord) Cause → Result Said Cause
rows_alone (Ok rows) = Ok (record { rows = rows; notices = []; changes = nothing_staged })
rows_alone (Err cause) = Err cause

-- the definition refuses a part for this cause, or memory is wanted for one that it doesn't refuse
abbrev pub FailsAs : Undecodable → Result Said Cause → Type 0
FailsAs NoMemory wanted = IsOk wanted
FailsAs (Refused cause) wanted = wanted ≡ Err cause

-- the definition refuses the datagram for this cause, unless memory is wanted
abbrev pub RefusedAs : Undecodable → Result Said Cause → Type 0
RefusedAs NoMemory wanted = Unit {0}
RefusedAs (Refused cause) wanted = wanted ≡ Err cause

-- The decoder answers what the definition says, with these changes staged: the records and the notices, or a refusal for its cause.
abbrev pub Gives : Result RawDecoded Undecodable → StagedChanges → Result Said Cause → Type 0
Gives (Ok decoded) changes wanted = wanted ≡ Ok (record { rows = decoded.rows; notices = decoded.notices; changes = changes })
Gives (Err undecodable) changes wanted = RefusedAs undecodable wanted
