-- The exit status of each answer.
use Rattle.std.specs.Prelude.{ℕ}
use Rattle.acct_top.specs.declared.answer.Answer.{Answer}
use Rattle.acct_top.specs.declared.answer.Answer.TheVariants.{Done, Usage, ConfigRefused, OpenFault, FlowFault, CaptureTorn, CaptureBad, WriteFault, SayFault, TooMany, NoMemory}

abbrev pub status_of : Answer → ℕ
status_of Done = 0
status_of Usage = 1
status_of (ConfigRefused file line cause) = 2
status_of (OpenFault name) = 3
status_of FlowFault = 4
status_of (CaptureTorn flows place) = 5
status_of (CaptureBad flows place cause) = 5
status_of (WriteFault name) = 6
status_of SayFault = 6
status_of (TooMany which) = 7
status_of NoMemory = 8
