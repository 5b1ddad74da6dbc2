-- What holds after each answer, and why it comes.
use Rattle.std.specs.Prelude.{◌≡◌, ◌≤◌, ◌⊎◌, ⊤, ℕ, Bool, true, IsTrue, IsSome, List, [], ◌++◌, All, length, Ok}
use Rattle.outside_io.specs.Causes.{Rose}
use Rattle.outside_io.specs.Names.{Names}
use Rattle.outside_io.specs.declared.ends.SideEnd.{SideEnd}
use Rattle.outside_io.specs.declared.ends.SideEnd.TheVariants as side
use Rattle.outside_io.specs.declared.ends.Which.TheVariants.{Octets}
use Rattle.outside_io.specs.declared.input_fault.InputFault.TheVariants as fault
use Rattle.acct_top.specs.declared.answer.AnyCause.{AnyCause}
use Rattle.acct_top.specs.declared.answer.BadCause.TheVariants.{Magic, Kind, Length}
use Rattle.acct_top.specs.declared.answer.Answer.{Answer}
use Rattle.acct_top.specs.declared.answer.Answer.TheVariants.{Done, Usage, ConfigRefused, OpenFault, FlowFault, CaptureTorn, CaptureBad, WriteFault, SayFault, TooMany, NoMemory}
use Rattle.acct_top.specs.Conservation.{AreBegun, HoldsOutput, IsAccounted, IsAccountedButFor, IsCourse, IsNoOutput, IsTaken, flow_end, flows_of, next_output}
use Rattle.acct_top.specs.Job.{capture_of}
use Rattle.acct_top.specs.Reading.{GivesNoJob, IsJob, IsReadFor, TakesEach, read_before}
use Rattle.outside_io.specs.States.{OnlyRead, PlaceState}
use Rattle.collect_core.specs.declared.job.Job.{Job}
use Rattle.collect_core.specs.Course.{Course}
use Rattle.collect_core.specs.Due.{records_of}
use Rattle.collect_core.specs.Most.{FULL}
use Rattle.config_keys.specs.ConfigViews.{says}
use Rattle.config_keys.specs.Usage.{IsAnswer}
use Rattle.config_keys.specs.declared.plugin.PluginConfig.{PluginConfig}
use Rattle.config_keys.specs.declared.tool.Tool.{Tool}
use Rattle.config_keys.specs.declared.words.Words.TheVariants as asked

-- the words name this file
abbrev pub NamesFile : Tool → List (List ℕ) → List ℕ → Type 0
NamesFile tool words file = IsAnswer tool words (Ok (asked.Config file))

-- the words name a file, and this is its job
pub record Accepts (tool : Tool) (words : List (List ℕ)) (names : Names) (job : Job) : Type 0 where
  pub file : List ℕ
  pub named : NamesFile tool words file
  pub is_job : IsJob job tool file names

-- P holds of the job of the words
abbrev pub OfJob : Tool → List (List ℕ) → Names → (Job → Type 0) → Type 0
OfJob tool words names P = (job : Job) × Accepts tool words names job × P job

-- The run of a file's job begins: the configuration and its maps were read, each once and to its end, and nothing was written.
pub record Begins (file : List ℕ) (job : Job) (before begun : PlaceState) : Type 0 where
  pub names : begun.names ≡ before.names
  pub only_read : OnlyRead before begun
  pub taken : TakesEach before.names (read_before file job) before.taken begun.taken

-- P holds of the job of the words, and of the state in which its run begins
abbrev pub OfRun : Tool → List (List ℕ) → PlaceState → (Job → PlaceState → Type 0) → Type 0
OfRun tool words before P = (job : Job) × (accepts : Accepts tool words before.names job) × (begun : PlaceState) × Begins accepts.file job before begun × P job begun

-- the jobs ask for the same
pub record IsSameJob (some other : Job) : Type 0 where
  pub config : says some.config ≡ says other.config
  pub tags : some.tags ≡ other.tags
  pub agents : some.agents ≡ other.agents
  pub samplings : some.samplings ≡ other.samplings

-- words and files have one job: whoever reads them finds the same
abbrev pub HaveOneJob : Type 0
HaveOneJob = (tool : Tool) (words : List (List ℕ)) (names : Names) (some other : Job) → Accepts tool words names some → Accepts tool words names other
    → IsSameJob some other

-- ---- what holds of a job

-- how a run answers whose flow side ended so
abbrev pub side_answer : SideEnd → Answer
side_answer side.Ended = Done
side_answer (side.Fault fault.ReadFault) = FlowFault
side_answer (side.Fault fault.BadMagic) = CaptureBad true 0 Magic
side_answer (side.Fault (fault.BadKind place)) = CaptureBad true place Kind
side_answer (side.Fault (fault.Torn place)) = CaptureTorn true place
side_answer (side.Fault (fault.TooLong place)) = CaptureBad true place Length
side_answer (side.Fault fault.TooMany) = TooMany Octets
side_answer (side.Fault fault.NoMemory) = NoMemory
side_answer (side.TooMany which) = TooMany which

-- all of the capture was taken, and it ends, and all outputs are whole
pub record IsDone (job : Job) (before after : PlaceState) : Type 0 where
  pub octets : List ℕ
  pub taken : IsTaken job before after octets []
  pub ended : flow_end job octets ≡ side.Ended
  pub course : Course
  pub is_course : IsCourse job (flows_of job octets) course
  pub accounted : IsAccounted job course (flows_of job octets) before.names after.names

-- a read failed behind these octets, and they are accounted for
pub record IsCutShort (job : Job) (before after : PlaceState) : Type 0 where
  pub octets : List ℕ
  pub rest : List ℕ
  pub taken : IsTaken job before after octets rest
  pub failed : Rose (before.reads (capture_of job)) (after.reads (capture_of job))
  pub few : length (records_of job (flows_of job octets)) ≤ FULL.records
  pub course : Course
  pub is_course : IsCourse job (flows_of job octets) course
  pub accounted : IsAccountedButFor job course (flows_of job octets) before after

-- The octets that were taken of the capture say that the run ends so, whatever follows them there, and the datagrams before that are
-- accounted for.
pub record IsStopped (job : Job) (answer : Answer) (before after : PlaceState) : Type 0 where
  pub octets : List ℕ
  pub rest : List ℕ
  pub taken : IsTaken job before after octets rest
  pub says : side_answer (flow_end job octets) ≡ answer
  pub whole_says : side_answer (flow_end job (octets ++ rest)) ≡ answer
  pub course : Course
  pub is_course : IsCourse job (flows_of job octets) course
  pub accounted : IsAccountedButFor job course (flows_of job octets) before after

-- all of the capture was taken, and it ends; writing or closing this name failed, and all outputs before it, in order, are whole
pub record IsUnwritten (job : Job) (name : List ℕ) (before after : PlaceState) : Type 0 where
  pub octets : List ℕ
  pub taken : IsTaken job before after octets []
  pub ended : flow_end job octets ≡ side.Ended
  pub first : List PluginConfig
  pub others : List PluginConfig
  pub splits : job.config.plugins ≡ first ++ others
  pub which : name ≡ next_output job others
  pub course : Course
  pub is_course : IsCourse job (flows_of job octets) course
  pub whole : All (HoldsOutput job course (flows_of job octets) before.names after.names) first
  pub failed : Rose (before.writes name) (after.writes name)
  pub accounted : IsAccountedButFor job course (flows_of job octets) before after

-- This output couldn't be opened, and those before it, in order, have what they begin with.
pub record IsUnopenedOutput (job : Job) (name : List ℕ) (before after : Names) : Type 0 where
  pub first : List PluginConfig
  pub others : List PluginConfig
  pub splits : job.config.plugins ≡ first ++ others
  pub which : name ≡ next_output job others
  pub begun : AreBegun first before after

-- This name couldn't be opened: the capture, which is opened first, or an output, where the capture is there.
abbrev pub IsUnopened : Job → List ℕ → Names → Names → Type 0
IsUnopened job name before after = ((name ≡ capture_of job) × (after ≡ before)) ⊎ (IsSome (before (capture_of job)) × IsUnopenedOutput job name before after)

abbrev pub HoldsOfJob : Answer → Job → PlaceState → PlaceState → Type 0
HoldsOfJob Done job before after = IsDone job before after
HoldsOfJob FlowFault job before after = IsCutShort job before after
HoldsOfJob (CaptureTorn flows place) job before after = IsStopped job (CaptureTorn flows place) before after
HoldsOfJob (CaptureBad flows place cause) job before after = IsStopped job (CaptureBad flows place cause) before after
HoldsOfJob (TooMany which) job before after = IsStopped job (TooMany which) before after
HoldsOfJob (WriteFault name) job before after = IsUnwritten job name before after
HoldsOfJob (OpenFault name) job before after = IsUnopened job name before.names after.names
HoldsOfJob NoMemory job before after = ⊤
HoldsOfJob answer job before after = ⊥

-- ---- what holds of the words

-- the words name a file that gives no job, for this cause at this line of this name
pub record IsConfigRefused (tool : Tool) (words : List (List ℕ)) (name : List ℕ) (line : ℕ) (cause : AnyCause) (names : Names) : Type 0 where
  pub file : List ℕ
  pub named : NamesFile tool words file
  pub refused : GivesNoJob tool file names name line cause

-- the words name a file, and this name is read for its job
pub record IsRead (tool : Tool) (words : List (List ℕ)) (names : Names) (name : List ℕ) : Type 0 where
  pub file : List ℕ
  pub named : NamesFile tool words file
  pub read : IsReadFor tool file names name

-- names were read alone: each has what it had, and no output was opened
pub record IsUntouched (before after : PlaceState) : Type 0 where
  pub names : after.names ≡ before.names
  pub only_read : OnlyRead before after

-- What holds after each answer.
abbrev pub Holds : Answer → Tool → List (List ℕ) → PlaceState → PlaceState → Type 0
Holds Done tool words before after = OfRun tool words before (λ job begun. IsDone job begun after)
Holds SayFault tool words before after = OfRun tool words before (λ job begun. IsDone job begun after)
Holds FlowFault tool words before after = OfRun tool words before (λ job begun. IsCutShort job begun after)
Holds (CaptureTorn flows place) tool words before after = OfRun tool words before (λ job begun. IsStopped job (CaptureTorn flows place) begun after)
Holds (CaptureBad flows place cause) tool words before after = OfRun tool words before (λ job begun. IsStopped job (CaptureBad flows place cause) begun after)
Holds (TooMany which) tool words before after = OfRun tool words before (λ job begun. IsStopped job (TooMany which) begun after)
Holds (WriteFault name) tool words before after = OfRun tool words before (λ job begun. IsUnwritten job name begun after)
Holds (OpenFault name) tool words before after =
    (IsRead tool words before.names name × IsUntouched before after) ⊎ OfRun tool words before (λ job begun. IsUnopened job name begun.names after.names)
Holds (ConfigRefused name line cause) tool words before after = IsConfigRefused tool words name line cause before.names × IsUntouched before after
Holds Usage tool words before after = ((file : List ℕ) → NamesFile tool words file → ⊥) × (after ≡ before)
Holds NoMemory tool words before after = ⊤

-- words and files have one outcome: two runs that are done leave the same in every file
abbrev pub HaveOneOutcome : Type 0
HaveOneOutcome = (tool : Tool) (words : List (List ℕ)) (before after other_before other_after : PlaceState) → before.names ≡ other_before.names
    → Holds Done tool words before after → Holds Done tool words other_before other_after → after.names ≡ other_after.names

-- A name that is no output of the words' configuration has what it had.
abbrev pub LeavesOthers : Tool → List (List ℕ) → Names → Names → Type 0
LeavesOthers tool words before after =
    (name : List ℕ) → ((job : Job) → Accepts tool words before job → IsNoOutput job name) → after name ≡ before name

-- ---- why an answer comes

-- A fault of a run is answered only where its number rose. Where the place tells its octets, a failed read is one of the capture, or, where
-- the answer is that a name couldn't be opened, of that name, which is read for the job.
abbrev pub RunReason : Answer → Bool → Tool → List (List ℕ) → PlaceState → PlaceState → Type 0
RunReason (OpenFault name) tells tool words before after =
    Rose (before.opens name) (after.opens name) ⊎ ((IsTrue tells → IsRead tool words before.names name) × Rose (before.reads name) (after.reads name))
RunReason FlowFault tells tool words before after = (name : List ℕ) × (IsTrue tells → OfJob tool words before.names (λ job. name ≡ capture_of job)) × Rose (before.reads name) (after.reads name)
RunReason (WriteFault name) tells tool words before after = Rose (before.writes name) (after.writes name)
RunReason SayFault tells tool words before after = ⊥
RunReason answer tells tool words before after = ⊤

-- A fault is answered only where its number rose, that of a place or that of what the line is said to.
abbrev pub HasReason : Answer → Bool → Tool → List (List ℕ) → PlaceState → PlaceState → ℕ → ℕ → Type 0
HasReason SayFault tells tool words before after says_before says_after = Rose says_before says_after
HasReason answer tells tool words before after says_before says_after = RunReason answer tells tool words before after

-- the same of a job
abbrev pub JobReason : Answer → Job → PlaceState → PlaceState → Type 0
JobReason Done job before after = ⊤
JobReason (OpenFault name) job before after = Rose (before.opens name) (after.opens name)
JobReason FlowFault job before after = Rose (before.reads (capture_of job)) (after.reads (capture_of job))
JobReason (CaptureTorn flows place) job before after = ⊤
JobReason (CaptureBad flows place cause) job before after = ⊤
JobReason (TooMany which) job before after = ⊤
JobReason (WriteFault name) job before after = Rose (before.writes name) (after.writes name)
JobReason NoMemory job before after = ⊤
JobReason answer job before after = ⊥
