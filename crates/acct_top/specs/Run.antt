-- The steps of a run.
use Rattle.std.specs.Prelude.{◌≡◌, ◌≢◌, ◌≤◌, ◌⊎◌, ⊤, ℕ, Bool, true, IsTrue, List, [], ◌∷◌, ◌++◌, All, length, Option, Some, MatchOption}
use Rattle.acct_types.specs.declared.datagram.Datagram.{Datagram}
use Rattle.collect_core.specs.declared.job.Job.{Job}
use Rattle.collect_core.specs.Audit.{audit_text}
use Rattle.collect_core.specs.Course.{Course, unrouted}
use Rattle.collect_core.specs.Due.{due, records_of, taken}
use Rattle.collect_core.specs.Ends.{EndsPlugin, ForEachPlugin, PluginEnding}
use Rattle.collect_core.specs.Most.{FULL}
use Rattle.config_keys.specs.declared.plugin.PluginConfig.{PluginConfig}
use Rattle.outside_io.specs.Causes.{Rose}
use Rattle.outside_io.specs.Names.{Names}
use Rattle.outside_io.specs.declared.ends.OutEnd.{OutEnd}
use Rattle.outside_io.specs.declared.ends.OutEnd.TheVariants as out
use Rattle.outside_io.specs.declared.ends.SideEnd.{SideEnd}
use Rattle.outside_io.specs.declared.ends.SideEnd.TheVariants as side
use Rattle.outside_io.specs.declared.input_fault.InputFault.TheVariants as fault
use Rattle.plugin_work.specs.Sinks.{IsWritten}
use Rattle.outside_io.specs.States.{SinkState}
use Rattle.acct_top.specs.declared.answer.Answer.{Answer}
use Rattle.acct_top.specs.declared.answer.Answer.TheVariants.{Done, OpenFault, NoMemory, WriteFault}
use Rattle.acct_top.specs.Answers.{IsUnopened, side_answer}
use Rattle.acct_top.specs.Conservation.{AreBegun, HoldsOutput, HoldsOutputButFor, HoldsText, flow_end, flows_of, next_output, start_of}
use Rattle.outside_io.specs.States.{PlaceState}

-- ---- names

-- no two of these plugins have outputs of one name
abbrev pub HaveOwnFiles : List PluginConfig → Type 0
HaveOwnFiles [] = ⊤
HaveOwnFiles (plugin ∷ plugins) = All (λ other. plugin.file ≢ other.file) plugins × HaveOwnFiles plugins

-- the outputs of these plugins and the audit are apart
pub record AreApart (audit : List ℕ) (plugins : List PluginConfig) : Type 0 where
  pub own : HaveOwnFiles plugins
  pub not_audit : All (λ plugin. plugin.file ≢ audit) plugins

-- every name but the outputs of these plugins and the audit has what it had
abbrev pub KeepsAllBut : Job → List PluginConfig → Names → Names → Type 0
KeepsAllBut job plugins before after =
    (name : List ℕ) → All (λ plugin. name ≢ plugin.file) plugins → name ≢ job.config.acct_audit_file → after name ≡ before name

-- ---- opening

-- a sink that was just opened: it counts no fault, and holds nothing where the place tells
pub record IsNewSink (tells : Bool) (sink : SinkState) : Type 0 where
  pub empty : IsTrue tells → sink.held ≡ Some []
  pub no_fault : sink.faults ≡ 0

-- the outputs of these plugins and the audit have what they begin with, and every other name has what it had
pub record AreBegunAll (job : Job) (plugins : List PluginConfig) (before after : Names) : Type 0 where
  pub plugins_have : All (λ plugin. after plugin.file ≡ Some (start_of before plugin)) plugins
  pub audit : after job.config.acct_audit_file ≡ Some []
  pub others : KeepsAllBut job plugins before after

-- Of the outputs of these plugins and the audit, in order, this one couldn't be opened, and those before it have what they begin with.
pub record IsUnopenedAmong (job : Job) (plugins : List PluginConfig) (name : List ℕ) (before after : Names) : Type 0 where
  pub first : List PluginConfig
  pub others : List PluginConfig
  pub splits : plugins ≡ first ++ others
  pub which : name ≡ next_output job others
  pub begun : AreBegun first before after

-- why these outputs and the audit aren't all open
abbrev pub IsOutputFault : Job → List PluginConfig → Answer → Names → Names → Type 0
IsOutputFault job plugins (OpenFault name) before after = IsUnopenedAmong job plugins name before after
IsOutputFault job plugins NoMemory before after = ⊤
IsOutputFault job plugins answer before after = ⊥

-- why the capture and all outputs aren't open
abbrev pub IsOpenFault : Job → Answer → Names → Names → Type 0
IsOpenFault job (OpenFault name) before after = IsUnopened job name before after
IsOpenFault job NoMemory before after = ⊤
IsOpenFault job answer before after = ⊥

-- ---- the run

-- The octets taken of a capture, and those that it has left, say that the flow side ends so. A failed read says only that there aren't
-- too many records so far.
abbrev pub SaysEnd : Job → List ℕ → List ℕ → SideEnd → Type 0
SaysEnd job octets rest side.Ended = (rest ≡ []) × (flow_end job octets ≡ side.Ended)
SaysEnd job octets rest (side.Fault fault.ReadFault) = length (records_of job (flows_of job octets)) ≤ FULL.records
SaysEnd job octets rest end = (flow_end job octets ≡ end) × (flow_end job (octets ++ rest) ≡ end)

-- these octets were taken of the capture, which was read once, and the flow side ended as they say
pub record EndsAsTaken (job : Job) (capture : Option (List ℕ)) (taken_before taken_after : List (List ℕ)) (octets : List ℕ) (flow : SideEnd) : Type 0 where
  pub rest : List ℕ
  pub splits : capture ≡ Some (octets ++ rest)
  pub taken_is : taken_after ≡ taken_before ++ octets ∷ []
  pub says : SaysEnd job octets rest flow

-- A run took octets of a capture until its flow side ended so, and wrote what it owes of their datagrams to the sinks.
pub record RunsOver (job : Job) (tells : Bool) (capture : Option (List ℕ)) (taken_before taken_after : List (List ℕ)) (starts : List SinkState) (audit_start audit_sink : SinkState)
    (flow : SideEnd) (endings : List PluginEnding) (audit_end : OutEnd) : Type 0 where
  pub octets : List ℕ
  pub ends : IsTrue tells → EndsAsTaken job capture taken_before taken_after octets flow
  pub plugins : ForEachPlugin (λ plugin start ending. EndsPlugin plugin (taken unrouted plugin (due job FULL unrouted plugin (flows_of job octets))) start ending) job.config.plugins starts endings
  pub plugins_in_memory : All (λ ending. ending.end ≢ out.Memory) endings
  pub audit : IsWritten (audit_text job FULL unrouted (flows_of job octets)) audit_end audit_start audit_sink
  pub audit_in_memory : audit_end ≢ out.Memory

-- ---- closing

-- An output was closed to which this text was written: what its name holds behind the start, and whether it is whole.
pub record IsClosed (risen : Type 0) (start text : List ℕ) (whole : Bool) (octets : Option (List ℕ)) : Type 0 where
  pub holds : HoldsText risen start text octets
  pub all : whole ≡ true → octets ≡ Some (start ++ text)

-- What these plugins are owed of datagrams is written to their sinks, and their outputs have what they began with.
pub record AreWritten (job : Job) (course : Course) (flows : List Datagram) (before now : PlaceState) (plugins : List PluginConfig) (starts : List SinkState) (endings : List PluginEnding) : Type 0 where
  pub written : ForEachPlugin (λ plugin start ending. EndsPlugin plugin (taken course plugin (due job FULL course plugin flows)) start ending) plugins starts endings
  pub empty : All (λ start. start.held ≡ Some []) starts
  pub begun : All (λ plugin. now.names plugin.file ≡ Some (start_of before.names plugin)) plugins
  pub writes : (name : List ℕ) → before.writes name ≤ now.writes name

-- the same of all plugins and the audit
pub record IsRunWritten (job : Job) (course : Course) (flows : List Datagram) (before now : PlaceState) (starts : List SinkState) (endings : List PluginEnding) (audit_end : OutEnd) (audit_start audit_sink : SinkState) : Type 0 where
  pub plugins : AreWritten job course flows before now job.config.plugins starts endings
  pub audit : IsWritten (audit_text job FULL course flows) audit_end audit_start audit_sink
  pub audit_empty : audit_start.held ≡ Some []

-- Of the outputs of these plugins, in order, those before this name are whole, and writing or closing it failed.
pub record IsFirstUnwritten (job : Job) (course : Course) (flows : List Datagram) (before after : PlaceState) (plugins : List PluginConfig) (name : List ℕ) : Type 0 where
  pub first : List PluginConfig
  pub others : List PluginConfig
  pub splits : plugins ≡ first ++ others
  pub which : name ≡ next_output job others
  pub whole : All (HoldsOutput job course flows before.names after.names) first
  pub failed : Rose (before.writes name) (after.writes name)

-- The outputs of these plugins were closed, and this is the first that isn't whole.
pub record AreClosed (job : Job) (course : Course) (flows : List Datagram) (before after : PlaceState) (plugins : List PluginConfig) (unwritten : Option (List ℕ)) : Type 0 where
  pub but_for : All (HoldsOutputButFor job course flows before after) plugins
  pub first : MatchOption unwritten (All (HoldsOutput job course flows before.names after.names) plugins) (IsFirstUnwritten job course flows before after plugins)

-- all outputs and the audit are whole
pub record AreWhole (job : Job) (course : Course) (flows : List Datagram) (before after : Names) : Type 0 where
  pub plugins : All (HoldsOutput job course flows before after) job.config.plugins
  pub audit : after job.config.acct_audit_file ≡ Some (audit_text job FULL course flows)

-- all outputs and the audit were closed, and this is the first that isn't whole
pub record IsRunClosed (job : Job) (course : Course) (flows : List Datagram) (before after : PlaceState) (unwritten : Option (List ℕ)) : Type 0 where
  pub audit : HoldsText (Rose (before.writes job.config.acct_audit_file) (after.writes job.config.acct_audit_file)) [] (audit_text job FULL course flows) (after.names job.config.acct_audit_file)
  pub plugins : All (HoldsOutputButFor job course flows before after) job.config.plugins
  pub first : MatchOption unwritten (AreWhole job course flows before.names after.names) (IsFirstUnwritten job course flows before after job.config.plugins)

-- ---- the answer

-- in place of Done, that a name couldn't be written
abbrev pub unless_unwritten : Answer → Option (List ℕ) → Answer
unless_unwritten Done (Some name) = WriteFault name
unless_unwritten answer unwritten = answer

-- The answer of a run whose flow side ended so, and of whose outputs this is the first that isn't whole, unless memory ran out.
abbrev pub IsAnswer : Answer → SideEnd → Option (List ℕ) → Type 0
IsAnswer answer flow unwritten = (answer ≡ NoMemory) ⊎ (answer ≡ unless_unwritten (side_answer flow) unwritten)
