-- The conservation theorem: what a run has written of a list of datagrams.
use Rattle.std.specs.Prelude.{◌≡◌, ◌≢◌, ℕ, List, [], ◌∷◌, ◌++◌, All, length, Option, Some, nat_lt, if◌then◌else◌}
use Rattle.acct_types.specs.declared.cell.Cell.{Cell}
use Rattle.acct_types.specs.declared.datagram.Datagram.{Datagram}
use Rattle.acct_types.specs.declared.item.Purge.{Purge}
use Rattle.capture_file.specs.declared.flows.CaptureEnd.{CaptureEnd}
use Rattle.capture_file.specs.declared.flows.CaptureEnd.TheVariants as capture
use Rattle.capture_file.specs.Capture.{datagrams_of, end_of}
use Rattle.collect_core.specs.declared.job.Job.{Job}
use Rattle.collect_core.specs.Audit.{audit_text}
use Rattle.collect_core.specs.Course.{Course, unrouted}
use Rattle.collect_core.specs.Due.{Entry, due, lost, records_of, taken}
use Rattle.collect_core.specs.Ends.{counted, slices_in}
use Rattle.collect_core.specs.Flows.{flows_in}
use Rattle.collect_core.specs.Lawful.{IsExact, IsLawful}
use Rattle.collect_core.specs.Most.{FULL}
use Rattle.config_keys.specs.declared.plugin.PluginConfig.{PluginConfig}
use Rattle.config_keys.specs.declared.value.PluginKind.{PluginKind}
use Rattle.config_keys.specs.declared.value.PluginKind.TheVariants.{Print, Memory}
use Rattle.outside_io.specs.Causes.{Rose}
use Rattle.outside_io.specs.Names.{Names, begun}
use Rattle.outside_io.specs.declared.ends.SideEnd.{SideEnd}
use Rattle.outside_io.specs.declared.ends.SideEnd.TheVariants as side
use Rattle.outside_io.specs.declared.ends.Which.TheVariants as which
use Rattle.outside_io.specs.declared.fault.Begin.{Begin}
use Rattle.outside_io.specs.declared.fault.Begin.TheVariants.{Append, Anew}
use Rattle.outside_io.specs.declared.input_fault.InputFault.TheVariants as fault
use Rattle.plugin_cache.specs.Slices.{IsPurgeOf, OneForEach, rows_in}
use Rattle.plugin_cache.specs.Sums.{sums_of}
use Rattle.plugin_work.specs.Output.{texts_of}
use Rattle.acct_top.specs.Job.{capture_of}
use Rattle.outside_io.specs.States.{PlaceState}

-- ---- the capture

-- the datagrams that a capture's octets spell, up to the first fault, within the limits of every run
abbrev pub flows_of : Job → List ℕ → List Datagram
flows_of job octets = flows_in job FULL (datagrams_of FULL.octets octets)

-- how the flow side ends that reads a capture to such an end
abbrev pub side_end : CaptureEnd → SideEnd
side_end capture.Ended = side.Ended
side_end capture.BadMagic = side.Fault fault.BadMagic
side_end (capture.BadKind place) = side.Fault (fault.BadKind place)
side_end (capture.Torn place) = side.Fault (fault.Torn place)
side_end (capture.TooLong place) = side.Fault (fault.TooLong place)
side_end capture.TooMany = side.TooMany which.Octets

-- How the flow side ends, by the octets of the capture alone: it has too many records, or ends as its events do.
abbrev pub flow_end : Job → List ℕ → SideEnd
flow_end job octets =
    if nat_lt FULL.records (length (records_of job (flows_of job octets))) then side.TooMany which.Records
    else side_end (end_of FULL.octets octets)

-- These octets were taken of the capture, which was read once, and these are left.
pub record IsTaken (job : Job) (before after : PlaceState) (octets rest : List ℕ) : Type 0 where
  pub capture : before.names (capture_of job) ≡ Some (octets ++ rest)
  pub taken : after.taken (capture_of job) ≡ before.taken (capture_of job) ++ octets ∷ []

-- ---- the outputs

-- A print plugin appends to its output, and a memory plugin begins it anew.
abbrev pub begin_of : PluginKind → Begin
begin_of Print = Append
begin_of Memory = Anew

-- what the output of a plugin begins with
abbrev pub start_of : Names → PluginConfig → List ℕ
start_of names plugin = begun (begin_of plugin.kind) names plugin.file

-- the name is that of no output
pub record IsNoOutput (job : Job) (name : List ℕ) : Type 0 where
  pub plugins : All (λ plugin. name ≢ plugin.file) job.config.plugins
  pub audit : name ≢ job.config.acct_audit_file

-- every name but the outputs has what it had
abbrev pub KeepsOthers : Job → Names → Names → Type 0
KeepsOthers job before after = (name : List ℕ) → IsNoOutput job name → after name ≡ before name

-- The purges of a plugin's entries: one for each slice of those that it took. For each key, the rows of all purges and the entries that its
-- ring refused add up to the entries that it is owed.
pub record ArePurges (course : Course) (plugin : PluginConfig) (owed : List Entry) (purges : List Purge) : Type 0 where
  pub are : OneForEach IsPurgeOf (slices_in plugin (taken course plugin owed)) purges
  pub sums : (key : List Cell) → sums_of (rows_in purges ++ counted (lost course plugin owed)) key ≡ sums_of (counted owed) key

-- The output of a plugin, whole: it holds what it began with, and then the texts of its purges.
pub record HoldsOutput (job : Job) (course : Course) (flows : List Datagram) (before after : Names) (plugin : PluginConfig) : Type 0 where
  pub purges : List Purge
  pub conserves : ArePurges course plugin (due job FULL course plugin flows) purges
  pub output : after plugin.file ≡ Some (start_of before plugin ++ texts_of plugin purges)

-- The outputs hold the texts of these datagrams, whole.
pub record IsAccounted (job : Job) (course : Course) (flows : List Datagram) (before after : Names) : Type 0 where
  -- the audit holds its text alone
  pub audit : after job.config.acct_audit_file ≡ Some (audit_text job FULL course flows)
  pub plugins : All (HoldsOutput job course flows before after) job.config.plugins
  pub others : KeepsOthers job before after

-- The course of a run of these datagrams: it is lawful, exact, as on one thread, and without routes.
pub record IsCourse (job : Job) (flows : List Datagram) (course : Course) : Type 0 where
  pub lawful : IsLawful job FULL flows course
  pub exact : IsExact job FULL flows course
  pub without_routes : course ≡ unrouted

-- What a name holds of a text, behind a start: all of it, or, where its number of faults rose, perhaps a front.
pub record HoldsText (risen : Type 0) (start text : List ℕ) (octets : Option (List ℕ)) : Type 0 where
  pub front : List ℕ
  pub rest : List ℕ
  pub splits : text ≡ front ++ rest
  pub holds : octets ≡ Some (start ++ front)
  pub whole : (risen → ⊥) → rest ≡ []

-- The output of a plugin: whole, or, where its number of write faults rose, perhaps a front.
pub record HoldsOutputButFor (job : Job) (course : Course) (flows : List Datagram) (before after : PlaceState) (plugin : PluginConfig) : Type 0 where
  pub purges : List Purge
  pub conserves : ArePurges course plugin (due job FULL course plugin flows) purges
  pub output : HoldsText (Rose (before.writes plugin.file) (after.writes plugin.file)) (start_of before.names plugin) (texts_of plugin purges) (after.names plugin.file)

-- The same of all outputs, but for those whose number of write faults rose.
pub record IsAccountedButFor (job : Job) (course : Course) (flows : List Datagram) (before after : PlaceState) : Type 0 where
  pub audit : HoldsText (Rose (before.writes job.config.acct_audit_file) (after.writes job.config.acct_audit_file)) [] (audit_text job FULL course flows) (after.names job.config.acct_audit_file)
  pub plugins : All (HoldsOutputButFor job course flows before after) job.config.plugins
  pub others : KeepsOthers job before.names after.names

-- The output that comes behind those of the plugins before these, in order: the first of these, or else the audit.
abbrev pub next_output : Job → List PluginConfig → List ℕ
next_output job [] = job.config.acct_audit_file
next_output job (plugin ∷ plugins) = plugin.file

-- The outputs of these plugins have what they begin with, and every other name has what it had.
pub record AreBegun (plugins : List PluginConfig) (before after : Names) : Type 0 where
  pub plugins_have : All (λ plugin. after plugin.file ≡ Some (start_of before plugin)) plugins
  pub others : (name : List ℕ) → All (λ plugin. name ≢ plugin.file) plugins → after name ≡ before name
