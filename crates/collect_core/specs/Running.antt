-- A run between its start and its end.
use Rattle.std.specs.Prelude.{◌≡◌, ◌≢◌, ◌≤◌, ◌<◌, ◌+◌, ◌-◌, ◌^◌, ℕ, List, [], All, sum_by}
use Rattle.acct_types.specs.declared.datagram.Datagram.{Datagram}
use Rattle.out_text.specs.declared.event.Totals.{Totals}
use Rattle.out_text.specs.Events.{events_text}
use Rattle.outside_io.specs.Calls.{Calls, handed_out}
use Rattle.outside_io.specs.Spans.{HandsOut}
use Rattle.outside_io.specs.declared.ends.OutEnd.{OutEnd}
use Rattle.outside_io.specs.declared.ends.OutEnd.TheVariants as out
use Rattle.outside_io.specs.declared.ends.SideEnd.{SideEnd}
use Rattle.outside_io.specs.declared.ends.Which.{Which}
use Rattle.outside_io.specs.declared.ends.Which.TheVariants.{Records, Messages, Octets}
use Rattle.plugin_work.specs.Plugins.{PluginState}
use Rattle.plugin_work.specs.Sinks.{IsWritten}
use Rattle.outside_io.specs.States.{SinkState}
use Rattle.collect_core.specs.Course.{unrouted}
use Rattle.collect_core.specs.declared.collector.Core.{Core}
use Rattle.collect_core.specs.declared.job.Job.{Job}
use Rattle.collect_core.specs.declared.log.Log.{Log}
use Rattle.collect_core.specs.Audit.{audit_text, told_in, totals_of}
use Rattle.collect_core.specs.Due.{due, over_all}
use Rattle.collect_core.specs.Ends.{Answer, EndsFlows, EndsPlugin, ForEachPlugin, PluginEnding}
use Rattle.collect_core.specs.Flows.{AreWithin, PassesOctets, PassesRecords, event_octets, flows_in}
use Rattle.collect_core.specs.Given.{AreGiven}
use Rattle.collect_core.specs.Most.{Most}
use Rattle.collect_core.specs.Run.{HasInputEnd}
use Rattle.outside_io.specs.States.{InputState}
use Rattle.collect_core.specs.Seen.{HasSeen}

-- These datagrams were taken: they are counted, each plugin was given its entries of them, and their lines are written.
pub record HasRun (job : Job) (most : Most) (starts : List SinkState) (audit_start : SinkState) (flows : List Datagram)
    (collector : Core) (plugins : List PluginState) (log : Log) (audit : SinkState) : Type 0 where
  pub seen : HasSeen job flows collector
  pub totals : collector.totals ≡ totals_of job most unrouted flows
  pub given : AreGiven job.config.plugins starts (λ plugin. due job most unrouted plugin flows) plugins
  pub written : IsWritten (events_text (over_all (told_in job) flows)) log.end audit_start audit
  pub no_lines : log.text ≡ []

-- All datagrams handed out were taken, and none passes a limit. So many octets are left for the events to come.
pub record GoesOn (job : Job) (most : Most) (starts : List SinkState) (audit_start : SinkState) (handed : List Datagram)
    (collector : Core) (plugins : List PluginState) (log : Log) (audit : SinkState) (left : ℕ) : Type 0 where
  pub within : AreWithin job most handed
  pub run : HasRun job most starts audit_start handed collector plugins log audit
  pub octets : sum_by event_octets handed + left ≡ most.octets

-- the last datagram handed out passes this limit
abbrev pub PassesLimit : Job → Most → List Datagram → Which → Type 0
PassesLimit job most handed Octets = PassesOctets job most handed
PassesLimit job most handed Records = PassesRecords job most handed
PassesLimit job most handed Messages = ⊥

-- The last datagram handed out passes this limit, and those of the run were taken.
pub record Stops (job : Job) (most : Most) (starts : List SinkState) (audit_start : SinkState) (handed : List Datagram) (which : Which)
    (collector : Core) (plugins : List PluginState) (log : Log) (audit : SinkState) : Type 0 where
  pub passes : PassesLimit job most handed which
  pub run : HasRun job most starts audit_start (flows_in job most handed) collector plugins log audit

-- so little was counted that one datagram more can be
pub record HasRoom (most : Most) (collector : Core) (plugins : List PluginState) : Type 0 where
  pub datagrams : collector.totals.datagrams < 2 ^ 64 - 1
  pub refused : collector.totals.refused ≤ collector.totals.datagrams
  pub records : collector.totals.records ≤ most.records
  pub taken : All (λ (plugin : PluginState). plugin.taken ≤ collector.totals.records) plugins

-- An input gave these answers, and none has come to its end with them.
pub record HasAnswered {F : Type 0} (Call : F → F → Answer → Type 0) (before now : F) (told_before told_now : InputState Datagram) (answers : List Answer) : Type 0 where
  pub calls : Calls Call before now answers
  pub hands_out : HandsOut told_before.left told_before.handed (handed_out answers) told_now.left told_now.handed
  pub ending : told_now.ending ≡ told_before.ending
  pub later : told_before.faults ≤ told_now.faults
  pub captured : told_now.captured ≡ told_before.captured

-- An input was read until it ended so, or a limit was passed: the datagrams of the run were taken.
pub record HasTakenAll {F : Type 0} (job : Job) (most : Most) (Call : F → F → Answer → Type 0) (before after : F) (told_before told_after : InputState Datagram)
    (starts : List SinkState) (audit_start : SinkState) (collector : Core) (plugins : List PluginState) (log : Log) (audit : SinkState) (ended : SideEnd) : Type 0 where
  pub answers : List Answer
  pub calls : Calls Call before after answers
  pub hands_out : HandsOut told_before.left told_before.handed (handed_out answers) told_after.left told_after.handed
  pub cause : HasInputEnd told_before told_after answers
  pub ends : EndsFlows job most answers ended
  pub run : HasRun job most starts audit_start (flows_in job most (handed_out answers)) collector plugins log audit

-- A run of these datagrams came to its end: the outputs of the plugins and the audit are written, and nothing wanted memory.
pub record HasEnded (job : Job) (most : Most) (starts : List SinkState) (audit_start : SinkState) (flows : List Datagram)
    (plugins : List PluginEnding) (audit : OutEnd) (audit_after : SinkState) (totals : Totals) : Type 0 where
  pub plugins_end : ForEachPlugin (λ plugin start ending. EndsPlugin plugin (due job most unrouted plugin flows) start ending) job.config.plugins starts plugins
  pub plugins_in_memory : All (λ (ending : PluginEnding). ending.end ≢ out.Memory) plugins
  pub audit_written : IsWritten (audit_text job most unrouted flows) audit audit_start audit_after
  pub audit_in_memory : audit ≢ out.Memory
  pub totals_are : totals ≡ totals_of job most unrouted flows
