-- What the core has seen of datagrams.
use Rattle.std.specs.Prelude.{◌≡◌, ◌<◌, ◌+◌, ◌↔◌, ℕ, IsTrue, List, [], ◌∷◌, ◌++◌, length, map, min, reverse}
use Rattle.acct_types.specs.declared.datagram.Datagram.{Datagram}
use Rattle.acct_types.specs.declared.flow.FlowRecord.{FlowRecord}
use Rattle.config_keys.specs.ConfigViews.{says}
use Rattle.flow_decode.specs.History.{Knows}
use Rattle.out_text.specs.declared.event.Event.{Event}
use Rattle.collect_core.specs.declared.collector.Core.{Core}
use Rattle.collect_core.specs.declared.collector.CoreStep.{CoreStep}
use Rattle.collect_core.specs.declared.job.Job.{Job}
use Rattle.collect_core.specs.Audit.{told_in, refusals_in}
use Rattle.collect_core.specs.Course.{unrouted}
use Rattle.collect_core.specs.Due.{over_all, records_in}
use Rattle.collect_core.specs.Job.{renormalises}
use Rattle.collect_core.specs.Loads.{load_entry, loads_in}

-- The core has seen these datagrams: its decoder knows what they told, and it counted them and those that are refused.
pub record HasSeen (job : Job) (flows : List Datagram) (collector : Core) : Type 0 where
  pub tool : collector.decoder.tool ≡ job.config.tool
  pub renormalises : collector.decoder.renormalise ≡ renormalises (says job.config)
  pub knows : Knows collector.decoder (reverse flows)
  pub datagrams : collector.totals.datagrams ≡ length flows
  pub refused : collector.totals.refused ≡ length (over_all (refusals_in job) flows)

-- The core was fed one datagram more: these are its records, and these events are told of it.
pub record IsFed (job : Job) (flows : List Datagram) (d : Datagram) (collector : Core) (rows : List FlowRecord) (events : List Event) : Type 0 where
  pub seen : HasSeen job (flows ++ d ∷ []) collector
  pub rows_are : rows ≡ records_in job (reverse flows) d
  pub events_are : events ≡ told_in job (reverse flows) d

-- The core took a step by one datagram more, of which so many records were asked for: what is told of it, the loads of its first
-- records, and whether it has more of them. These records were counted.
pub record IsStep (job : Job) (flows : List Datagram) (d : Datagram) (most : ℕ) (before after : Core) (step : CoreStep) : Type 0 where
  pub seen : HasSeen job (flows ++ d ∷ []) after
  pub events : step.events ≡ told_in job (reverse flows) d
  pub loads : map load_entry step.loads ≡ loads_in job unrouted most (reverse flows) d
  pub full : IsTrue step.full ↔ most < length (records_in job (reverse flows) d)
  pub records : after.totals.records ≡ before.totals.records + min most (length (records_in job (reverse flows) d))
