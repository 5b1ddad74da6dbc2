-- The entries that a plugin is owed: one for each record of each datagram that is decoded, in their order.
use Rattle.std.specs.Prelude.{ℕ, ◌+◌, ◌*◌, ◌/◌, Bool, not, List, [], ◌∷◌, ◌++◌, filter, length, take, Result, Ok, Err, option_and_then}
use Rattle.acct_types.specs.declared.cell.Cell.{Cell}
use Rattle.acct_types.specs.declared.datagram.Datagram.{Datagram}
use Rattle.acct_types.specs.declared.flow.Counts.{Counts}
use Rattle.acct_types.specs.declared.flow.FlowRecord.{FlowRecord}
use Rattle.acct_types.specs.declared.item.Item.{Item}
use Rattle.config_keys.specs.ConfigViews.{says}
use Rattle.config_keys.specs.declared.plugin.PluginConfig.{PluginConfig}
use Rattle.flow_decode.specs.declared.decoder.Decoded.{Decoded}
use Rattle.flow_decode.specs.Counting.{answer_of}
use Rattle.flow_decode.specs.History.{decoded_behind}
use Rattle.flow_templates.specs.declared.refusal.Cause.{Cause}
use Rattle.pretag_map.specs.TagRules.{label_at, tags_of}
use Rattle.pretag_map.specs.declared.facts.Tags.{Tags}
use Rattle.primitive_keys.specs.Facts.{facts_of}
use Rattle.primitive_keys.specs.Keys.{key_cells_of}
use Rattle.collect_core.specs.declared.job.Job.{Job}
use Rattle.collect_core.specs.Course.{Course, route_at}
use Rattle.collect_core.specs.Most.{Most}
use Rattle.collect_core.specs.Job.{as_of, renormalises}

-- ---- datagrams behind each other

-- what is said of each datagram behind those before it, the newest first
abbrev pub all_behind : {X : Type 0} → (List Datagram → Datagram → List X) → List Datagram → List Datagram → List X
all_behind say earlier [] = []
all_behind say earlier (d ∷ later) = say earlier d ++ all_behind say (d ∷ earlier) later

abbrev pub over_all : {X : Type 0} → (List Datagram → Datagram → List X) → List Datagram → List X
over_all say flows = all_behind say [] flows

-- a datagram decoded, by what those before it told
abbrev pub decoded_in : Job → List Datagram → Datagram → Result Decoded Cause
decoded_in job earlier d = answer_of (renormalises (says job.config)) job.samplings (decoded_behind job.config.tool earlier d)

abbrev pub rows_in : Result Decoded Cause → List FlowRecord
rows_in (Ok decoded) = decoded.rows
rows_in (Err cause) = []

-- the records of a datagram; one that is refused has none
abbrev pub records_in : Job → List Datagram → Datagram → List FlowRecord
records_in job earlier d = rows_in (decoded_in job earlier d)

abbrev pub records_of : Job → List Datagram → List FlowRecord
records_of job flows = over_all (records_in job) flows

-- ---- what a record is counted under

-- the first moment of the window that a moment lies in: windows follow each other from moment 0 on, each of so many seconds
abbrev pub window_start : ℕ → ℕ → ℕ
window_start seconds moment = moment / (1000 * seconds) * (1000 * seconds)

-- the tags that the first rule gives whose conditions all hold, of a record of the datagram with this number
abbrev pub tags_in : Job → Course → ℕ → FlowRecord → Tags
tags_in job course datagram flow =
    tags_of job.tags (facts_of flow (as_of (says job.config)) (route_at job course datagram flow flow.src) (route_at job course datagram flow flow.dst))

-- the key for a plugin in a window that begins at this moment
abbrev pub key_in : Job → Course → PluginConfig → ℕ → ℕ → FlowRecord → List Cell
key_in job course plugin datagram window flow =
    key_cells_of plugin.primitives flow (as_of (says job.config)) (route_at job course datagram flow flow.src) (route_at job course datagram flow flow.dst)
    (tags_in job course datagram flow) (option_and_then (label_at job.tags) (tags_in job course datagram flow).label) window

-- ---- entries

-- a record's datagram and its place there, both from 1, its moment, and what is counted under which key
pub record Entry : Type 0 where
  pub datagram : ℕ
  pub row : ℕ
  pub moment : ℕ
  pub key : List Cell
  pub counts : Counts

abbrev pub entry_of : Item → Entry
entry_of item = record { datagram = item.datagram; row = item.row; moment = item.moment; key = item.key; counts = item.counts }

abbrev pub entry_at : Job → Course → PluginConfig → ℕ → ℕ → ℕ → FlowRecord → Entry
entry_at job course plugin datagram moment row flow = record {
  datagram = datagram;
  row = row;
  moment = moment;
  key = key_in job course plugin datagram (window_start plugin.refresh moment) flow;
  counts = flow.counts;
}

-- the entries of records from this place on
abbrev pub entries_from : Job → Course → PluginConfig → ℕ → ℕ → ℕ → List FlowRecord → List Entry
entries_from job course plugin datagram moment row [] = []
entries_from job course plugin datagram moment row (flow ∷ flows) =
    entry_at job course plugin datagram moment row flow ∷ entries_from job course plugin datagram moment (row + 1) flows

-- the entries of a datagram's records; the first datagram has the number 1
abbrev pub entries_in : Job → Course → PluginConfig → List Datagram → Datagram → List Entry
entries_in job course plugin earlier d = entries_from job course plugin (length earlier + 1) d.moment 1 (records_in job earlier d)

-- the entries of all datagrams, within the limit of records
abbrev pub due : Job → Most → Course → PluginConfig → List Datagram → List Entry
due job most course plugin flows = take most.records (over_all (entries_in job course plugin) flows)

-- ---- what the rings refused

abbrev pub is_lost : Course → PluginConfig → Entry → Bool
is_lost course plugin entry = course.is_dropped plugin.name entry.datagram entry.row

-- the entries that a plugin took, of those that it is owed
abbrev pub taken : Course → PluginConfig → List Entry → List Entry
taken course plugin entries = filter (λ entry. not (is_lost course plugin entry)) entries

-- those that its ring refused
abbrev pub lost : Course → PluginConfig → List Entry → List Entry
lost course plugin entries = filter (is_lost course plugin) entries
