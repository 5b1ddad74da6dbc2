-- How the parts of a run end.
use Rattle.std.specs.Prelude.{◌≡◌, ◌≢◌, ◌⊎◌, ⊤, ℕ, List, [], ◌∷◌, map, Option, None, Result, Ok, Err}
use Rattle.acct_types.specs.declared.cell.Cell.{Cell}
use Rattle.acct_types.specs.declared.datagram.Datagram.{Datagram}
use Rattle.acct_types.specs.declared.flow.Counts.{Counts}
use Rattle.acct_types.specs.declared.item.Purge.{Purge}
use Rattle.config_keys.specs.declared.plugin.PluginConfig.{PluginConfig}
use Rattle.outside_io.specs.Calls.{EndWith, handed_out}
use Rattle.outside_io.specs.declared.ends.OutEnd.{OutEnd}
use Rattle.outside_io.specs.declared.ends.SideEnd.{SideEnd}
use Rattle.outside_io.specs.declared.ends.SideEnd.TheVariants.{Ended, Fault, TooMany}
use Rattle.outside_io.specs.declared.ends.Which.TheVariants.{Records, Messages, Octets}
use Rattle.outside_io.specs.declared.input_fault.InputFault.{InputFault}
use Rattle.outside_io.specs.declared.input_fault.InputFault.TheVariants as fault
use Rattle.plugin_cache.specs.Slices.{IsPurgeOf, OneForEach, Slice, Timed, rows_in, slices_of, window_of}
use Rattle.plugin_cache.specs.Sums.{sums_of}
use Rattle.plugin_work.specs.Output.{limit_of, refresh_of, texts_of, totals_of}
use Rattle.plugin_work.specs.Plugins.{if_whole}
use Rattle.plugin_work.specs.Sinks.{IsWritten}
use Rattle.plugin_work.specs.declared.plugin.PluginEnd.{PluginEnd}
use Rattle.outside_io.specs.States.{SinkState}
use Rattle.collect_core.specs.declared.job.Job.{Job}
use Rattle.collect_core.specs.Most.{Most}
use Rattle.collect_core.specs.Due.{Entry}
use Rattle.collect_core.specs.Flows.{AreWithin, PassesOctets, PassesRecords}

-- ---- the flow side

-- what a call for the next datagram answers
abbrev pub Answer : Type 0
Answer = Result (Option Datagram) InputFault

-- How the flow side ends, by what the input answered. An input's own end by its limit of octets is one by that limit.
abbrev pub EndsFlows : Job → Most → List Answer → SideEnd → Type 0
EndsFlows job most answers Ended = EndWith answers (Ok None) × AreWithin job most (handed_out answers)
EndsFlows job most answers (Fault by_fault) = EndWith answers (Err by_fault) × (by_fault ≢ fault.TooMany) × (by_fault ≢ fault.NoMemory) × AreWithin job most (handed_out answers)
EndsFlows job most answers (TooMany Octets) = (EndWith answers (Err fault.TooMany) × AreWithin job most (handed_out answers)) ⊎ PassesOctets job most (handed_out answers)
EndsFlows job most answers (TooMany Records) = PassesRecords job most (handed_out answers)
EndsFlows job most answers (TooMany Messages) = ⊥

-- ---- plugins

-- what is counted of entries under which key
abbrev pub counted : List Entry → List (List Cell × Counts)
counted entries = map (λ entry. (entry.key, entry.counts)) entries

-- an entry with the number of its window
abbrev pub timed : Option ℕ → Entry → Timed
timed refresh entry = (window_of refresh entry.moment, (entry.key, entry.counts))

-- The slices of a plugin's entries. Those of a print plugin are cut by windows and by the limit of keys, and those of a memory plugin
-- are one.
abbrev pub slices_in : PluginConfig → List Entry → List Slice
slices_in plugin entries = slices_of (limit_of plugin) (map (timed (refresh_of plugin)) entries)

-- a plugin at the end of a run: its sink, how its output stands, and the sums over its purges
pub record PluginEnding : Type 0 where
  pub sink : SinkState
  pub end : OutEnd
  pub purged : Counts

-- how a plugin ended whose sink tells this
abbrev pub ending_of : {W : Type 0} → (W → SinkState) → PluginEnd W → PluginEnding
ending_of state end = record { sink = state end.out; end = end.end; purged = end.purged }

-- A plugin was given these entries and then the end, and its sink was `start` before them: the texts of the purges of its slices
-- are written, and over the rows of all purges each key has the sums that it has over the entries.
pub record EndsPlugin (plugin : PluginConfig) (entries : List Entry) (start : SinkState) (ending : PluginEnding) : Type 0 where
  pub purges : List Purge
  pub are : OneForEach IsPurgeOf (slices_in plugin entries) purges
  pub written : IsWritten (texts_of plugin purges) ending.end start ending.sink
  pub purged : ending.purged ≡ if_whole ending.end (totals_of (rows_in purges))
  pub sums : (key : List Cell) → sums_of (rows_in purges) key ≡ sums_of (counted entries) key
  pub totals : totals_of (rows_in purges) ≡ totals_of (counted entries)

-- for each plugin what is said of it, of its sink before the run, and of its end
abbrev pub ForEachPlugin : (PluginConfig → SinkState → PluginEnding → Type 0) → List PluginConfig → List SinkState → List PluginEnding → Type 0
ForEachPlugin Is [] [] [] = ⊤
ForEachPlugin Is (plugin ∷ plugins) (start ∷ starts) (ending ∷ endings) = Is plugin start ending × ForEachPlugin Is plugins starts endings
ForEachPlugin Is plugins starts endings = ⊥
