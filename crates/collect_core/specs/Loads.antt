-- The loads of a datagram: what each plugin is given of each of its records.
use Rattle.std.specs.Prelude.{◌≡◌, ◌<◌, ℕ, ◌+◌, ◌==◌, All, Some, List, [], ◌∷◌, ◌++◌, filter, length, map, slice_get, take}
use Rattle.acct_types.specs.declared.datagram.Datagram.{Datagram}
use Rattle.acct_types.specs.declared.flow.FlowRecord.{FlowRecord}
use Rattle.acct_types.specs.declared.item.Item.{Item}
use Rattle.config_keys.specs.declared.plugin.PluginConfig.{PluginConfig}
use Rattle.collect_core.specs.declared.job.Job.{Job}
use Rattle.collect_core.specs.Course.{Course}
use Rattle.collect_core.specs.Due.{Entry, entries_in, entry_at, entry_of, records_in}

-- the number of a plugin, and the entry that it is given
abbrev pub load_entry : ℕ × Item → ℕ × Entry
load_entry load = (load.0, entry_of load.1)

-- what the plugin with this number is given, in order
abbrev pub given_to : {X : Type 0} → ℕ → List (ℕ × X) → List X
given_to number loads = map (λ load. load.1) (filter (λ load. load.0 == number) loads)

-- the loads of a record for these plugins, numbered from here on
abbrev pub loads_for : Job → Course → ℕ → List PluginConfig → ℕ → ℕ → ℕ → FlowRecord → List (ℕ × Entry)
loads_for job course number [] datagram moment row flow = []
loads_for job course number (plugin ∷ plugins) datagram moment row flow =
    (number, entry_at job course plugin datagram moment row flow) ∷ loads_for job course (number + 1) plugins datagram moment row flow

-- the loads of records from this place on
abbrev pub loads_from : Job → Course → ℕ → ℕ → ℕ → List FlowRecord → List (ℕ × Entry)
loads_from job course datagram moment row [] = []
loads_from job course datagram moment row (flow ∷ flows) =
    loads_for job course 0 job.config.plugins datagram moment row flow ++ loads_from job course datagram moment (row + 1) flows

-- the loads of the first records of a datagram: of each record, one for each plugin in the configuration's order
abbrev pub loads_in : Job → Course → ℕ → List Datagram → Datagram → List (ℕ × Entry)
loads_in job course most earlier d = loads_from job course (length earlier + 1) d.moment 1 (take most (records_in job earlier d))

-- the loads with a plugin's number are its entries of the first records
abbrev pub LoadsAreEntries : Type 0
LoadsAreEntries = (job : Job) (course : Course) (most : ℕ) (earlier : List Datagram) (d : Datagram) (number : ℕ) (plugin : PluginConfig)
    → slice_get job.config.plugins number ≡ Some plugin → given_to number (loads_in job course most earlier d) ≡ take most (entries_in job course plugin earlier d)

-- each load has the number of a plugin
abbrev pub LoadsAreNumbered : Type 0
LoadsAreNumbered = (job : Job) (course : Course) (most : ℕ) (earlier : List Datagram) (d : Datagram) → All (λ load. load.0 < length job.config.plugins) (loads_in job course most earlier d)
