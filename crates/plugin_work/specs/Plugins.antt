-- A plugin and the items that it took.
use Rattle.std.specs.Prelude.{◌≡◌, ◌+◌, ◌*◌, ◌^◌, ℕ, List, [], ◌++◌, length}
use Rattle.acct_types.specs.Counts.{nothing}
use Rattle.acct_types.specs.declared.choice.Layout.{Layout}
use Rattle.acct_types.specs.declared.flow.Counts.{Counts}
use Rattle.acct_types.specs.declared.item.Item.{Item}
use Rattle.acct_types.specs.declared.item.Purge.{Purge}
use Rattle.acct_types.specs.declared.primitives.Primitives.{Primitives}
use Rattle.config_keys.specs.declared.plugin.PluginConfig.{PluginConfig}
use Rattle.plugin_cache.specs.Slices.{CacheState, Entry, IsAtMost, IsLetGo, OneForEach, Slice, SumUpTo, Timed, fresh, let_go, rows_in}
use Rattle.outside_io.specs.declared.ends.OutEnd.{OutEnd}
use Rattle.outside_io.specs.declared.ends.OutEnd.TheVariants.{Whole}
use Rattle.plugin_work.specs.Output.{ArePurgesOf, entries_of, limit_of, refresh_of, texts_of, timed_items, totals_of}
use Rattle.plugin_work.specs.Sinks.{IsWritten}
use Rattle.outside_io.specs.States.{SinkState}

-- A plugin: how it prints, the slice that it is at, its sink, how its output stands, how many items it took, and their sums.
pub record PluginState : Type 0 where
  pub primitives : Primitives
  pub layout : Layout
  pub cache : CacheState
  pub sink : SinkState
  pub end : OutEnd
  pub taken : ℕ
  pub counted : Counts

-- so few items as were taken have these sums
pub record IsFew (taken : ℕ) (rows : List Entry) (counted : Counts) : Type 0 where
  pub sums : SumUpTo taken rows
  pub below : IsAtMost (taken * 2 ^ 96) counted

-- a plugin that took one item more, and did nothing with it
abbrev pub passed_over : PluginState → PluginState
passed_over plugin = record plugin { taken = plugin.taken + 1 }

-- whatever entries follow, a cache lets go these slices first
abbrev pub GoFirst : CacheState → List Timed → List Slice → Type 0
GoFirst cache items slices = (more : List Timed) → (others : List Slice) × (let_go cache (items ++ more) ≡ slices ++ others)

-- Whatever entries follow, a cache lets go these slices, and then what it lets go from that state on.
abbrev pub GoesOn : CacheState → List Timed → List Slice → CacheState → Type 0
GoesOn cache items slices now = (more : List Timed) → let_go cache (items ++ more) ≡ slices ++ let_go now more

-- A plugin of this configuration took these items, and its sink was `start` before them: the texts of the purges of the first
-- slices are written. Where nothing went wrong, the cache goes on behind these slices.
pub record HasTaken (config : PluginConfig) (start : SinkState) (items : List Item) (plugin : PluginState) : Type 0 where
  pub primitives : plugin.primitives ≡ config.primitives
  pub layout : plugin.layout ≡ config.layout
  pub refresh : plugin.cache.refresh ≡ refresh_of config
  pub taken : plugin.taken ≡ length items
  pub slices : List Slice
  pub first : GoFirst (fresh (limit_of config) (refresh_of config)) (timed_items config items) slices
  pub purges : List Purge
  pub each : OneForEach IsLetGo slices purges
  pub written : IsWritten (texts_of config purges) plugin.end start plugin.sink
  pub goes_on : plugin.end ≡ Whole → GoesOn (fresh (limit_of config) (refresh_of config)) (timed_items config items) slices plugin.cache
  pub counted : plugin.end ≡ Whole → plugin.counted ≡ totals_of (entries_of items)

-- The purges of what a cache has left, which is a slice or none, are written.
pub record IsLastWritten (config : PluginConfig) (cache : CacheState) (end : OutEnd) (before now : SinkState) : Type 0 where
  pub slices : List Slice
  pub others : List Slice
  pub left : let_go cache [] ≡ slices ++ others
  pub purges : List Purge
  pub each : OneForEach IsLetGo slices purges
  pub written : IsWritten (texts_of config purges) end before now
  pub all : end ≡ Whole → others ≡ []

-- the counts of an output that is whole, and nothing of another one
abbrev pub if_whole : OutEnd → Counts → Counts
if_whole Whole counts = counts
if_whole _ counts = nothing

-- A plugin of this configuration took these items and then the end, and its sink was `start` before them: the output text of
-- the items is written.
pub record Ends (config : PluginConfig) (start : SinkState) (items : List Item) (sink : SinkState) (end : OutEnd) (purged : Counts) : Type 0 where
  pub purges : List Purge
  pub are : ArePurgesOf config items purges
  pub written : IsWritten (texts_of config purges) end start sink
  pub sums : purged ≡ if_whole end (totals_of (rows_in purges))
