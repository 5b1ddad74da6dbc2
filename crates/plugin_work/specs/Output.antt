-- What a plugin's output is of its items.
use Rattle.std.specs.Prelude.{◌≡◌, ℕ, List, [], ◌∷◌, Option, Some, None, flat_map, map}
use Rattle.acct_types.specs.Counts.{nothing, plus}
use Rattle.acct_types.specs.declared.cell.Cell.{Cell}
use Rattle.acct_types.specs.declared.flow.Counts.{Counts}
use Rattle.acct_types.specs.declared.item.Item.{Item}
use Rattle.acct_types.specs.declared.item.Purge.{Purge}
use Rattle.config_keys.specs.declared.plugin.PluginConfig.{PluginConfig}
use Rattle.config_keys.specs.declared.value.PluginKind.{PluginKind}
use Rattle.config_keys.specs.declared.value.PluginKind.TheVariants.{Print, Memory}
use Rattle.out_text.specs.Purges.{purge_text}
use Rattle.plugin_cache.specs.Slices.{Entry, IsPurgeOf, OneForEach, Slice, Timed, rows_in, slices_of, timed}
use Rattle.plugin_cache.specs.Sums.{sums_of}

-- a number that a print plugin has, and a memory plugin hasn't
abbrev pub of_print : PluginKind → ℕ → Option ℕ
of_print Print number = Some number
of_print Memory number = None

-- how many keys a slice has at most
abbrev pub limit_of : PluginConfig → Option ℕ
limit_of config = of_print config.kind config.cache

-- how many seconds a window has
abbrev pub refresh_of : PluginConfig → Option ℕ
refresh_of config = of_print config.kind config.refresh

-- the entries of items with their windows
abbrev pub timed_items : PluginConfig → List Item → List Timed
timed_items config items = map (timed (refresh_of config)) items

-- Of a print plugin, its items are cut by windows and by the limit of keys. All items of a memory plugin are one slice.
abbrev pub slices_in : PluginConfig → List Item → List Slice
slices_in config items = slices_of (limit_of config) (timed_items config items)

-- one purge for each slice of the items, in their order
abbrev pub ArePurgesOf : PluginConfig → List Item → List Purge → Type 0
ArePurgesOf config items purges = OneForEach IsPurgeOf (slices_in config items) purges

-- the texts of purges, one after another
abbrev pub texts_of : PluginConfig → List Purge → List ℕ
texts_of config purges = flat_map (purge_text config.primitives config.layout) purges

-- the texts of the purges of the items' slices, one after another
pub record IsOutputText (config : PluginConfig) (items : List Item) (text : List ℕ) : Type 0 where
  pub purges : List Purge
  pub are : ArePurgesOf config items purges
  pub is : text ≡ texts_of config purges

-- slices have one list of purges, and so items one text
pub record HaveOneOutput : Type 0 where
  pub purges : (slices : List Slice) (some other : List Purge) → OneForEach IsPurgeOf slices some → OneForEach IsPurgeOf slices other → some ≡ other
  pub text : (config : PluginConfig) (items : List Item) (some other : List ℕ) → IsOutputText config items some → IsOutputText config items other → some ≡ other

-- what items count under which key
abbrev pub entries_of : List Item → List Entry
entries_of items = map (λ item. (item.key, item.counts)) items

-- the sums over entries or rows of all keys
abbrev pub totals_of : List Entry → Counts
totals_of [] = nothing
totals_of (entry ∷ entries) = plus entry.1 (totals_of entries)

-- Nothing is lost or made: over the rows of all purges each key has the sums that it has over the items, and so have all keys together.
pub record OutputsConserve : Type 0 where
  pub sums : (config : PluginConfig) (items : List Item) (purges : List Purge) → ArePurgesOf config items purges
      → (key : List Cell) → sums_of (rows_in purges) key ≡ sums_of (entries_of items) key
  pub totals : (config : PluginConfig) (items : List Item) (purges : List Purge) → ArePurgesOf config items purges
      → totals_of (rows_in purges) ≡ totals_of (entries_of items)
