-- Plugins at work, and the entries that they were given.
use Rattle.std.specs.Prelude.{◌≡◌, ◌<◌, ◌+◌, ⊤, ℕ, List, [], ◌∷◌, ◌++◌, slice_index_or, length, map}
use Rattle.acct_types.specs.declared.item.Item.{Item}
use Rattle.config_keys.specs.declared.plugin.PluginConfig.{PluginConfig}
use Rattle.plugin_work.specs.Plugins.{HasTaken, PluginState}
use Rattle.outside_io.specs.States.{SinkState}
use Rattle.collect_core.specs.Due.{Entry, entry_of}

-- a plugin took the items of these entries, and its sink was `start` before them
pub record IsGiven (plugin : PluginConfig) (start : SinkState) (entries : List Entry) (state : PluginState) : Type 0 where
  pub items : List Item
  pub are : map entry_of items ≡ entries
  pub taken : HasTaken plugin start items state

-- the same of all plugins, each with its own entries
abbrev pub AreGiven : List PluginConfig → List SinkState → (PluginConfig → List Entry) → List PluginState → Type 0
AreGiven [] [] entries [] = ⊤
AreGiven (plugin ∷ plugins) (start ∷ starts) entries (state ∷ states) = IsGiven plugin start (entries plugin) state × AreGiven plugins starts entries states
AreGiven plugins starts entries states = ⊥

-- Each of these plugins took the items of its place, whatever it was given before.
pub record Take (before after : List PluginState) (items : ℕ → List Item) : Type 0 where
  pub many : length after ≡ length before
  pub each : (place : ℕ) (d : PluginState) (config : PluginConfig) (start : SinkState) (earlier : List Item) → place < length before
      → HasTaken config start earlier (slice_index_or before place d) → HasTaken config start (earlier ++ items place) (slice_index_or after place d)
  pub taken : (place : ℕ) (d : PluginState) → place < length before → (slice_index_or after place d).taken ≡ (slice_index_or before place d).taken + length (items place)
