-- Plugins at the end of a run.
use Rattle.std.proofs.Common.{◌≡◌, ◌∙◌, [], ◌∷◌, List, Option, ℕ, refl, sym, ap, subst, map}
use Rattle.std.specs.List.{AllZip}
use Rattle.acct_types.specs.declared.cell.Cell.{Cell}
use Rattle.acct_types.specs.declared.flow.Counts.{Counts}
use Rattle.acct_types.specs.declared.item.Item.{Item}
use Rattle.config_keys.specs.declared.plugin.PluginConfig.{PluginConfig}
use Rattle.plugin_cache.specs.Slices.{IsPurgeOf, OneForEach, Timed, slices_of}
use Rattle.plugin_cache.specs.Slices.{timed as timed_item}
use Rattle.plugin_cache.specs.Sums.{sums_of}
use Rattle.plugin_work.specs.Output.{OutputsConserve, entries_of, limit_of, refresh_of, totals_of}
use Rattle.plugin_work.specs.Plugins.{Ends, HasTaken, PluginState}
use Rattle.outside_io.specs.States.{SinkState}
use Rattle.collect_core.specs.Due.{Entry, entry_of}
use Rattle.collect_core.specs.Ends.{EndsPlugin, ForEachPlugin, PluginEnding, counted, timed}
use Rattle.collect_core.specs.Given.{AreGiven, IsGiven}

-- whatever items a plugin took, it ends so
abbrev pub Finishes : PluginState → PluginEnding → Type 0
Finishes state ending = (plugin : PluginConfig) (start : SinkState) (items : List Item) → HasTaken plugin start items state → Ends plugin start items ending.sink ending.end ending.purged

-- items and their entries have the same windows, keys and counts
timed_same : (refresh : Option ℕ) (items : List Item) → map (timed refresh) (map entry_of items) ≡ map (timed_item refresh) items
timed_same refresh [] = refl
timed_same refresh (item ∷ items) = ap (λ (timed : List Timed). timed_item refresh item ∷ timed) (timed_same refresh items)

-- items and their entries have the same keys and counts
counted_same : (items : List Item) → counted (map entry_of items) ≡ entries_of items
counted_same [] = refl
counted_same (item ∷ items) = ap (λ (entries : List (List Cell × Counts)). (item.key, item.counts) ∷ entries) (counted_same items)

-- the end of a plugin that was given entries
plugin_ends : OutputsConserve → (plugin : PluginConfig) (start : SinkState) (entries : List Entry) (state : PluginState) (ending : PluginEnding) → IsGiven plugin start entries state → Finishes state ending → EndsPlugin plugin entries start ending
plugin_ends conserve plugin start entries state ending given finishes =
    let items = given.items in
    let ends = finishes plugin start items given.taken in
    subst (λ (given_entries : List Entry). EndsPlugin plugin given_entries start ending) given.are (record {
      purges = ends.purges;
      are = subst (λ (items : List Timed). OneForEach IsPurgeOf (slices_of (limit_of plugin) items) ends.purges) (sym (timed_same (refresh_of plugin) items)) ends.are;
      written = ends.written;
      purged = ends.sums;
      sums = λ key. conserve.sums plugin items ends.purges ends.are key ∙ ap (λ (rows : List (List Cell × Counts)). sums_of rows key) (sym (counted_same items));
      totals = conserve.totals plugin items ends.purges ends.are ∙ ap totals_of (sym (counted_same items));
    })

-- the ends of all plugins
pub all_end : OutputsConserve → (plugins : List PluginConfig) (starts : List SinkState) (entries : PluginConfig → List Entry) (states : List PluginState) (endings : List PluginEnding)
    → AreGiven plugins starts entries states → AllZip Finishes states endings → ForEachPlugin (λ plugin start ending. EndsPlugin plugin (entries plugin) start ending) plugins starts endings
all_end conserve [] [] entries [] [] given finish = tt
all_end conserve (plugin ∷ plugins) (start ∷ starts) entries (state ∷ states) (ending ∷ endings) given finish =
    (plugin_ends conserve plugin start (entries plugin) state ending given.0 finish.0, all_end conserve plugins starts entries states endings given.1 finish.1)
all_end conserve [] [] entries [] (ending ∷ endings) given finish = absurd finish
all_end conserve (plugin ∷ plugins) (start ∷ starts) entries (state ∷ states) [] given finish = absurd finish
all_end conserve plugins starts entries states endings given finish = absurd given
