-- What a plugin has taken, with one item more and at the end.
use Rattle.std.proofs.Common.{suc, Option, Some, None, ◌≡◌, ◌≢◌, ◌∙◌, ◌+◌, ◌*◌, ◌^◌, ◌∷◌, ◌++◌, [], ℕ, List, Bool, true, false, refl, sym, ap, ap₂, arith, append_assoc, subst}
use Rattle.std.specs.Prelude.{if◌then◌else◌}
use Rattle.std.specs.Cmp.{IsTotalOrder}
use Rattle.acct_types.specs.Cells.{key_cmp}
use Rattle.acct_types.specs.Counts.{nothing, plus}
use Rattle.acct_types.specs.declared.choice.Layout.{Layout}
use Rattle.acct_types.specs.declared.flow.Counts.{Counts}
use Rattle.acct_types.specs.declared.item.Item.{Item}
use Rattle.acct_types.specs.declared.item.Purge.{Purge}
use Rattle.acct_types.specs.declared.primitives.Primitives.{Primitives}
use Rattle.out_text.specs.Purges.{purge_text}
use Rattle.config_keys.specs.declared.plugin.PluginConfig.{PluginConfig}
use Rattle.outside_io.specs.declared.ends.OutEnd.{OutEnd}
use Rattle.outside_io.specs.declared.ends.OutEnd.TheVariants.{Whole, Failed, Memory}
use Rattle.plugin_cache.specs.Slices.{AnswersEnd, AnswersEntry, CacheState, FewItemsFit, IsAtMost, IsLetGo, OneForEach, Slice, SlicesArePurged, SumUpTo, Timed, after, completes, fresh, is_empty, let_go, timed}
use Rattle.plugin_work.specs.Output.{ArePurgesOf, OutputsConserve, entries_of, limit_of, refresh_of, texts_of, timed_items, totals_of}
use Rattle.plugin_work.specs.Plugins.{Ends, HasTaken, IsFew, IsLastWritten, PluginState, if_whole, passed_over}
use Rattle.plugin_work.specs.Sinks.{IsWritten}
use Rattle.outside_io.specs.States.{SinkState}
use Rattle.plugin_work.proofs.OutputLemmas.{append_none, each_joined, none_written, one_longer, texts_joined, timed_all, timed_more, written_further, written_joined}
use Rattle.plugin_work.proofs.OrderLemmas.{purges_there}
use Rattle.plugin_work.proofs.TotalLemmas.{totals_more}

-- the cache of a plugin that took no item
abbrev pub first_cache : PluginConfig → CacheState
first_cache config = fresh (limit_of config) (refresh_of config)

-- an item more, with which nothing is done
pub passed : (config : PluginConfig) (start : SinkState) (items : List Item) (item : Item) (plugin : PluginState) → plugin.end ≢ Whole → HasTaken config start items plugin → HasTaken config start (items ++ item ∷ []) (passed_over plugin)
passed config start items item plugin apart had = record {
  primitives = had.primitives;
  layout = had.layout;
  refresh = had.refresh;
  taken = ap (λ (n : ℕ). n + 1) had.taken ∙ sym (one_longer items item);
  slices = had.slices;
  first = λ more.
      let further = had.first (timed (refresh_of config) item ∷ more) in
      (further.0, ap (let_go (first_cache config)) (timed_more (refresh_of config) items item more) ∙ further.1);
  purges = had.purges;
  each = had.each;
  written = had.written;
  goes_on = λ whole. absurd (apart whole);
  counted = λ whole. absurd (apart whole);
}

-- What an item does to a plugin whose output is whole: these slices are purged.
pub record Moves (config : PluginConfig) (item : Item) (old new : PluginState) (slices : List Slice) (purges : List Purge) : Type 0 where
  pub primitives : new.primitives ≡ old.primitives
  pub layout : new.layout ≡ old.layout
  pub refresh : new.cache.refresh ≡ old.cache.refresh
  pub taken : new.taken ≡ old.taken + 1
  pub first : (more : List Timed) → (others : List Slice) × (let_go old.cache (timed (refresh_of config) item ∷ more) ≡ slices ++ others)
  pub each : OneForEach IsLetGo slices purges
  pub written : IsWritten (texts_of config purges) new.end old.sink new.sink
  pub goes_on : new.end ≡ Whole → (more : List Timed) → let_go old.cache (timed (refresh_of config) item ∷ more) ≡ slices ++ let_go new.cache more
  pub counted : new.end ≡ Whole → new.counted ≡ plus old.counted item.counts

pub moved : (config : PluginConfig) (start : SinkState) (items : List Item) (item : Item) (old new : PluginState) (slices : List Slice) (purges : List Purge)
    → old.end ≡ Whole → Moves config item old new slices purges → HasTaken config start items old → HasTaken config start (items ++ item ∷ []) new
moved config start items item old new slices purges whole moves had =
    let next : Timed = timed (refresh_of config) item in
    let before : (more : List Timed) → let_go (first_cache config) (timed_items config (items ++ item ∷ []) ++ more) ≡ had.slices ++ let_go old.cache (next ∷ more) =
    λ more. ap (let_go (first_cache config)) (timed_more (refresh_of config) items item more) ∙ had.goes_on whole (next ∷ more) in
    record {
      primitives = moves.primitives ∙ had.primitives;
      layout = moves.layout ∙ had.layout;
      refresh = moves.refresh ∙ had.refresh;
      taken = moves.taken ∙ ap (λ (n : ℕ). n + 1) had.taken ∙ sym (one_longer items item);
      slices = had.slices ++ slices;
      first = λ more.
          let further = moves.first more in
          (further.0, before more ∙ ap (λ (xs : List Slice). had.slices ++ xs) further.1 ∙ sym (append_assoc had.slices slices further.0));
      purges = had.purges ++ purges;
      each = each_joined IsLetGo had.slices slices had.purges purges had.each moves.each;
      written = subst (λ (text : List ℕ). IsWritten text new.end start new.sink) (sym (texts_joined config had.purges purges))
          (written_joined (texts_of config had.purges) (texts_of config purges) new.end start old.sink new.sink
          (subst (λ (end : OutEnd). IsWritten (texts_of config had.purges) end start old.sink) whole had.written) moves.written);
      goes_on = λ now more.
          before more ∙ ap (λ (xs : List Slice). had.slices ++ xs) (moves.goes_on now more) ∙ sym (append_assoc had.slices slices (let_go new.cache more));
      counted = λ now. moves.counted now ∙ ap (λ (counts : Counts). plus counts item.counts) (had.counted whole) ∙ sym (totals_more items item);
    }

-- an entry that completes no slice
pub goes_with : (cache : CacheState) (next : Timed) (more : List Timed) → completes cache next.0 next.1.0 ≡ false → let_go cache (next ∷ more) ≡ let_go (after cache next) more
goes_with cache next more with_it =
    ap (λ (b : Bool). if b then (cache.window, cache.rows) ∷ let_go (after cache next) more else let_go (after cache next) more) with_it

-- an entry that completes a slice
pub comes_after : (cache : CacheState) (next : Timed) (more : List Timed) → completes cache next.0 next.1.0 ≡ true → let_go cache (next ∷ more) ≡ (cache.window, cache.rows) ∷ let_go (after cache next) more
comes_after cache next more cut =
    ap (λ (b : Bool). if b then (cache.window, cache.rows) ∷ let_go (after cache next) more else let_go (after cache next) more) cut

-- ---- the end

none_for_none : (purges : List Purge) → OneForEach IsLetGo [] purges → purges ≡ []
none_for_none [] each = refl
none_for_none (purge ∷ purges) each = absurd each

none_left : (slices : List Slice) (purges : List Purge) → slices ≡ [] → OneForEach IsLetGo slices purges → purges ≡ []
none_left slices purges none each = none_for_none purges (subst (λ (xs : List Slice). OneForEach IsLetGo xs purges) none each)

-- what is written of some slices, where the others aren't purged
ends_so : IsTotalOrder key_cmp → SlicesArePurged → OutputsConserve → (config : PluginConfig) (start now : SinkState) (items : List Item) (end : OutEnd) (counted : Counts) (slices others : List Slice) (purges : List Purge)
    → let_go (first_cache config) (timed_items config items) ≡ slices ++ others → OneForEach IsLetGo slices purges → IsWritten (texts_of config purges) end start now
    → (end ≡ Whole → others ≡ []) → (end ≡ Whole → counted ≡ totals_of (entries_of items)) → Ends config start items now end (if_whole end counted)
ends_so total purged conserve config start now items end counted slices others purges all each written none sums =
    let more = purges_there total others in
    let are : ArePurgesOf config items (purges ++ more.0) =
    purged (limit_of config) (refresh_of config) (timed_items config items) (purges ++ more.0)
    (subst (λ (xs : List Slice). OneForEach IsLetGo xs (purges ++ more.0)) (sym all) (each_joined IsLetGo slices others purges more.0 each more.1)) in
    record {
      purges = purges ++ more.0;
      are = are;
      written = subst (λ (text : List ℕ). IsWritten text end start now) (sym (texts_joined config purges more.0))
          (written_further (texts_of config purges) (texts_of config more.0) end start now
          (λ whole. ap (texts_of config) (none_left others more.0 (none whole) more.1)) written);
      sums = told end (λ whole. sums whole ∙ sym (conserve.totals config items (purges ++ more.0) are));
    }
  where
    told : (end : OutEnd) {a b : Counts} → (end ≡ Whole → a ≡ b) → if_whole end a ≡ if_whole end b
    told Whole same = same refl
    told Failed same = refl
    told Memory same = refl

-- the end of a plugin whose output isn't whole
pub ends_before : IsTotalOrder key_cmp → SlicesArePurged → OutputsConserve → (config : PluginConfig) (start : SinkState) (items : List Item) (plugin : PluginState) (counted : Counts)
    → plugin.end ≢ Whole → HasTaken config start items plugin → Ends config start items plugin.sink plugin.end (if_whole plugin.end counted)
ends_before total purged conserve config start items plugin counted apart had =
    let others = had.first [] in
    ends_so total purged conserve config start plugin.sink items plugin.end counted had.slices others.0 had.purges
    (ap (let_go (first_cache config)) (sym (timed_all (refresh_of config) items)) ∙ others.1) had.each had.written
    (λ whole. absurd (apart whole)) (λ whole. absurd (apart whole))

-- the end of a plugin whose output was whole
pub ends_then : IsTotalOrder key_cmp → SlicesArePurged → OutputsConserve → (config : PluginConfig) (start : SinkState) (items : List Item) (plugin : PluginState) (end : OutEnd) (now : SinkState)
    → plugin.end ≡ Whole → HasTaken config start items plugin → IsLastWritten config plugin.cache end plugin.sink now → Ends config start items now end (if_whole end plugin.counted)
ends_then total purged conserve config start items plugin end now whole had last =
    ends_so total purged conserve config start now items end plugin.counted (had.slices ++ last.slices) last.others (had.purges ++ last.purges)
    (ap (let_go (first_cache config)) (sym (timed_all (refresh_of config) items)) ∙ had.goes_on whole []
    ∙ ap (λ (xs : List Slice). had.slices ++ xs) last.left ∙ sym (append_assoc had.slices last.slices last.others))
    (each_joined IsLetGo had.slices last.slices had.purges last.purges had.each last.each)
    (subst (λ (text : List ℕ). IsWritten text end start now) (sym (texts_joined config had.purges last.purges))
    (written_joined (texts_of config had.purges) (texts_of config last.purges) end start plugin.sink now
    (subst (λ (before : OutEnd). IsWritten (texts_of config had.purges) before start plugin.sink) whole had.written) last.written))
    last.all (λ _. had.counted whole)

-- nothing is purged at the end
pub none_last : (config : PluginConfig) (cache : CacheState) (end : OutEnd) (sink : SinkState) → (end ≡ Whole → is_empty cache.rows ≡ true) → end ≢ Failed → IsLastWritten config cache end sink sink
none_last config cache end sink empty apart = record {
  slices = [];
  others = let_go cache [];
  left = refl;
  purges = [];
  each = tt;
  written = none_written [] end sink (λ _. refl) apart;
  all = λ whole. ap (λ (b : Bool). if b then [] else (cache.window, cache.rows) ∷ []) (empty whole);
}

-- no answer says that nothing is left
pub nothing_left : (cache : CacheState) (answer : Option Purge) → ((purge : Purge) → answer ≢ Some purge) → AnswersEnd cache answer → is_empty cache.rows ≡ true
nothing_left cache None apart answers = answers
nothing_left cache (Some purge) apart answers = absurd (apart purge refl)

-- the last slice is purged
pub one_last : (config : PluginConfig) (cache : CacheState) (purge : Purge) (end : OutEnd) (before now : SinkState)
    → (is_empty cache.rows ≡ false) × IsLetGo (cache.window, cache.rows) purge → IsWritten (texts_of config (purge ∷ [])) end before now → IsLastWritten config cache end before now
one_last config cache purge end before now is written = record {
  slices = (cache.window, cache.rows) ∷ [];
  others = [];
  left = ap (λ (b : Bool). if b then [] else (cache.window, cache.rows) ∷ []) is.0;
  purges = purge ∷ [];
  each = (is.1, tt);
  written = written;
  all = λ _. refl;
}

-- the text of one purge is that of a list of it alone
pub one_text : (config : PluginConfig) (primitives : Primitives) (layout : Layout) (purge : Purge) (end : OutEnd) (before now : SinkState)
    → primitives ≡ config.primitives → layout ≡ config.layout → IsWritten (purge_text primitives layout purge) end before now → IsWritten (texts_of config (purge ∷ [])) end before now
one_text config primitives layout purge end before now same_primitives same_layout written =
    subst (λ (text : List ℕ). IsWritten text end before now)
    (ap₂ (λ (p : Primitives) (l : Layout). purge_text p l purge) same_primitives same_layout ∙ sym (append_none (purge_text config.primitives config.layout purge))) written

-- no answer says that no slice is complete
pub none_complete : (cache : CacheState) (next : Timed) (answer : Option Purge) → ((purge : Purge) → answer ≢ Some purge) → AnswersEntry cache next answer → completes cache next.0 next.1.0 ≡ false
none_complete cache next None apart answers = answers
none_complete cache next (Some purge) apart answers = absurd (apart purge refl)

-- an item for which there is no memory
pub without_memory : (config : PluginConfig) (start : SinkState) (items : List Item) (item : Item) (old new : PluginState) → old.end ≡ Whole → new.primitives ≡ old.primitives → new.layout ≡ old.layout → new.cache ≡ old.cache
    → new.sink ≡ old.sink → new.end ≡ Memory → new.taken ≡ old.taken + 1 → HasTaken config start items old → HasTaken config start (items ++ item ∷ []) new
without_memory config start items item old new whole primitives layout cache sink end taken had =
    let apart : new.end ≢ Whole = λ now. let e : Memory ≡ Whole = sym end ∙ now in cc e in
    let unfailed : new.end ≢ Failed = λ now. let e : Memory ≡ Failed = sym end ∙ now in cc e in
    let moves : Moves config item old new [] [] = record {
      primitives = primitives;
      layout = layout;
      refresh = ap (λ (state : CacheState). state.refresh) cache;
      taken = taken;
      first = λ more. (let_go old.cache (timed (refresh_of config) item ∷ more), refl);
      each = tt;
      written = subst (λ (now : SinkState). IsWritten [] new.end old.sink now) (sym sink) (none_written [] new.end old.sink (λ _. refl) unfailed);
      goes_on = λ now. absurd (apart now);
      counted = λ now. absurd (apart now);
    } in
    moved config start items item old new [] [] whole moves had

-- an item that goes with the slice
pub goes_along : (config : PluginConfig) (start : SinkState) (items : List Item) (item : Item) (old new : PluginState) → old.end ≡ Whole → new.primitives ≡ old.primitives → new.layout ≡ old.layout
    → completes old.cache (timed old.cache.refresh item).0 item.key ≡ false → new.cache ≡ after old.cache (timed old.cache.refresh item) → new.sink ≡ old.sink → new.end ≡ old.end → new.taken ≡ old.taken + 1
    → new.counted ≡ plus old.counted item.counts → HasTaken config start items old → HasTaken config start (items ++ item ∷ []) new
goes_along config start items item old new whole primitives layout with_it cache sink end taken counted had =
    let unfailed : new.end ≢ Failed = λ now. let e : Whole ≡ Failed = sym whole ∙ sym end ∙ now in cc e in
    let goes : (more : List Timed) → let_go old.cache (timed (refresh_of config) item ∷ more) ≡ let_go new.cache more =
    λ more.
    ap (λ (refresh : Option ℕ). let_go old.cache (timed refresh item ∷ more)) (sym had.refresh)
    ∙ goes_with old.cache (timed old.cache.refresh item) more with_it
    ∙ ap (λ (state : CacheState). let_go state more) (sym cache) in
    let moves : Moves config item old new [] [] = record {
      primitives = primitives;
      layout = layout;
      refresh = ap (λ (state : CacheState). state.refresh) cache;
      taken = taken;
      first = λ more. (let_go new.cache more, goes more);
      each = tt;
      written = subst (λ (now : SinkState). IsWritten [] new.end old.sink now) (sym sink) (none_written [] new.end old.sink (λ _. refl) unfailed);
      goes_on = λ _ more. goes more;
      counted = λ _. counted;
    } in
    moved config start items item old new [] [] whole moves had

-- an item that completes the slice
pub comes_next : (config : PluginConfig) (start : SinkState) (items : List Item) (item : Item) (old new : PluginState) (purge : Purge) → old.end ≡ Whole → new.primitives ≡ old.primitives → new.layout ≡ old.layout
    → (completes old.cache (timed old.cache.refresh item).0 item.key ≡ true) × IsLetGo (old.cache.window, old.cache.rows) purge → new.cache ≡ after old.cache (timed old.cache.refresh item)
    → IsWritten (purge_text old.primitives old.layout purge) new.end old.sink new.sink → new.taken ≡ old.taken + 1
    → new.counted ≡ plus old.counted item.counts → HasTaken config start items old → HasTaken config start (items ++ item ∷ []) new
comes_next config start items item old new purge whole primitives layout cut cache written taken counted had =
    let slice : Slice = (old.cache.window, old.cache.rows) in
    let goes : (more : List Timed) → let_go old.cache (timed (refresh_of config) item ∷ more) ≡ slice ∷ let_go new.cache more =
    λ more.
    ap (λ (refresh : Option ℕ). let_go old.cache (timed refresh item ∷ more)) (sym had.refresh)
    ∙ comes_after old.cache (timed old.cache.refresh item) more cut.0
    ∙ ap (λ (state : CacheState). slice ∷ let_go state more) (sym cache) in
    let moves : Moves config item old new (slice ∷ []) (purge ∷ []) = record {
      primitives = primitives;
      layout = layout;
      refresh = ap (λ (state : CacheState). state.refresh) cache;
      taken = taken;
      first = λ more. (let_go new.cache more, goes more);
      each = (cut.1, tt);
      written = one_text config old.primitives old.layout purge new.end old.sink new.sink had.primitives had.layout written;
      goes_on = λ _ more. goes more;
      counted = λ _. counted;
    } in
    moved config start items item old new (slice ∷ []) (purge ∷ []) whole moves had

-- few items, and one more
pub few_more : FewItemsFit → (cache now : CacheState) (item : Item) (taken : ℕ) (counted total : Counts) → IsFew taken cache.rows counted → now ≡ after cache (timed cache.refresh item) → total ≡ plus counted item.counts → IsFew (taken + 1) now.rows total
few_more law cache now item taken counted total few is sum =
    let next : suc taken ≡ taken + 1 = omega arith in
    let rows : SumUpTo (suc taken) (after cache (timed cache.refresh item)).rows = law.one cache (timed cache.refresh item) taken few.sums item.small in
    record {
      sums = subst (λ (n : ℕ). SumUpTo n now.rows) next (subst (λ (state : CacheState). SumUpTo (suc taken) state.rows) (sym is) rows);
      below = subst (λ (counts : Counts). IsAtMost ((taken + 1) * 2 ^ 96) counts) (sym sum)
          (omega (arith, few.below.0, item.small.0), omega (arith, few.below.1, item.small.1), omega (arith, few.below.2, item.small.2));
    }

-- no item was taken
pub none_taken : (config : PluginConfig) (sink : SinkState) (cache : CacheState) (counted : Counts) → cache ≡ first_cache config → counted ≡ nothing
    → HasTaken config sink [] (record { primitives = config.primitives; layout = config.layout; cache = cache; sink = sink; end = Whole; taken = 0; counted = counted })
none_taken config sink cache counted fresh_cache none = record {
  primitives = refl;
  layout = refl;
  refresh = ap (λ (state : CacheState). state.refresh) fresh_cache;
  taken = refl;
  slices = [];
  first = λ more. (let_go (first_cache config) more, refl);
  purges = [];
  each = tt;
  written = none_written [] Whole sink (λ _. refl) (λ e. cc e);
  goes_on = λ _ more. ap (λ (state : CacheState). let_go state more) (sym fresh_cache);
  counted = λ _. none;
}

-- the end of a plugin
pub finished : IsTotalOrder key_cmp → SlicesArePurged → OutputsConserve → (config : PluginConfig) (start : SinkState) (items : List Item) (plugin : PluginState) (end : OutEnd) (now : SinkState)
    → (plugin.end ≡ Whole → IsLastWritten config plugin.cache end plugin.sink now) → (plugin.end ≢ Whole → end ≡ plugin.end) → (plugin.end ≢ Whole → now ≡ plugin.sink)
    → HasTaken config start items plugin → Ends config start items now end (if_whole end plugin.counted)
finished total purged conserve config start items plugin end now last same_end same_sink had = by plugin.end refl
  where
    before : plugin.end ≢ Whole → Ends config start items now end (if_whole end plugin.counted)
    before apart =
        subst (λ (e : OutEnd). Ends config start items now e (if_whole e plugin.counted)) (sym (same_end apart))
        (subst (λ (sink : SinkState). Ends config start items sink plugin.end (if_whole plugin.end plugin.counted)) (sym (same_sink apart))
        (ends_before total purged conserve config start items plugin plugin.counted apart had))

    by : (e : OutEnd) → plugin.end ≡ e → Ends config start items now end (if_whole end plugin.counted)
    by Whole is = ends_then total purged conserve config start items plugin end now is had (last is)
    by Failed is = before (λ whole. let e : Failed ≡ Whole = sym is ∙ whole in cc e)
    by Memory is = before (λ whole. let e : Memory ≡ Whole = sym is ∙ whole in cc e)
