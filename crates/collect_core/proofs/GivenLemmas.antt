-- Plugins that are given items by their numbers.
use Rattle.std.proofs.Common.{◌≡◌, ◌≢◌, ◌∙◌, ◌+◌, ◌<◌, ◌≤◌, ◌∷◌, ◌++◌, [], ℕ, suc, Bool, true, false, nat_eq, List, append_assoc, append-nil, arith, ap, ap₂, get_or, get_or-set_other, length, length-append, map, refl, subst, sym}
use Rattle.std.specs.Prelude.{Some, ◌==◌, if◌then◌else◌, slice_get}
use Rattle.std.proofs.Math.ListN.{set}
use Rattle.std.proofs.lemmas.Bool.{eq-eqb, eqb-false, eqb-true, ne_eqb}
use Rattle.std.proofs.lemmas.Grind.{get_or-set_at}
use Rattle.std.proofs.lemmas.List.{get_or_default, length-set, map-append}
use Rattle.acct_types.specs.declared.item.Item.{Item}
use Rattle.config_keys.specs.declared.plugin.PluginConfig.{PluginConfig}
use Rattle.plugin_work.specs.Plugins.{HasTaken, PluginState}
use Rattle.outside_io.specs.States.{SinkState}
use Rattle.collect_core.specs.Due.{Entry, entry_of}
use Rattle.collect_core.specs.Given.{AreGiven, Take}
use Rattle.collect_core.specs.Loads.{given_to}
use Rattle.collect_core.proofs.LoadLemmas.{given_append, given_one}

-- the same items, said otherwise
take_so : (before after : List PluginState) (some other : ℕ → List Item) → ((place : ℕ) → some place ≡ other place) → Take before after some → Take before after other
take_so before after some other same taken = let path : some ≡ other = λ i place. same place i in subst (λ (items : ℕ → List Item). Take before after items) path taken

-- nothing is given
pub take_none : (states : List PluginState) → Take states states (λ _. [])
take_none states = record {
  many = refl;
  each = λ place d config start earlier within had. subst (λ (items : List Item). HasTaken config start items (get_or states place d)) (sym (append-nil earlier)) had;
  taken = λ place d within. omega arith;
}

-- one item after others
take_both : (before between after : List PluginState) (some more : ℕ → List Item) → Take before between some → Take between after more → Take before after (λ place. some place ++ more place)
take_both before between after some more first next = record {
  many = next.many ∙ first.many;
  each = λ place d config start earlier within had.
      subst (λ (items : List Item). HasTaken config start items (get_or after place d)) (append_assoc earlier (some place) (more place))
      (next.each place d config start (earlier ++ some place) (omega (arith, within, first.many)) (first.each place d config start earlier within had));
  taken = λ place d within. omega (arith, first.taken place d within, next.taken place d (omega (arith, within, first.many)), length-append (some place) (more place));
}

pub take_more : (before between after : List PluginState) (loads : List (ℕ × Item)) (load : ℕ × Item) → Take before between (λ place. given_to place loads)
    → Take between after (λ place. if load.0 == place then load.1 ∷ [] else []) → Take before after (λ place. given_to place (loads ++ load ∷ []))
take_more before between after loads load first next =
    take_so before after (λ place. given_to place loads ++ (if load.0 == place then load.1 ∷ [] else [])) (λ place. given_to place (loads ++ load ∷ []))
    (λ place. sym (given_append place loads (load ∷ []) ∙ ap (λ (items : List Item). given_to place loads ++ items) (given_one place load)))
    (take_both before between after (λ place. given_to place loads) (λ place. if load.0 == place then load.1 ∷ [] else []) first next)

-- a number beyond the plugins
pub take_beyond : (states : List PluginState) (number : ℕ) (item : Item) → length states ≤ number → Take states states (λ place. if number == place then item ∷ [] else [])
take_beyond states number item beyond = record {
  many = refl;
  each = λ place d config start earlier within had.
      subst (λ (items : List Item). HasTaken config start items (get_or states place d)) (sym (append-nil earlier) ∙ ap (λ (items : List Item). earlier ++ items) (sym (none place within))) had;
  taken = λ place d within. omega (arith, ap (λ (items : List Item). length items) (none place within));
}
  where
    none : (place : ℕ) → place < length states → (if number == place then item ∷ [] else []) ≡ []
    none place within = ap (λ (b : Bool). if b then item ∷ [] else []) (ne_eqb number place (λ same. omega (arith, same, beyond, within)))

-- the plugin with the number takes the item
pub take_one : (states : List PluginState) (number : ℕ) (item : Item) (new d : PluginState) → number < length states → new.taken ≡ (get_or states number d).taken + 1
    → ((config : PluginConfig) (start : SinkState) (items : List Item) → HasTaken config start items (get_or states number d) → HasTaken config start (items ++ item ∷ []) new)
    → Take states (set states number new) (λ place. if number == place then item ∷ [] else [])
take_one states number item new d here more takes = record {
  many = length-set states number new;
  each = λ place e config start earlier within had. each place e config start earlier within had (nat_eq number place) refl;
  taken = λ place e within. taken place e within (nat_eq number place) refl;
}
  where
    old : (place : ℕ) (e : PluginState) → number ≡ place → get_or states place e ≡ get_or states number d
    old place e at = ap (λ (n : ℕ). get_or states n e) (sym at) ∙ get_or_default states number e d here

    now : (place : ℕ) (e : PluginState) → number ≡ place → get_or (set states number new) place e ≡ new
    now place e at = get_or-set_at states number place new e (sym at) here

    each : (place : ℕ) (e : PluginState) (config : PluginConfig) (start : SinkState) (earlier : List Item) → place < length states → HasTaken config start earlier (get_or states place e)
        → (b : Bool) → nat_eq number place ≡ b → HasTaken config start (earlier ++ (if b then item ∷ [] else [])) (get_or (set states number new) place e)
    each place e config start earlier within had true is =
        let at : number ≡ place = eqb-true number place is in
        subst (λ (s : PluginState). HasTaken config start (earlier ++ item ∷ []) s) (sym (now place e at)) (takes config start earlier (subst (λ (s : PluginState). HasTaken config start earlier s) (old place e at) had))
    each place e config start earlier within had false is =
        let apart : place ≢ number = λ same. eqb-false number place is (sym same) in
        subst (λ (s : PluginState). HasTaken config start (earlier ++ []) s) (sym (get_or-set_other states number place new e apart))
        (subst (λ (items : List Item). HasTaken config start items (get_or states place e)) (sym (append-nil earlier)) had)

    taken : (place : ℕ) (e : PluginState) → place < length states → (b : Bool) → nat_eq number place ≡ b
        → (get_or (set states number new) place e).taken ≡ (get_or states place e).taken + length (if b then item ∷ [] else [])
    taken place e within true is =
        let at : number ≡ place = eqb-true number place is in
        ap (λ (s : PluginState). s.taken) (now place e at) ∙ more ∙ ap (λ (s : PluginState). s.taken + 1) (sym (old place e at))
    taken place e within false is =
        let apart : place ≢ number = λ same. eqb-false number place is (sym same) in
        omega (arith, ap (λ (s : PluginState). s.taken) (get_or-set_other states number place new e apart))

-- there is room for one item more
pub room_for_one : (states between : List PluginState) (all yielded rest : List (ℕ × Item)) (load : ℕ × Item) (most : ℕ) (d : PluginState)
    → ((place : ℕ) (e : PluginState) → place < length states → (get_or states place e).taken + length (given_to place all) ≤ most) → Take states between (λ place. given_to place yielded)
    → (yielded ++ load ∷ []) ++ rest ≡ all → load.0 < length between → (get_or between load.0 d).taken < most
room_for_one states between all yielded rest load most d room so_far is here =
    let n = load.0 in
    let within : n < length states = omega (arith, here, so_far.many) in
    let one : given_to n (load ∷ []) ≡ load.1 ∷ [] = given_one n load ∙ ap (λ (b : Bool). if b then load.1 ∷ [] else []) (eq-eqb n n refl) in
    omega (
      arith,
      room n d within,
      so_far.taken n d within,
      ap (λ (loads : List (ℕ × Item)). length (given_to n loads)) is,
      ap (λ (items : List Item). length items) (given_append n (yielded ++ load ∷ []) rest),
      length-append (given_to n (yielded ++ load ∷ [])) (given_to n rest),
      ap (λ (items : List Item). length items) (given_append n yielded (load ∷ [])),
      length-append (given_to n yielded) (given_to n (load ∷ [])),
      ap (λ (items : List Item). length items) one,
    )

-- plugins that took the items of more entries are given these
pub all_given : (plugins : List PluginConfig) (starts : List SinkState) (earlier more : PluginConfig → List Entry) (items : ℕ → List Item) (old new : List PluginState) → Take old new items
    → ((place : ℕ) (plugin : PluginConfig) → slice_get plugins place ≡ Some plugin → map entry_of (items place) ≡ more plugin) → AreGiven plugins starts earlier old
    → AreGiven plugins starts (λ plugin. earlier plugin ++ more plugin) new
all_given [] [] earlier more items [] [] taken are given = tt
all_given [] [] earlier more items [] (state ∷ new) taken are given = absurd (omega (arith, taken.many))
all_given (plugin ∷ plugins) (start ∷ starts) earlier more items (before ∷ old) [] taken are given = absurd (omega (arith, taken.many))
all_given (plugin ∷ plugins) (start ∷ starts) earlier more items (before ∷ old) (state ∷ new) taken are given = (
  record {
    items = given.0.items ++ items 0;
    are = map-append entry_of given.0.items (items 0) ∙ ap₂ (λ (first next : List Entry). first ++ next) given.0.are (are 0 plugin refl);
    taken = taken.each 0 before plugin start given.0.items (omega arith) given.0.taken;
  },
  all_given plugins starts earlier more (λ place. items (suc place)) old new
      (record {
        many = omega (arith, taken.many);
        each = λ place d config from items_before within had. taken.each (suc place) d config from items_before (omega (arith, within)) had;
        taken = λ place d within. taken.taken (suc place) d (omega (arith, within));
      })
      (λ place p there. are (suc place) p there) given.1,
)
all_given plugins starts earlier more items old new taken are given = absurd given
