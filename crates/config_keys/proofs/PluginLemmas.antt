-- Plugins have names, which differ, and are few.
use Rattle.std.proofs.Common.{◌≡◌, ◌∙◌, ◌<◌, ◌++◌, add-one, append_assoc, drop-cons, get_or, ◌==◌, ◌&&◌, ◌+◌, ◌≤◌, ℕ, Bool, true, false, not, nat_lt, List, [], ◌∷◌, length, take, drop, position, map, refl, sym, ap, subst, arith, Option, Some, None, Result, Ok, Err, option_map}
use Rattle.std.specs.Prelude.{if◌then◌else◌, codes, unwrap_or, option_and_then, IfOk, IfSome}
use borrow.Author.Tests.{ltb-false}
use Rattle.std.specs.List.{list_all}
use Rattle.std.specs.Str.{bytes_eq}
use Rattle.std.proofs.lemmas.Slice.Eq.{bytes_eq-Decides}
use Rattle.std.proofs.lemmas.List.{length-map, map-append}
use Rattle.acct_types.specs.declared.memory.NoMemory.{NoMemory}
use Rattle.config_keys.proofs.NumberLemmas.{both}
use Rattle.config_keys.specs.ConfigViews.{plugin_says}
use Rattle.config_keys.specs.Judging.{plugins_or_none}
use Rattle.config_keys.specs.Lines.{Text, Label, Setting, is_among, is_name, label_at, label_of, members_of, name_at, name_before_bracket}
use Rattle.config_keys.specs.Reading.{PluginSays, behind, lacks_append, named_plugins, plugin_of, plugin_with, plugins_from, value_for, file_key, value_in}
use Rattle.config_keys.specs.Values.{Member, LeftOut, Malformed, Taken, NamedPlugin, are_apart, few_and_apart, has_left_out, labelled_member, left_out_kinds, member_of, names_of, named, onto, plugins_in, plugins_of}
use Rattle.config_keys.specs.declared.fault.ConfigCause.{ConfigCause}
use Rattle.config_keys.specs.declared.fault.ConfigCause.TheVariants.{BadValue, NotInProfile, TooManyPlugins}
use Rattle.config_keys.specs.declared.plugin.PluginConfig.{PluginConfig}
use Rattle.config_keys.specs.ValueViews.{named_view}
use Rattle.config_keys.specs.declared.value.NamedPlugin.{NamedPlugin as ReadPlugin}
use Rattle.config_keys.specs.declared.value.PluginKind.{PluginKind}
use Rattle.config_keys.specs.declared.value.PluginKind.TheVariants.{Print, Memory}

bracket_name : (text : Text) (place : Option ℕ) (name : Text) → name_at text place ≡ Some name → is_name name ≡ true
bracket_name text None name h = cc h
bracket_name text (Some place) name h = by (place + 1 == length text) (is_name (take place text)) refl h
  where
    by : (a b : Bool) → is_name (take place text) ≡ b → (if a && b then Some (take place text) else None) ≡ Some name → is_name name ≡ true
    by true true e h = let same : take place text ≡ name = cc h in ap is_name (sym same) ∙ e
    by true false e h = cc h
    by false b e h = cc h

label_name : (text : Text) (place : Option ℕ) (label : Label) (name : Text) → label_at text place ≡ Some label → label.name ≡ Some name → is_name name ≡ true
label_name text None label name h is =
    let none : None ≡ label.name = ap (λ (l : Option Label). option_and_then (λ x. x.name) l) h in
    let bad : None ≡ Some name = none ∙ is in
    cc bad
label_name text (Some place) label name h is = by (name_before_bracket (drop (place + 1) text)) refl h
  where
    by : (o : Option Text) → name_before_bracket (drop (place + 1) text) ≡ o → option_map (λ n. record { word = take place text; name = Some n }) o ≡ Some label → is_name name ≡ true
    by None e h = cc h
    by (Some found) e h =
        let same : Some found ≡ label.name = ap (λ (l : Option Label). option_and_then (λ x. x.name) l) h in
        bracket_name (drop (place + 1) text) (position (λ octet. octet == 93) (drop (place + 1) text)) name (e ∙ same ∙ is)

-- a plugin's name is a name, where the kind's word is one
taken_name : (kind : PluginKind) (label : Label) (plugin : NamedPlugin) → ((name : Text) → label.name ≡ Some name → is_name name ≡ true) → is_name label.word ≡ true
    → named kind label ≡ Taken plugin → is_name plugin.name ≡ true
taken_name kind label plugin names word h = by label.name refl
  where
    same : unwrap_or label.name label.word ≡ plugin.name
    same = let p : record { kind = kind; name = unwrap_or label.name label.word } ≡ plugin = cc h in ap (λ (x : NamedPlugin). x.name) p

    by : (o : Option Text) → label.name ≡ o → is_name plugin.name ≡ true
    by None e = ap is_name (sym same ∙ ap (λ (o : Option Text). unwrap_or o label.word) e) ∙ word
    by (Some name) e = ap is_name (sym same ∙ ap (λ (o : Option Text). unwrap_or o label.word) e) ∙ names name e

word_is : (word text : Text) → bytes_eq word text ≡ true → is_name text ≡ true → is_name word ≡ true
word_is word text same is = ap is_name ((bytes_eq-Decides word text).0 same) ∙ is

member_name : (text : Text) (plugin : NamedPlugin) → member_of text ≡ Taken plugin → is_name plugin.name ≡ true
member_name text plugin h = by (label_of text) refl h
  where
    kinds : (label : Label) (a b c : Bool) → label_of text ≡ Some label → bytes_eq label.word (codes "print") ≡ a → bytes_eq label.word (codes "memory") ≡ b
        → (if a then named Print label else (if b then named Memory label else (if c then LeftOut else Malformed))) ≡ Taken plugin → is_name plugin.name ≡ true
    kinds label true b c found e f h = taken_name Print label plugin (λ n is. label_name text (position (λ octet. octet == 91) text) label n found is) (word_is label.word (codes "print") e refl) h
    kinds label false true c found e f h = taken_name Memory label plugin (λ n is. label_name text (position (λ octet. octet == 91) text) label n found is) (word_is label.word (codes "memory") f refl) h
    kinds label false false true found e f h = cc h
    kinds label false false false found e f h = cc h

    by : (o : Option Label) → label_of text ≡ o → labelled_member o ≡ Taken plugin → is_name plugin.name ≡ true
    by None e h = cc h
    by (Some label) e h = kinds label (bytes_eq label.word (codes "print")) (bytes_eq label.word (codes "memory")) (is_among left_out_kinds label.word) e refl refl h

members_named : (members : List Text) (plugins : List NamedPlugin) → plugins_in members ≡ Some plugins → list_all (λ p. is_name p.name) plugins ≡ true
members_named [] plugins h = let none : [] ≡ plugins = cc h in ap (list_all (λ p. is_name p.name)) (sym none)
members_named (member ∷ members) plugins h = by (λ rest e. members_named members rest e) (member_of member) (plugins_in members) refl refl h
  where
    by : ((rest : List NamedPlugin) → plugins_in members ≡ Some rest → list_all (λ p. is_name p.name) rest ≡ true) → (m : Member) (more : Option (List NamedPlugin)) → member_of member ≡ m → plugins_in members ≡ more → onto m more ≡ Some plugins → list_all (λ p. is_name p.name) plugins ≡ true
    by kept LeftOut more e f h = cc h
    by kept Malformed more e f h = cc h
    by kept (Taken plugin) None e f h = cc h
    by kept (Taken plugin) (Some rest) e f h =
        let same : plugin ∷ rest ≡ plugins = cc h in
        let first : is_name plugin.name ≡ true = member_name member plugin e in
        let others : list_all (λ p. is_name p.name) rest ≡ true = kept rest f in
        ap (list_all (λ p. is_name p.name)) (sym same) ∙ rw first others

-- Plugins that have names, which differ, and are few.
pub record AreFine (plugins : List NamedPlugin) : Type 0 where
  pub named : list_all (λ p. is_name p.name) plugins ≡ true
  pub apart : are_apart (names_of plugins) ≡ true
  pub few : length plugins ≤ 8

few_are_fine : (members : List Text) (plugins : List NamedPlugin) → few_and_apart (plugins_in members) ≡ Ok plugins → AreFine plugins
few_are_fine members plugins h = by (plugins_in members) refl h
  where
    some : (found : List NamedPlugin) (a b : Bool) → plugins_in members ≡ Some found → are_apart (names_of found) ≡ a → nat_lt 8 (length found) ≡ b
        → (if not a then Err BadValue else (if b then Err TooManyPlugins else Ok found)) ≡ Ok plugins → AreFine plugins
    some found false b e f g h = cc h
    some found true true e f g h = cc h
    some found true false e f g h =
        let same : found ≡ plugins = cc h in
        subst AreFine same (record { named = members_named members found e; apart = f; few = ltb-false 8 (length found) g })

    by : (o : Option (List NamedPlugin)) → plugins_in members ≡ o → few_and_apart o ≡ Ok plugins → AreFine plugins
    by None e h = cc h
    by (Some found) e h = some found (are_apart (names_of found)) (nat_lt 8 (length found)) e refl refl h

pub plugins_are_fine : (value : Text) (plugins : List NamedPlugin) → plugins_of value ≡ Ok plugins → AreFine plugins
plugins_are_fine value plugins h = by (has_left_out (members_of value)) h
  where
    by : (b : Bool) → (if b then Err NotInProfile else few_and_apart (plugins_in (members_of value))) ≡ Ok plugins → AreFine plugins
    by true h = cc h
    by false h = few_are_fine (members_of value) plugins h

pub named_are_fine : (settings : List Setting) (plugins : List NamedPlugin) → Some plugins ≡ named_plugins settings → AreFine plugins
named_are_fine settings plugins h = by (value_in settings (codes "plugins") None) (sym h)
  where
    read : (value : Text) (r : Result (List NamedPlugin) ConfigCause) → plugins_of value ≡ r → plugins_or_none r ≡ Some plugins → AreFine plugins
    read value (Ok found) e h = let same : found ≡ plugins = cc h in plugins_are_fine value plugins (e ∙ ap Ok same)
    read value (Err cause) e h = cc h

    by : (o : Option Text) → option_and_then (λ value. plugins_or_none (plugins_of value)) o ≡ Some plugins → AreFine plugins
    by None h = cc h
    by (Some value) h = read value (plugins_of value) refl h

-- what is said of plugins keeps their names
one_name : (settings : List Setting) (replay : Bool) (plugin : NamedPlugin) (said : PluginSays) → plugin_of settings replay plugin ≡ Some said → said.name ≡ plugin.name
one_name settings replay plugin said h = by (lacks_append plugin.kind (value_for settings (codes "print_output_file_append") plugin.name)) (value_for settings (file_key plugin.kind) plugin.name) h
  where
    by : (b : Bool) (o : Option Text) → (if b then None else option_map (plugin_with settings replay plugin) o) ≡ Some said → said.name ≡ plugin.name
    by true o h = cc h
    by false None h = cc h
    by false (Some file) h = let same : plugin_with settings replay plugin file ≡ said = cc h in ap (λ (x : PluginSays). x.name) (sym same)

all_names : (settings : List Setting) (replay : Bool) (plugins : List NamedPlugin) (said : List PluginSays) → plugins_from settings replay plugins ≡ Some said → map (λ s. s.name) said ≡ names_of plugins
all_names settings replay [] said h = let same : [] ≡ said = cc h in ap (map (λ s. s.name)) (sym same)
all_names settings replay (plugin ∷ plugins) said h = by (λ rest e. all_names settings replay plugins rest e) (plugin_of settings replay plugin) (plugins_from settings replay plugins) refl refl h
  where
    by : ((rest : List PluginSays) → plugins_from settings replay plugins ≡ Some rest → map (λ s. s.name) rest ≡ names_of plugins) → (o : Option PluginSays) (more : Option (List PluginSays)) → plugin_of settings replay plugin ≡ o → plugins_from settings replay plugins ≡ more → behind o more ≡ Some said → map (λ s. s.name) said ≡ plugin.name ∷ names_of plugins
    by names None more e f h = cc h
    by names (Some one) None e f h = cc h
    by names (Some one) (Some rest) e f h =
        let same : one ∷ rest ≡ said = cc h in
        let first : one.name ≡ plugin.name = one_name settings replay plugin one e in
        let others : map (λ s. s.name) rest ≡ names_of plugins = names rest f in
        ap (map (λ s. s.name)) (sym same) ∙ (λ i. first i ∷ others i)

config_names : (configs : List PluginConfig) → map (λ p. p.name) configs ≡ map (λ s. s.name) (map plugin_says configs)
config_names [] = refl
config_names (config ∷ configs) = ap (λ (names : List Text). config.name ∷ names) (config_names configs)

-- configurations of plugins that are fine have their names
pub same_names : (settings : List Setting) (replay : Bool) (plugins : List NamedPlugin) (configs : List PluginConfig) → Some (map plugin_says configs) ≡ plugins_from settings replay plugins
    → map (λ p. p.name) configs ≡ names_of plugins
same_names settings replay plugins configs h = config_names configs ∙ all_names settings replay plugins (map plugin_says configs) (sym h)

pub stay_apart : (settings : List Setting) (replay : Bool) (plugins : List NamedPlugin) (r : Result (Option (List PluginConfig)) NoMemory) → AreFine plugins
    → IfOk r (λ configs. option_map (λ l. map plugin_says l) configs ≡ plugins_from settings replay plugins)
    → IfOk r (λ configs. IfSome configs (λ l. are_apart (map (λ p. p.name) l) ≡ true))
stay_apart settings replay plugins (Err e) fine h = tt
stay_apart settings replay plugins (Ok None) fine h = tt
stay_apart settings replay plugins (Ok (Some configs)) fine h = ap are_apart (same_names settings replay plugins configs h) ∙ fine.apart

pub stay_few : (settings : List Setting) (replay : Bool) (plugins : List NamedPlugin) (r : Result (Option (List PluginConfig)) NoMemory) → AreFine plugins
    → IfOk r (λ configs. option_map (λ l. map plugin_says l) configs ≡ plugins_from settings replay plugins)
    → IfOk r (λ configs. IfSome configs (λ l. length l ≤ 8))
stay_few settings replay plugins (Err e) fine h = tt
stay_few settings replay plugins (Ok None) fine h = tt
stay_few settings replay plugins (Ok (Some configs)) fine h =
    let few = fine.few in
    omega (arith, few, ap length (same_names settings replay plugins configs h), length-map configs (λ (p : PluginConfig). p.name), length-map plugins (λ (p : NamedPlugin). p.name))

put_behind : (settings : List Setting) (replay : Bool) (configs : List PluginConfig) (config : PluginConfig) (more : Option (List PluginSays))
    → option_map (λ m. map plugin_says (configs ++ config ∷ []) ++ m) more ≡ option_map (λ m. map plugin_says configs ++ m) (behind (Some (plugin_says config)) more)
put_behind settings replay configs config None = refl
put_behind settings replay configs config (Some rest) =
    ap Some (ap (λ (l : List PluginSays). l ++ rest) (map-append plugin_says configs (config ∷ [])) ∙ append_assoc (map plugin_says configs) (plugin_says config ∷ []) rest)

-- one more plugin
pub next_plugin : (settings : List Setting) (replay : Bool) (configs new : List PluginConfig) (config : PluginConfig) (plugin : NamedPlugin) (plugins : List NamedPlugin)
    → new ≡ configs ++ config ∷ [] → Some (plugin_says config) ≡ plugin_of settings replay plugin
    → option_map (λ more. map plugin_says new ++ more) (plugins_from settings replay plugins)
    ≡ option_map (λ more. map plugin_says configs ++ more) (plugins_from settings replay (plugin ∷ plugins))
next_plugin settings replay configs new config plugin plugins is said =
    ap (λ (l : List PluginConfig). option_map (λ more. map plugin_says l ++ more) (plugins_from settings replay plugins)) is
    ∙ put_behind settings replay configs config (plugins_from settings replay plugins)
    ∙ ap (λ (o : Option PluginSays). option_map (λ more. map plugin_says configs ++ more) (behind o (plugins_from settings replay plugins))) said

-- the plugins from a place on are that one and those from the next place on
from_place : (plugins : List ReadPlugin) (i : ℕ) (none : ReadPlugin) → i < length plugins → drop i plugins ≡ get_or plugins i none ∷ drop (i + 1) plugins
from_place plugins i none within = rw (add-one, drop-cons plugins i none) refl

pub plugin_at : (settings : List Setting) (replay : Bool) (plugins : List ReadPlugin) (i : ℕ) (none : ReadPlugin) (configs new : List PluginConfig) (config : PluginConfig)
    → i < length plugins → new ≡ configs ++ config ∷ [] → Some (plugin_says config) ≡ plugin_of settings replay (named_view (get_or plugins i none))
    → option_map (λ more. map plugin_says new ++ more) (plugins_from settings replay (map named_view (drop (i + 1) plugins)))
    ≡ option_map (λ more. map plugin_says configs ++ more) (plugins_from settings replay (map named_view (drop i plugins)))
plugin_at settings replay plugins i none configs new config within is said =
    next_plugin settings replay configs new config (named_view (get_or plugins i none)) (map named_view (drop (i + 1) plugins)) is said
    ∙ ap (λ (l : List ReadPlugin). option_map (λ more. map plugin_says configs ++ more) (plugins_from settings replay (map named_view l))) (sym (from_place plugins i none within))

pub named_at : (plugins : List ReadPlugin) (i : ℕ) (none : ReadPlugin) → i < length plugins → list_all (λ p. is_name p.name) (map named_view (drop i plugins)) ≡ true
    → list_all (λ p. is_name p.name) (map named_view (drop (i + 1) plugins)) ≡ true
named_at plugins i none within h =
    (both (is_name (named_view (get_or plugins i none)).name) (list_all (λ p. is_name p.name) (map named_view (drop (i + 1) plugins)))
    (ap (λ (l : List ReadPlugin). list_all (λ p. is_name p.name) (map named_view l)) (sym (from_place plugins i none within)) ∙ h)).1
