-- Plugins at the start of a run.
use Rattle.std.proofs.Common.{◌≡◌, ◌⊎◌, inl, inr, ◌∙◌, ◌+◌, ◌∷◌, ◌++◌, [], List, arith, ap, append_assoc, append-nil, length, length-append, map, refl, subst, sym}
use Rattle.std.proofs.lemmas.List.{length-map, map-append, nil_from_length}
use Rattle.config_keys.specs.declared.plugin.PluginConfig.{PluginConfig}
use Rattle.plugin_work.specs.Plugins.{HasTaken, PluginState}
use Rattle.outside_io.specs.States.{SinkState}
use Rattle.collect_core.specs.Due.{Entry}
use Rattle.collect_core.specs.Given.{AreGiven, IsGiven}

-- one is taken of those that are left
pub one_less : {X Y : Type 0} (shown : X → Y) (yielded : List X) (x : X) (left rest all : List Y) → left ≡ shown x ∷ rest → map shown yielded ++ left ≡ all → map shown (yielded ++ x ∷ []) ++ rest ≡ all
one_less {X} {Y} shown yielded x left rest all first so_far =
    ap (λ (ys : List Y). ys ++ rest) (map-append shown yielded (x ∷ [])) ∙ append_assoc (map shown yielded) (shown x ∷ []) rest
    ∙ ap (λ (ys : List Y). map shown yielded ++ ys) (sym first) ∙ so_far

-- one plugin more, behind the others
plugin_added : (plugins : List PluginConfig) (starts : List SinkState) (entries : PluginConfig → List Entry) (states : List PluginState) (plugin : PluginConfig) (start : SinkState) (state : PluginState)
    → AreGiven plugins starts entries states → IsGiven plugin start (entries plugin) state → AreGiven (plugins ++ plugin ∷ []) (starts ++ start ∷ []) entries (states ++ state ∷ [])
plugin_added [] [] entries [] plugin start state given more = (more, tt)
plugin_added (first ∷ plugins) (before ∷ starts) entries (now ∷ states) plugin start state given more = (given.0, plugin_added plugins starts entries states plugin start state given.1 more)
plugin_added plugins starts entries states plugin start state given more = absurd given

-- one plugin more was started
pub started_more : {X : Type 0} (config_of : X → PluginConfig) (start_of : X → SinkState) (yielded : List X) (x : X) (states new : List PluginState) (state : PluginState) → new ≡ states ++ state ∷ []
    → HasTaken (config_of x) (start_of x) [] state → AreGiven (map config_of yielded) (map start_of yielded) (λ _. []) states
    → AreGiven (map config_of (yielded ++ x ∷ [])) (map start_of (yielded ++ x ∷ [])) (λ _. []) new
started_more config_of start_of yielded x states new state is taken given =
    rw (is, map-append config_of yielded (x ∷ []), map-append start_of yielded (x ∷ []))
    (plugin_added (map config_of yielded) (map start_of yielded) (λ _. []) states (config_of x) (start_of x) state given (record { items = []; are = refl; taken = taken }))

-- all plugins were started
pub all_started : {X : Type 0} (config_of : X → PluginConfig) (start_of : X → SinkState) (yielded : List X) (configs left_configs : List PluginConfig) (starts left_starts : List SinkState) (states : List PluginState)
    → map config_of yielded ++ left_configs ≡ configs → map start_of yielded ++ left_starts ≡ starts → length starts ≡ length configs → (length left_configs ≡ 0) ⊎ (length left_starts ≡ 0)
    → AreGiven (map config_of yielded) (map start_of yielded) (λ _. []) states → AreGiven configs starts (λ _. []) states
all_started config_of start_of yielded configs left_configs starts left_starts states all_configs all_starts same none given =
    let configs_size : length yielded + length left_configs ≡ length configs =
    omega (arith, ap length all_configs, length-append (map config_of yielded) left_configs, length-map yielded config_of) in
    let starts_size : length yielded + length left_starts ≡ length starts =
    omega (arith, ap length all_starts, length-append (map start_of yielded) left_starts, length-map yielded start_of) in
    let no_config : left_configs ≡ [] = nil_from_length left_configs (elim none [ inl n ↦ n | inr n ↦ omega (arith, n, configs_size, starts_size, same) ]) in
    let no_start : left_starts ≡ [] = nil_from_length left_starts (elim none [ inl n ↦ omega (arith, n, configs_size, starts_size, same) | inr n ↦ n ]) in
    let are_configs : map config_of yielded ≡ configs = sym (append-nil (map config_of yielded)) ∙ ap (λ (xs : List PluginConfig). map config_of yielded ++ xs) (sym no_config) ∙ all_configs in
    let are_starts : map start_of yielded ≡ starts = sym (append-nil (map start_of yielded)) ∙ ap (λ (xs : List SinkState). map start_of yielded ++ xs) (sym no_start) ∙ all_starts in
    subst (λ (cs : List PluginConfig). AreGiven cs starts (λ _. []) states) are_configs
    (subst (λ (ss : List SinkState). AreGiven (map config_of yielded) ss (λ _. []) states) are_starts given)
