-- The names of a job, which are apart.
use Rattle.std.proofs.Common.{◌≡◌, ◌∙◌, ◌≢◌, ◌∷◌, [], List, ℕ, Bool, true, false, Option, Some, None, refl, sym, ap, subst}
use Rattle.std.specs.Prelude.{◌||◌, ◌&&◌, All, is_some, not, Result, Ok, Err, if◌then◌else◌, map, unwrap_or}
use Rattle.std.specs.List.{list_any}
use Rattle.std.specs.Str.{bytes_eq}
use Rattle.std.proofs.lemmas.List.Elements.{All-cons, All-nil, All-weaker}
use Rattle.std.proofs.lemmas.Slice.Eq.{bytes_eq-Decides}
use Rattle.collect_core.specs.Job.{collects}
use Rattle.collect_core.specs.declared.job.Job.{Job}
use Rattle.config_keys.specs.Judging.{settings_of}
use Rattle.config_keys.specs.Lines.{Setting, is_among, lines_of}
use Rattle.config_keys.specs.Reading.{ConfigSays, PluginSays, completed, config_from, config_of, config_with, judged, lacks_key, plugins_for, shares_name}
use Rattle.config_keys.specs.Values.{are_apart, are_new}
use Rattle.config_keys.specs.declared.fault.ConfigCause.TheVariants.{MissingKey, SameName}
use Rattle.config_keys.specs.declared.fault.ConfigFault.{ConfigFault}
use Rattle.config_keys.specs.declared.fault.ConfigFault.TheVariants.{At}
use Rattle.config_keys.specs.ConfigViews.{plugin_says, says}
use Rattle.config_keys.specs.declared.plugin.PluginConfig.{PluginConfig}
use Rattle.config_keys.specs.declared.tool.Tool.{Tool}
use Rattle.config_keys.specs.declared.tool.Tool.TheVariants.{Nfacctd, Sfacctd, Pmbgpd}
use Rattle.acct_top.specs.Conservation.{IsNoOutput}
use Rattle.acct_top.specs.Job.{IsReplay, capture_of}
use Rattle.acct_top.specs.Run.{AreApart, HaveOwnFiles}

-- ---- no two names of an accepted configuration are the same

judged_apart : (config accepted : ConfigSays) → judged config ≡ Ok accepted → shares_name accepted ≡ false
judged_apart config accepted h = by (lacks_key config.tool config) (shares_name config) refl h
  where
    by : (a b : Bool) → shares_name config ≡ b → (if a then Err (At 0 MissingKey) else (if b then Err (At 0 SameName) else Ok config)) ≡ Ok accepted → shares_name accepted ≡ false
    by true b is h = cc h
    by false true is h = cc h
    by false false is h = let same : config ≡ accepted = cc h in subst (λ (c : ConfigSays). shares_name c ≡ false) same is

completed_apart : (tool : Tool) (settings : List Setting) (plugins : Option (List PluginSays)) (accepted : ConfigSays) → completed tool settings plugins ≡ Ok accepted → shares_name accepted ≡ false
completed_apart tool settings None accepted h = cc h
completed_apart tool settings (Some plugins) accepted h = judged_apart (config_with tool settings plugins) accepted h

from_apart : (tool : Tool) (settings : Result (List Setting) ConfigFault) (accepted : ConfigSays) → config_from tool settings ≡ Ok accepted → shares_name accepted ≡ false
from_apart tool (Err fault) accepted h = cc h
from_apart tool (Ok settings) accepted h = completed_apart tool settings (plugins_for tool settings) accepted h

pub accepted_apart : (tool : Tool) (text : List ℕ) (accepted : ConfigSays) → config_of tool text ≡ Ok accepted → shares_name accepted ≡ false
accepted_apart tool text accepted h = from_apart tool (settings_of (lines_of text)) accepted h

-- ---- what is built

either : (a b : Bool) → (a || b) ≡ false → (a ≡ false) × (b ≡ false)
either true b h = cc h
either false b h = (refl, h)

first_and_third : (a b c : Bool) → (a || b || c) ≡ false → (a ≡ false) × (c ≡ false)
first_and_third true b c h = cc h
first_and_third false true c h = cc h
first_and_third false false c h = (refl, h)

first_three : (a b c d : Bool) → (a || b || c || d) ≡ false → (a ≡ false) × (b ≡ false) × (c ≡ false)
first_three true b c d h = cc h
first_three false true c d h = cc h
first_three false false true d h = cc h
first_three false false false d h = (refl, refl, refl)

is_true : (b : Bool) → not b ≡ false → b ≡ true
is_true true h = refl
is_true false h = cc h

-- what is built collects, without routes
pub record IsCollector (job : Job) : Type 0 where
  pub collects : collects job.config.tool ≡ true
  pub no_bgp : job.config.bgp_daemon ≡ false
  pub no_bmp : job.config.bmp_daemon ≡ false

pub is_collector : (job : Job) → IsReplay job → IsCollector job
is_collector job is =
    let parts = first_three (not (collects job.config.tool)) job.config.bgp_daemon job.config.bmp_daemon (is_some job.config.bgp_agent_map) is.built in
    record { collects = is_true _ parts.0; no_bgp = parts.1; no_bmp = parts.2 }

-- ---- names that are apart

differ : (xs ys : List ℕ) → bytes_eq xs ys ≡ false → xs ≢ ys
differ xs ys h same = let e : true ≡ false = sym ((bytes_eq-Decides xs ys).1 same) ∙ h in cc e

files : List PluginConfig → List (List ℕ)
files plugins = map (λ (plugin : PluginSays). plugin.file) (map plugin_says plugins)

new_first : (a b : Bool) → (not a && b) ≡ true → (a ≡ false) × (b ≡ true)
new_first true b h = cc h
new_first false b h = (refl, h)

or_right : (a b : Bool) → b ≡ true → (a || b) ≡ true
or_right true b h = refl
or_right false b h = h

or_left : (a b : Bool) → a ≡ true → (a || b) ≡ true
or_left true b h = refl
or_left false b h = cc h

-- the names are those of no text before them
none_before : (before : List (List ℕ)) (text : List ℕ) (plugins : List PluginConfig) → is_among before text ≡ true → are_new before (files plugins) ≡ true → All (λ (plugin : PluginConfig). text ≢ plugin.file) plugins
unfolding files
none_before before text [] among new = All-nil (λ (plugin : PluginConfig). text ≢ plugin.file)
none_before before text (plugin ∷ plugins) among new =
    let parts = new_first (is_among before plugin.file) (are_new (plugin.file ∷ before) (files plugins)) new in
    All-cons (λ (other : PluginConfig). text ≢ other.file) plugin plugins
    (λ same. let e : true ≡ false = sym among ∙ ap (is_among before) same ∙ parts.0 in cc e)
    (none_before (plugin.file ∷ before) text plugins (or_right (bytes_eq plugin.file text) (is_among before text) among) parts.1)

own_files : (before : List (List ℕ)) (plugins : List PluginConfig) → are_new before (files plugins) ≡ true → HaveOwnFiles plugins
unfolding files
own_files before [] new = tt
own_files before (plugin ∷ plugins) new =
    let parts = new_first (is_among before plugin.file) (are_new (plugin.file ∷ before) (files plugins)) new in (
      none_before (plugin.file ∷ before) plugin.file plugins (or_left (bytes_eq plugin.file plugin.file) (is_among before plugin.file) ((bytes_eq-Decides plugin.file plugin.file).1 refl)) parts.1,
      own_files (plugin.file ∷ before) plugins parts.1,
    )

-- an input is none of the names
none_is_input : (input : List ℕ) (others : List (List ℕ)) (plugins : List PluginConfig) → list_any (λ name. is_among (input ∷ others) name) (files plugins) ≡ false → All (λ (plugin : PluginConfig). input ≢ plugin.file) plugins
unfolding files
none_is_input input others [] none = All-nil (λ (plugin : PluginConfig). input ≢ plugin.file)
none_is_input input others (plugin ∷ plugins) none =
    let parts = either (is_among (input ∷ others) plugin.file) (list_any (λ name. is_among (input ∷ others) name) (files plugins)) none in
    All-cons (λ (other : PluginConfig). input ≢ other.file) plugin plugins
    (differ input plugin.file (either (bytes_eq input plugin.file) (is_among others plugin.file) parts.0).0)
    (none_is_input input others plugins parts.1)

-- the outputs of a job are apart, and the capture is none of them
pub record AreNames (job : Job) : Type 0 where
  pub outputs : AreApart job.config.acct_audit_file job.config.plugins
  pub capture : IsNoOutput job (capture_of job)

apart_of : (audit capture : List ℕ) (plugins : List PluginConfig) (others : List (List ℕ)) (captures : Bool)
    → (not (are_apart (audit ∷ files plugins)) || captures || list_any (λ name. is_among (capture ∷ others) name) (audit ∷ files plugins)) ≡ false
    → AreApart audit plugins × All (λ (plugin : PluginConfig). capture ≢ plugin.file) plugins × (capture ≢ audit)
apart_of audit capture plugins others captures h =
    let parts = first_and_third (not (are_apart (audit ∷ files plugins))) captures (list_any (λ name. is_among (capture ∷ others) name) (audit ∷ files plugins)) h in
    let new : are_new (audit ∷ []) (files plugins) ≡ true = (new_first false (are_new (audit ∷ []) (files plugins)) (is_true (are_apart (audit ∷ files plugins)) parts.0)).1 in
    let inputs = either (is_among (capture ∷ others) audit) (list_any (λ name. is_among (capture ∷ others) name) (files plugins)) parts.1 in
    let not_audit = none_before (audit ∷ []) audit plugins (or_left (bytes_eq audit audit) false ((bytes_eq-Decides audit audit).1 refl)) new in (
      record {
        own = own_files (audit ∷ []) plugins new;
        not_audit = All-weaker (λ (plugin : PluginConfig). audit ≢ plugin.file) (λ (plugin : PluginConfig). plugin.file ≢ audit) (λ plugin no same. no (sym same)) plugins not_audit;
      },
      none_is_input capture others plugins inputs.1,
      differ capture audit (either (bytes_eq capture audit) (is_among others audit) inputs.0).0,
    )

-- the same of a configuration with that tool and that capture
by_parts : (config : ConfigSays) (tool : Tool) (flows : Option (List ℕ)) → config.tool ≡ tool → config.acct_flow_capture ≡ flows → shares_name config ≡ false → shares_name (record config { tool = tool; acct_flow_capture = flows }) ≡ false
by_parts config tool flows tools captures none = sym (λ i. shares_name (record config { tool = tools i; acct_flow_capture = captures i })) ∙ none

tool_apart : (tool : Tool) (job : Job) (capture : List ℕ) → collects tool ≡ true → job.config.tool ≡ tool → job.config.acct_flow_capture ≡ Some capture → shares_name (says job.config) ≡ false
    → AreApart job.config.acct_audit_file job.config.plugins × All (λ (plugin : PluginConfig). capture ≢ plugin.file) job.config.plugins × (capture ≢ job.config.acct_audit_file)
unfolding files
tool_apart Nfacctd job capture is tool found none = apart_of job.config.acct_audit_file capture job.config.plugins _ _ (by_parts (says job.config) Nfacctd (Some capture) tool found none)
tool_apart Sfacctd job capture is tool found none = apart_of job.config.acct_audit_file capture job.config.plugins _ _ (by_parts (says job.config) Sfacctd (Some capture) tool found none)
tool_apart Pmbgpd job capture is tool found none = cc is

pub job_names : (job : Job) → IsReplay job → AreNames job
job_names job is = by job.config.acct_flow_capture refl is.captured
  where
    by : (o : Option (List ℕ)) → job.config.acct_flow_capture ≡ o → is_some o ≡ true → AreNames job
    by None found some = cc some
    by (Some capture) found some =
        let names = tool_apart job.config.tool job capture (is_collector job is).collects refl found is.apart in
        let this : capture ≡ capture_of job = ap (λ (o : Option (List ℕ)). unwrap_or o []) (sym found) in
        record {
          outputs = names.0;
          capture = subst (λ (name : List ℕ). IsNoOutput job name) this (record { plugins = names.1; audit = names.2 });
        }
