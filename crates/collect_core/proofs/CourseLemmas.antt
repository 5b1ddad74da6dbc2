-- A run without routes on one thread.
use Rattle.std.proofs.Common.{◌≡◌, ◌∙◌, ◌+◌, ◌∷◌, ◌++◌, [], ℕ, List, refl, sym, ap, ap₂, arith}
use Rattle.std.specs.Prelude.{Bool, true, false, filter, length, map, not, if◌then◌else◌}
use Rattle.std.proofs.lemmas.List.{append-nil}
use Rattle.acct_types.specs.Cells.{key_eq}
use Rattle.acct_types.specs.Counts.{AddUp, nothing, plus}
use Rattle.acct_types.specs.declared.cell.Cell.{Cell}
use Rattle.acct_types.specs.declared.datagram.Datagram.{Datagram}
use Rattle.acct_types.specs.declared.flow.Counts.{Counts}
use Rattle.acct_types.specs.declared.flow.FlowRecord.{FlowRecord}
use Rattle.config_keys.specs.declared.plugin.PluginConfig.{PluginConfig}
use Rattle.plugin_cache.specs.Sums.{sums_of}
use Rattle.out_text.specs.declared.event.Event.{Event}
use Rattle.out_text.specs.declared.event.Event.TheVariants.{Drop}
use Rattle.collect_core.specs.declared.job.Job.{Job}
use Rattle.collect_core.specs.Audit.{drops_at, drops_from, drops_in, events_in, records_within, told_in}
use Rattle.collect_core.specs.Course.{Course, unrouted}
use Rattle.collect_core.specs.Due.{Entry, all_behind, is_lost, lost, over_all, taken}
use Rattle.collect_core.specs.Ends.{counted}
use Rattle.collect_core.specs.Lawful.{DropsConserve, UnroutedIsLawful}
use Rattle.collect_core.specs.Most.{Most}

-- ---- nothing is dropped

pub all_taken : (plugin : PluginConfig) (entries : List Entry) → taken unrouted plugin entries ≡ entries
all_taken plugin [] = refl
all_taken plugin (entry ∷ entries) = ap (λ (others : List Entry). entry ∷ others) (all_taken plugin entries)

pub none_lost : (plugin : PluginConfig) (entries : List Entry) → lost unrouted plugin entries ≡ []
none_lost plugin [] = refl
none_lost plugin (entry ∷ entries) = none_lost plugin entries

no_plugin : (plugins : List PluginConfig) → filter (λ _. false) plugins ≡ []
no_plugin [] = refl
no_plugin (plugin ∷ plugins) = no_plugin plugins

none_at : (job : Job) (datagram row : ℕ) → drops_at job unrouted datagram row ≡ []
none_at job datagram row = ap (map (λ (plugin : PluginConfig). Drop plugin.name datagram row)) (no_plugin job.config.plugins)

none_from : (job : Job) (datagram row : ℕ) (flows : List FlowRecord) → drops_from job unrouted datagram row flows ≡ []
none_from job datagram row [] = refl
none_from job datagram row (flow ∷ flows) = ap₂ (λ (first others : List Event). first ++ others) (none_at job datagram row) (none_from job datagram (row + 1) flows)

none_in : (job : Job) (most : Most) (earlier : List Datagram) (d : Datagram) → drops_in job most unrouted earlier d ≡ []
none_in job most earlier d = none_from job (length earlier + 1) 1 (records_within job most earlier d)

nothing_behind : (job : Job) (most : Most) (earlier flows : List Datagram) → all_behind (drops_in job most unrouted) earlier flows ≡ []
nothing_behind job most earlier [] = refl
nothing_behind job most earlier (d ∷ flows) = ap₂ (λ (first others : List Event). first ++ others) (none_in job most earlier d) (nothing_behind job most (d ∷ earlier) flows)

pub nothing_dropped : (job : Job) (most : Most) (flows : List Datagram) → over_all (drops_in job most unrouted) flows ≡ []
nothing_dropped job most flows = nothing_behind job most [] flows

-- ---- the audit tells of decoding alone

told_alone : (job : Job) (most : Most) (earlier : List Datagram) (d : Datagram) → events_in job most unrouted earlier d ≡ told_in job earlier d
told_alone job most earlier d = ap (λ (dropped : List Event). told_in job earlier d ++ dropped) (none_in job most earlier d) ∙ append-nil (told_in job earlier d)

pub events_alone : (job : Job) (most : Most) → events_in job most unrouted ≡ told_in job
events_alone job most = λ i earlier d. told_alone job most earlier d i

-- ---- what is dropped is conserved

plus_swap : AddUp → (a b c : Counts) → plus a (plus b c) ≡ plus b (plus a c)
plus_swap up a b c = sym (up.grouped a b c) ∙ ap (λ (d : Counts). plus d c) (up.swapped a b) ∙ up.grouped b a c

nothing_plus : AddUp → (c : Counts) → plus nothing c ≡ c
nothing_plus up c = up.swapped nothing c ∙ up.nothing_added c

sums_append : AddUp → (first next : List (List Cell × Counts)) (key : List Cell) → sums_of (first ++ next) key ≡ plus (sums_of first key) (sums_of next key)
sums_append up [] next key = sym (nothing_plus up (sums_of next key))
sums_append up (entry ∷ first) next key =
    elim (key_eq key entry.0) as (λ (same : Bool). (if same then plus entry.1 (sums_of (first ++ next) key) else sums_of (first ++ next) key)
    ≡ plus (if same then plus entry.1 (sums_of first key) else sums_of first key) (sums_of next key)) [
      | true ↦ ap (plus entry.1) (sums_append up first next key) ∙ sym (up.grouped entry.1 (sums_of first key) (sums_of next key))
      | false ↦ sums_append up first next key
    ]

add_left : AddUp → (same : Bool) (entry : Entry) (key : List Cell) (a b : Counts) → plus (if same then plus entry.counts a else a) b ≡ (if same then plus entry.counts (plus a b) else plus a b)
add_left up true entry key a b = up.grouped entry.counts a b
add_left up false entry key a b = refl

add_right : AddUp → (same : Bool) (entry : Entry) (key : List Cell) (a b : Counts) → plus a (if same then plus entry.counts b else b) ≡ (if same then plus entry.counts (plus a b) else plus a b)
add_right up true entry key a b = plus_swap up a entry.counts b
add_right up false entry key a b = refl

-- what was taken and what is lost add up
parts : AddUp → (course : Course) (plugin : PluginConfig) (entries : List Entry) (key : List Cell)
    → plus (sums_of (counted (taken course plugin entries)) key) (sums_of (counted (lost course plugin entries)) key) ≡ sums_of (counted entries) key
parts up course plugin [] key = nothing_plus up nothing
parts up course plugin (entry ∷ entries) key =
    elim (is_lost course plugin entry) as (λ (gone : Bool).
    plus (sums_of (counted (if not gone then entry ∷ taken course plugin entries else taken course plugin entries)) key)
    (sums_of (counted (if gone then entry ∷ lost course plugin entries else lost course plugin entries)) key)
    ≡ (if key_eq key entry.key then plus entry.counts (sums_of (counted entries) key) else sums_of (counted entries) key)) [
      | true ↦ add_right up (key_eq key entry.key) entry key _ _ ∙ ap (λ (sums : Counts). if key_eq key entry.key then plus entry.counts sums else sums) (parts up course plugin entries key)
      | false ↦ add_left up (key_eq key entry.key) entry key _ _ ∙ ap (λ (sums : Counts). if key_eq key entry.key then plus entry.counts sums else sums) (parts up course plugin entries key)
    ]

pub drops_conserve : AddUp → DropsConserve
drops_conserve up course plugin entries rows same key =
    sums_append up rows (counted (lost course plugin entries)) key
    ∙ ap (λ (sums : Counts). plus sums (sums_of (counted (lost course plugin entries)) key)) (same key)
    ∙ parts up course plugin entries key

-- ---- the course is lawful

pub unrouted_is_lawful : UnroutedIsLawful
unrouted_is_lawful job most flows = (
  record {
    begins = refl;
    never_back = λ datagram. omega arith;
    known = λ datagram. omega arith;
    still = λ earlier later d splits none. refl;
    drops = λ plugin configured earlier later entry splits dropped. let no : false ≡ true = dropped in absurd (cc no);
  },
  record {
    cuts = λ earlier later d splits some. refl;
    none_dropped = λ plugin datagram row. refl;
  },
)
