-- The loads of records, by their numbers.
use Rattle.std.proofs.Common.{◌≡◌, ◌∙◌, ◌+◌, ◌<◌, ◌≤◌, ◌∷◌, ◌++◌, [], ℕ, zero, suc, Bool, true, false, List, refl, sym, add-zero, ap, ap₂, append_assoc, arith, get_or, length, length-append, map, subst, take}
use Rattle.std.specs.Prelude.{All, Some, ◌==◌, filter, if◌then◌else◌, slice_get}
use Rattle.std.proofs.lemmas.Bool.{eq-eqb, eqb-false, eqb-true, ne_eqb}
use Rattle.std.proofs.lemmas.List.{append-nil, length-map, length-take-le, map-append, take_more}
use Rattle.std.proofs.lemmas.List.Elements.{All-append, All-cons, All-nil, filter-append}
use Rattle.acct_types.specs.declared.flow.FlowRecord.{FlowRecord}
use Rattle.acct_types.specs.declared.item.Item.{Item}
use Rattle.config_keys.specs.declared.plugin.PluginConfig.{PluginConfig}
use Rattle.collect_core.specs.declared.job.Job.{Job}
use Rattle.collect_core.specs.Course.{Course}
use Rattle.collect_core.specs.Due.{Entry, entries_from, entry_at, entry_of, records_in}
use Rattle.collect_core.specs.Loads.{LoadsAreEntries, LoadsAreNumbered, given_to, load_entry, loads_for, loads_from}
use Rattle.collect_core.proofs.BehindLemmas.{entries_taken}

-- ---- what a plugin is given

pub given_append : {X : Type 0} (number : ℕ) (first next : List (ℕ × X)) → given_to number (first ++ next) ≡ given_to number first ++ given_to number next
given_append {X} number first next =
    ap (map (λ (load : ℕ × X). load.1)) (filter-append (λ (load : ℕ × X). load.0 == number) first next)
    ∙ map-append (λ (load : ℕ × X). load.1) (filter (λ (load : ℕ × X). load.0 == number) first) (filter (λ (load : ℕ × X). load.0 == number) next)

-- a load that has the number
given_here : {X : Type 0} (number : ℕ) (load : ℕ × X) (loads : List (ℕ × X)) → load.0 ≡ number → given_to number (load ∷ loads) ≡ load.1 ∷ given_to number loads
given_here {X} number load loads here =
    ap (λ (b : Bool). map (λ (l : ℕ × X). l.1) (if b then load ∷ filter (λ (l : ℕ × X). l.0 == number) loads else filter (λ (l : ℕ × X). l.0 == number) loads)) (eq-eqb load.0 number here)

-- a load that has another one
given_elsewhere : {X : Type 0} (number : ℕ) (load : ℕ × X) (loads : List (ℕ × X)) → (load.0 ≡ number → ⊥) → given_to number (load ∷ loads) ≡ given_to number loads
given_elsewhere {X} number load loads apart =
    ap (λ (b : Bool). map (λ (l : ℕ × X). l.1) (if b then load ∷ filter (λ (l : ℕ × X). l.0 == number) loads else filter (λ (l : ℕ × X). l.0 == number) loads)) (ne_eqb load.0 number apart)

-- one load, which has the number or another one
pub given_one : {X : Type 0} (number : ℕ) (load : ℕ × X) → given_to number (load ∷ []) ≡ (if load.0 == number then load.1 ∷ [] else [])
given_one {X} number load =
    elim (load.0 == number) as (λ (b : Bool). map (λ (l : ℕ × X). l.1) (if b then load ∷ [] else []) ≡ (if b then load.1 ∷ [] else [])) [
      | true ↦ refl
      | false ↦ refl
    ]

-- the entries of the items that a plugin is given
pub given_entries : (number : ℕ) (loads : List (ℕ × Item)) → map entry_of (given_to number loads) ≡ given_to number (map load_entry loads)
given_entries number [] = refl
given_entries number (load ∷ loads) =
    elim (load.0 == number) as (λ (b : Bool). map entry_of (map (λ (l : ℕ × Item). l.1) (if b then load ∷ filter (λ (l : ℕ × Item). l.0 == number) loads else filter (λ (l : ℕ × Item). l.0 == number) loads))
    ≡ map (λ (l : ℕ × Entry). l.1) (if b then load_entry load ∷ filter (λ (l : ℕ × Entry). l.0 == number) (map load_entry loads) else filter (λ (l : ℕ × Entry). l.0 == number) (map load_entry loads))) [
      | true ↦ ap (λ (entries : List Entry). entry_of load.1 ∷ entries) (given_entries number loads)
      | false ↦ given_entries number loads
    ]

-- ---- the loads of a record

-- a number before theirs is none of theirs
none_before : (job : Job) (course : Course) (number place : ℕ) (plugins : List PluginConfig) (datagram moment row : ℕ) (flow : FlowRecord) → number < place
    → given_to number (loads_for job course place plugins datagram moment row flow) ≡ []
none_before job course number place [] datagram moment row flow before = refl
none_before job course number place (plugin ∷ plugins) datagram moment row flow before =
    given_elsewhere number (place, entry_at job course plugin datagram moment row flow) (loads_for job course (place + 1) plugins datagram moment row flow) (λ here. omega (arith, here, before))
    ∙ none_before job course number (place + 1) plugins datagram moment row flow (omega (arith, before))

-- a plugin is given its entry
one_entry : (job : Job) (course : Course) (number place i : ℕ) (plugins : List PluginConfig) (plugin : PluginConfig) (datagram moment row : ℕ) (flow : FlowRecord) → place + i ≡ number
    → slice_get plugins i ≡ Some plugin → given_to number (loads_for job course place plugins datagram moment row flow) ≡ entry_at job course plugin datagram moment row flow ∷ []
one_entry job course number place i [] plugin datagram moment row flow at there = absurd (cc there)
one_entry job course number place zero (first ∷ plugins) plugin datagram moment row flow at there =
    let same : first ≡ plugin = cc in
    given_here number (place, entry_at job course first datagram moment row flow) (loads_for job course (place + 1) plugins datagram moment row flow) (omega (arith, at))
    ∙ ap₂ (λ (p : PluginConfig) (entries : List Entry). entry_at job course p datagram moment row flow ∷ entries) same (none_before job course number (place + 1) plugins datagram moment row flow (omega (arith, at)))
one_entry job course number place (suc i) (first ∷ plugins) plugin datagram moment row flow at there =
    given_elsewhere number (place, entry_at job course first datagram moment row flow) (loads_for job course (place + 1) plugins datagram moment row flow) (λ here. omega (arith, here, at))
    ∙ one_entry job course number (place + 1) i plugins plugin datagram moment row flow (omega (arith, at)) there

-- no number has more than one
one_at_most : (job : Job) (course : Course) (number place : ℕ) (plugins : List PluginConfig) (datagram moment row : ℕ) (flow : FlowRecord)
    → length (given_to number (loads_for job course place plugins datagram moment row flow)) ≤ 1
one_at_most job course number place [] datagram moment row flow = omega arith
one_at_most job course number place (plugin ∷ plugins) datagram moment row flow =
    by (place == number) refl (one_at_most job course number (place + 1) plugins datagram moment row flow)
  where
    load : ℕ × Entry
    load = (place, entry_at job course plugin datagram moment row flow)

    others : List (ℕ × Entry)
    others = loads_for job course (place + 1) plugins datagram moment row flow

    by : (b : Bool) → (place == number) ≡ b → length (given_to number others) ≤ 1 → length (given_to number (load ∷ others)) ≤ 1
    by true is few =
        let at : place ≡ number = eqb-true place number is in
        omega (
          arith,
          ap (λ (entries : List Entry). length entries) (given_here number load others at),
          ap (λ (entries : List Entry). length entries) (none_before job course number (place + 1) plugins datagram moment row flow (omega (arith, at))),
        )
    by false is few = omega (arith, ap (λ (entries : List Entry). length entries) (given_elsewhere number load others (eqb-false place number is)), few)

-- each has the number of one of the plugins
numbered_for : (job : Job) (course : Course) (place all : ℕ) (plugins : List PluginConfig) (datagram moment row : ℕ) (flow : FlowRecord) → place + length plugins ≡ all
    → All (λ (load : ℕ × Entry). load.0 < all) (loads_for job course place plugins datagram moment row flow)
numbered_for job course place all [] datagram moment row flow is = All-nil (λ (load : ℕ × Entry). load.0 < all)
numbered_for job course place all (plugin ∷ plugins) datagram moment row flow is =
    All-cons (λ (load : ℕ × Entry). load.0 < all) (place, entry_at job course plugin datagram moment row flow) (loads_for job course (place + 1) plugins datagram moment row flow) (omega (arith, is))
    (numbered_for job course (place + 1) all plugins datagram moment row flow (omega (arith, is)))

-- ---- the loads of records

given_from : (job : Job) (course : Course) (number : ℕ) (plugin : PluginConfig) (datagram moment row : ℕ) (flows : List FlowRecord) → slice_get job.config.plugins number ≡ Some plugin
    → given_to number (loads_from job course datagram moment row flows) ≡ entries_from job course plugin datagram moment row flows
given_from job course number plugin datagram moment row [] there = refl
given_from job course number plugin datagram moment row (flow ∷ flows) there =
    given_append number (loads_for job course 0 job.config.plugins datagram moment row flow) (loads_from job course datagram moment (row + 1) flows)
    ∙ ap₂ (λ (first others : List Entry). first ++ others) (one_entry job course number 0 number job.config.plugins plugin datagram moment row flow (omega arith) there)
    (given_from job course number plugin datagram moment (row + 1) flows there)

few_from : (job : Job) (course : Course) (number datagram moment row : ℕ) (flows : List FlowRecord) → length (given_to number (loads_from job course datagram moment row flows)) ≤ length flows
few_from job course number datagram moment row [] = omega arith
few_from job course number datagram moment row (flow ∷ flows) =
    let first = loads_for job course 0 job.config.plugins datagram moment row flow in
    let others = loads_from job course datagram moment (row + 1) flows in
    omega (
      arith,
      ap (λ (entries : List Entry). length entries) (given_append number first others),
      length-append (given_to number first) (given_to number others),
      one_at_most job course number 0 job.config.plugins datagram moment row flow,
      few_from job course number datagram moment (row + 1) flows,
    )

numbered_from : (job : Job) (course : Course) (datagram moment row : ℕ) (flows : List FlowRecord) → All (λ (load : ℕ × Entry). load.0 < length job.config.plugins) (loads_from job course datagram moment row flows)
numbered_from job course datagram moment row [] = All-nil (λ (load : ℕ × Entry). load.0 < length job.config.plugins)
numbered_from job course datagram moment row (flow ∷ flows) =
    All-append (λ (load : ℕ × Entry). load.0 < length job.config.plugins) (loads_for job course 0 job.config.plugins datagram moment row flow) (loads_from job course datagram moment (row + 1) flows)
    (numbered_for job course 0 (length job.config.plugins) job.config.plugins datagram moment row flow (omega arith)) (numbered_from job course datagram moment (row + 1) flows)

-- one record more
loads_more : (job : Job) (course : Course) (datagram moment row : ℕ) (flows : List FlowRecord) (flow : FlowRecord)
    → loads_from job course datagram moment row (flows ++ flow ∷ []) ≡ loads_from job course datagram moment row flows ++ loads_for job course 0 job.config.plugins datagram moment (row + length flows) flow
loads_more job course datagram moment row [] flow =
    append-nil (loads_for job course 0 job.config.plugins datagram moment row flow) ∙ ap (λ (n : ℕ). loads_for job course 0 job.config.plugins datagram moment n flow) (sym (add-zero row))
loads_more job course datagram moment row (first ∷ flows) flow =
    let place : row + 1 + length flows ≡ row + length (first ∷ flows) = omega arith in
    let one = loads_for job course 0 job.config.plugins datagram moment row first in
    ap (λ (loads : List (ℕ × Entry)). one ++ loads) (loads_more job course datagram moment (row + 1) flows flow)
    ∙ sym (append_assoc one (loads_from job course datagram moment (row + 1) flows) (loads_for job course 0 job.config.plugins datagram moment (row + 1 + length flows) flow))
    ∙ ap (λ (n : ℕ). (one ++ loads_from job course datagram moment (row + 1) flows) ++ loads_for job course 0 job.config.plugins datagram moment n flow) place

-- the loads up to one record more
pub row_loaded : (job : Job) (course : Course) (datagram moment : ℕ) (rows : List FlowRecord) (i : ℕ) (d : FlowRecord) (so_far next : List (ℕ × Entry)) → i < length rows
    → so_far ≡ loads_from job course datagram moment 1 (take i rows) → next ≡ so_far ++ loads_for job course 0 job.config.plugins datagram moment (i + 1) (get_or rows i d)
    → next ≡ loads_from job course datagram moment 1 (take (i + 1) rows)
row_loaded job course datagram moment rows i d so_far next more is step =
    let place : i + 1 ≡ 1 + length (take i rows) = omega (arith, length-take-le i rows (omega arith)) in
    step
    ∙ ap₂ (λ (loads : List (ℕ × Entry)) (n : ℕ). loads ++ loads_for job course 0 job.config.plugins datagram moment n (get_or rows i d)) is place
    ∙ sym (ap (loads_from job course datagram moment 1) (take_more rows i d more) ∙ loads_more job course datagram moment 1 (take i rows) (get_or rows i d))

-- one plugin more
for_more : (job : Job) (course : Course) (place : ℕ) (plugins : List PluginConfig) (plugin : PluginConfig) (datagram moment row : ℕ) (flow : FlowRecord)
    → loads_for job course place (plugins ++ plugin ∷ []) datagram moment row flow
    ≡ loads_for job course place plugins datagram moment row flow ++ (place + length plugins, entry_at job course plugin datagram moment row flow) ∷ []
for_more job course place [] plugin datagram moment row flow = ap (λ (n : ℕ). (n, entry_at job course plugin datagram moment row flow) ∷ []) (sym (add-zero place))
for_more job course place (first ∷ plugins) plugin datagram moment row flow =
    let at : place + 1 + length plugins ≡ place + length (first ∷ plugins) = omega arith in
    ap (λ (loads : List (ℕ × Entry)). (place, entry_at job course first datagram moment row flow) ∷ loads)
    (for_more job course (place + 1) plugins plugin datagram moment row flow
    ∙ ap (λ (n : ℕ). loads_for job course (place + 1) plugins datagram moment row flow ++ (n, entry_at job course plugin datagram moment row flow) ∷ []) at)

loaded_one : (job : Job) (course : Course) (plugins : List PluginConfig) (i : ℕ) (d : PluginConfig) (datagram moment row : ℕ) (flow : FlowRecord) (item : Item) (first loads next : List (ℕ × Item))
    → map load_entry loads ≡ map load_entry first ++ loads_for job course 0 (take i plugins) datagram moment row flow → next ≡ loads ++ (i, item) ∷ [] → i < length plugins
    → entry_of item ≡ entry_at job course (get_or plugins i d) datagram moment row flow
    → map load_entry next ≡ map load_entry first ++ loads_for job course 0 (take (i + 1) plugins) datagram moment row flow
loaded_one job course plugins i d datagram moment row flow item first loads next so_far pushed more is =
    let at : 0 + length (take i plugins) ≡ i = omega (arith, length-take-le i plugins (omega arith)) in
    let front = loads_for job course 0 (take i plugins) datagram moment row flow in
    let last : loads_for job course 0 (take (i + 1) plugins) datagram moment row flow ≡ front ++ (i, entry_of item) ∷ [] =
    ap (λ (ps : List PluginConfig). loads_for job course 0 ps datagram moment row flow) (take_more plugins i d more)
    ∙ for_more job course 0 (take i plugins) (get_or plugins i d) datagram moment row flow
    ∙ ap₂ (λ (n : ℕ) (entry : Entry). front ++ (n, entry) ∷ []) at (sym is) in
    ap (map load_entry) pushed ∙ map-append load_entry loads ((i, item) ∷ [])
    ∙ ap (λ (entries : List (ℕ × Entry)). entries ++ (i, entry_of item) ∷ []) so_far
    ∙ append_assoc (map load_entry first) front ((i, entry_of item) ∷ [])
    ∙ ap (λ (entries : List (ℕ × Entry)). map load_entry first ++ entries) (sym last)

-- the loads up to one plugin more
pub plugin_loaded : (job : Job) (course : Course) (slice plugins : List PluginConfig) (i : ℕ) (plugin : PluginConfig) (datagram moment row : ℕ) (flow : FlowRecord) (item : Item) (first loads next : List (ℕ × Item))
    → slice ≡ plugins → map load_entry loads ≡ map load_entry first ++ loads_for job course 0 (take i plugins) datagram moment row flow → next ≡ loads ++ (i, item) ∷ [] → i < length slice
    → plugin ≡ get_or slice i plugin → entry_of item ≡ entry_at job course plugin datagram moment row flow
    → map load_entry next ≡ map load_entry first ++ loads_for job course 0 (take (i + 1) plugins) datagram moment row flow
plugin_loaded job course slice plugins i plugin datagram moment row flow item first loads next same so_far pushed more there is =
    loaded_one job course plugins i plugin datagram moment row flow item first loads next so_far pushed
    (subst (λ (ps : List PluginConfig). i < length ps) same more)
    (is ∙ ap (λ (p : PluginConfig). entry_at job course p datagram moment row flow) (there ∙ ap (λ (ps : List PluginConfig). get_or ps i plugin) same))

-- ---- laws

pub loads_are_entries : LoadsAreEntries
loads_are_entries job course most earlier d number plugin there =
    given_from job course number plugin (length earlier + 1) d.moment 1 (take most (records_in job earlier d)) there
    ∙ sym (entries_taken job course plugin (length earlier + 1) d.moment 1 most (records_in job earlier d))

pub loads_are_numbered : LoadsAreNumbered
loads_are_numbered job course most earlier d = numbered_from job course (length earlier + 1) d.moment 1 (take most (records_in job earlier d))

-- ---- loads with their items

-- what holds of each number holds of those of the items
numbers_of : (P : ℕ → Type 0) (loads : List (ℕ × Item)) → All (λ (load : ℕ × Entry). P load.0) (map load_entry loads) → All (λ (load : ℕ × Item). P load.0) loads
numbers_of P [] all = All-nil (λ (load : ℕ × Item). P load.0)
numbers_of P (load ∷ loads) all =
    All-cons (λ (l : ℕ × Item). P l.0) load loads (all 0 (load_entry load) (omega arith)) (numbers_of P loads (λ k d within. all (suc k) d (omega (arith, within))))

pub are_numbered : (job : Job) (course : Course) (datagram moment : ℕ) (rows : List FlowRecord) (loads : List (ℕ × Item)) → map load_entry loads ≡ loads_from job course datagram moment 1 rows
    → All (λ (load : ℕ × Item). load.0 < length job.config.plugins) loads
are_numbered job course datagram moment rows loads are =
    numbers_of (λ n. n < length job.config.plugins) loads
    (subst (All (λ (load : ℕ × Entry). load.0 < length job.config.plugins)) (sym are) (numbered_from job course datagram moment 1 rows))

-- no plugin is given more items than there are records
pub are_few : (job : Job) (course : Course) (datagram moment : ℕ) (rows : List FlowRecord) (loads : List (ℕ × Item)) (number : ℕ) → map load_entry loads ≡ loads_from job course datagram moment 1 rows
    → length (given_to number loads) ≤ length rows
are_few job course datagram moment rows loads number are =
    omega (
      arith,
      few_from job course number datagram moment 1 rows,
      sym (length-map (given_to number loads) entry_of) ∙ ap (λ (entries : List Entry). length entries) (given_entries number loads ∙ ap (given_to number) are),
    )
