-- What is said of datagrams behind each other, with one more.
use Rattle.std.proofs.Common.{◌≡◌, ◌∙◌, ◌+◌, ◌-◌, ◌∷◌, ◌++◌, [], ℕ, zero, suc, List, refl, sym, ap, ap₂, length, take, reverse, arith, append_assoc, length-append}
use Rattle.std.specs.Prelude.{min}
use Rattle.std.proofs.Math.Seq.{take-nil}
use Rattle.std.proofs.lemmas.List.{append-nil, length-take, reverse-append}
use Rattle.acct_types.specs.declared.datagram.Datagram.{Datagram}
use Rattle.acct_types.specs.declared.flow.FlowRecord.{FlowRecord}
use Rattle.config_keys.specs.declared.plugin.PluginConfig.{PluginConfig}
use Rattle.collect_core.specs.Course.{Course, unrouted}
use Rattle.collect_core.specs.declared.job.Job.{Job}
use Rattle.collect_core.specs.Due.{Entry, all_behind, due, entries_from, entries_in, entry_at, over_all, records_in, records_of}
use Rattle.collect_core.specs.Most.{Most}

all_behind_more : {X : Type 0} (say : List Datagram → Datagram → List X) (earlier flows : List Datagram) (d : Datagram)
    → all_behind say earlier (flows ++ d ∷ []) ≡ all_behind say earlier flows ++ say (reverse flows ++ earlier) d
all_behind_more say earlier [] d = append-nil (say earlier d)
all_behind_more {X} say earlier (x ∷ flows) d =
    ap (λ (xs : List X). say earlier x ++ xs) (all_behind_more say (x ∷ earlier) flows d)
    ∙ sym (append_assoc (say earlier x) (all_behind say (x ∷ earlier) flows) (say (reverse flows ++ x ∷ earlier) d))
    ∙ ap (λ (before : List Datagram). (say earlier x ++ all_behind say (x ∷ earlier) flows) ++ say before d) (sym order)
  where
    order : reverse (x ∷ flows) ++ earlier ≡ reverse flows ++ x ∷ earlier
    order = ap (λ (before : List Datagram). before ++ earlier) (reverse-append (x ∷ []) flows) ∙ append_assoc (reverse flows) (x ∷ []) earlier

-- what is said of one datagram more comes last
pub over_all_more : {X : Type 0} (say : List Datagram → Datagram → List X) (flows : List Datagram) (d : Datagram) → over_all say (flows ++ d ∷ []) ≡ over_all say flows ++ say (reverse flows) d
over_all_more {X} say flows d =
    all_behind_more say [] flows d ∙ ap (λ (before : List Datagram). all_behind say [] flows ++ say before d) (append-nil (reverse flows))

-- ---- a front of two lists

pub take_append : {X : Type 0} (n : ℕ) (xs ys : List X) → take n (xs ++ ys) ≡ take n xs ++ take (n - length xs) ys
take_append zero [] ys = refl
take_append {X} (suc n) [] ys = ap (λ (k : ℕ). take k ys) same
  where
    same : suc n ≡ suc n - length {A = X} []
    same = omega arith
take_append {X} zero (x ∷ xs) ys = ap (λ (k : ℕ). take k ys) none
  where
    none : 0 ≡ 0 - length (x ∷ xs)
    none = omega arith
take_append {X} (suc n) (x ∷ xs) ys =
    ap (λ (zs : List X). x ∷ zs) (take_append n xs ys ∙ ap (λ (k : ℕ). take n xs ++ take k ys) same)
  where
    same : n - length xs ≡ suc n - length (x ∷ xs)
    same = omega arith

-- a front of no more than all
pub take_min : {X : Type 0} (n : ℕ) (xs : List X) → take (min (length xs) n) xs ≡ take n xs
take_min n [] = take-nil (min 0 n) ∙ sym (take-nil n)
take_min {X} zero (x ∷ xs) = ap (λ (k : ℕ). take k (x ∷ xs)) none
  where
    none : min (length (x ∷ xs)) 0 ≡ 0
    none = omega arith
take_min {X} (suc n) (x ∷ xs) = ap (λ (k : ℕ). take k (x ∷ xs)) same ∙ ap (λ (zs : List X). x ∷ zs) (take_min n xs)
  where
    same : min (length (x ∷ xs)) (suc n) ≡ suc (min (length xs) n)
    same = omega arith

-- ---- entries

entries_length : (job : Job) (plugin : PluginConfig) (datagram moment row : ℕ) (flows : List FlowRecord) → length (entries_from job unrouted plugin datagram moment row flows) ≡ length flows
entries_length job plugin datagram moment row [] = refl
entries_length job plugin datagram moment row (flow ∷ flows) = ap suc (entries_length job plugin datagram moment (row + 1) flows)

all_entries_length : (job : Job) (plugin : PluginConfig) (earlier flows : List Datagram) → length (all_behind (entries_in job unrouted plugin) earlier flows) ≡ length (all_behind (records_in job) earlier flows)
all_entries_length job plugin earlier [] = refl
all_entries_length job plugin earlier (d ∷ flows) =
    length-append (entries_in job unrouted plugin earlier d) (all_behind (entries_in job unrouted plugin) (d ∷ earlier) flows)
    ∙ ap₂ (λ (m n : ℕ). m + n) (entries_length job plugin (length earlier + 1) d.moment 1 (records_in job earlier d)) (all_entries_length job plugin (d ∷ earlier) flows)
    ∙ sym (length-append (records_in job earlier d) (all_behind (records_in job) (d ∷ earlier) flows))

pub entries_taken : (job : Job) (course : Course) (plugin : PluginConfig) (datagram moment row n : ℕ) (flows : List FlowRecord)
    → take n (entries_from job course plugin datagram moment row flows) ≡ entries_from job course plugin datagram moment row (take n flows)
entries_taken job course plugin datagram moment row zero flows = refl
entries_taken job course plugin datagram moment row (suc n) [] = refl
entries_taken job course plugin datagram moment row (suc n) (flow ∷ flows) =
    ap (λ (entries : List Entry). entry_at job course plugin datagram moment row flow ∷ entries) (entries_taken job course plugin datagram moment (row + 1) n flows)

-- how many entries are due
pub due_length : (job : Job) (most : Most) (plugin : PluginConfig) (flows : List Datagram) → length (due job most unrouted plugin flows) ≡ min most.records (length (records_of job flows))
due_length job most plugin flows =
    length-take most.records (over_all (entries_in job unrouted plugin) flows)
    ∙ ap (λ (n : ℕ). min most.records n) (all_entries_length job plugin [] flows)

pub due_none : (job : Job) (most : Most) (plugin : PluginConfig) → [] ≡ due job most unrouted plugin []
due_none job most plugin = sym (take-nil most.records)

-- the entries that are due of one datagram more
pub due_more : (job : Job) (most : Most) (plugin : PluginConfig) (flows : List Datagram) (d : Datagram) (room : ℕ) → room ≡ most.records - length (records_of job flows)
    → due job most unrouted plugin flows ++ take room (entries_in job unrouted plugin (reverse flows) d) ≡ due job most unrouted plugin (flows ++ d ∷ [])
due_more job most plugin flows d room is =
    sym (ap (take most.records) (over_all_more (entries_in job unrouted plugin) flows d)
    ∙ take_append most.records (over_all (entries_in job unrouted plugin) flows) (entries_in job unrouted plugin (reverse flows) d)
    ∙ ap (λ (n : ℕ). due job most unrouted plugin flows ++ take n (entries_in job unrouted plugin (reverse flows) d))
    (ap (λ (n : ℕ). most.records - n) (all_entries_length job plugin [] flows) ∙ sym is))
