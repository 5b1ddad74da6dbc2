-- Entries with the same sums by key have the same totals.
use Rattle.std.proofs.Common.{◌≡◌, ◌∙◌, ◌≤◌, ◌+◌, ◌∷◌, ◌++◌, [], ℕ, zero, suc, List, Bool, true, false, refl, sym, ap, ap₂, arith, length}
use Rattle.std.specs.Prelude.{if◌then◌else◌}
use Rattle.std.specs.Cmp.{IsTotalOrder}
use Rattle.std.proofs.lemmas.Cmp.{eq_by_cmp_equiv}
use Rattle.acct_types.specs.Cells.{key_cmp, key_eq}
use Rattle.acct_types.specs.Counts.{nothing, plus}
use Rattle.acct_types.specs.declared.cell.Cell.{Cell}
use Rattle.acct_types.specs.declared.flow.Counts.{Counts}
use Rattle.acct_types.specs.declared.item.Item.{Item}
use Rattle.acct_types.specs.declared.item.Purge.{Purge}
use Rattle.config_keys.specs.declared.plugin.PluginConfig.{PluginConfig}
use Rattle.plugin_cache.specs.Slices.{Entry, SlicesConserve, rows_in}
use Rattle.plugin_cache.specs.Sums.{sums_of}
use Rattle.plugin_work.specs.Output.{ArePurgesOf, entries_of, limit_of, OutputsConserve, refresh_of, timed_items, totals_of}
use Rattle.plugin_work.proofs.OutputLemmas.{entries_timed}

counts_same : (a b : Counts) → a.bytes ≡ b.bytes → a.packets ≡ b.packets → a.flows ≡ b.flows → a ≡ b
counts_same a b x y z = λ i. record { bytes = x i; packets = y i; flows = z i }

grouped : (a b c : Counts) → plus a (plus b c) ≡ plus (plus a b) c
grouped a b c = counts_same _ _ (omega arith) (omega arith) (omega arith)

swapped : (a b c : Counts) → plus a (plus b c) ≡ plus b (plus a c)
swapped a b c = counts_same _ _ (omega arith) (omega arith) (omega arith)

pub nothing_last : (c : Counts) → plus c nothing ≡ c
nothing_last c = counts_same _ _ (omega arith) (omega arith) (omega arith)

-- the entries of other keys
without : List Cell → List Entry → List Entry
without key [] = []
without key (entry ∷ entries) = if key_eq key entry.0 then without key entries else entry ∷ without key entries

-- all totals are the sums of a key and the totals of the others
split_off : (key : List Cell) (entries : List Entry) → totals_of entries ≡ plus (sums_of entries key) (totals_of (without key entries))
unfolding without
split_off key [] = counts_same _ _ (omega arith) (omega arith) (omega arith)
split_off key (entry ∷ entries) = ap (plus entry.1) (split_off key entries) ∙ by (key_eq key entry.0)
  where
    by : (b : Bool) → plus entry.1 (plus (sums_of entries key) (totals_of (without key entries)))
        ≡ plus (if b then plus entry.1 (sums_of entries key) else sums_of entries key) (totals_of (if b then without key entries else entry ∷ without key entries))
    by true = grouped entry.1 (sums_of entries key) (totals_of (without key entries))
    by false = swapped entry.1 (sums_of entries key) (totals_of (without key entries))

-- without a key its sums are nothing, and those of the others are as before
sums_without : IsTotalOrder key_cmp → (key : List Cell) (entries : List Entry) (other : List Cell) → sums_of (without key entries) other ≡ (if key_eq key other then nothing else sums_of entries other)
unfolding without
sums_without total key [] other = by (key_eq key other)
  where
    by : (b : Bool) → nothing ≡ (if b then nothing else nothing)
    by true = refl
    by false = refl
sums_without total key (entry ∷ entries) other = by (key_eq key entry.0) (key_eq key other) (key_eq other entry.0) refl refl refl (sums_without total key entries other)
  where
    -- of two keys that are one, both are that of the entry or neither is
    alike : key_eq key other ≡ true → key_eq key entry.0 ≡ key_eq other entry.0
    alike = (eq_by_cmp_equiv total).congr key other entry.0

    by : (here there at : Bool) → key_eq key entry.0 ≡ here → key_eq key other ≡ there → key_eq other entry.0 ≡ at
        → sums_of (without key entries) other ≡ (if there then nothing else sums_of entries other)
        → sums_of (if here then without key entries else entry ∷ without key entries) other ≡ (if there then nothing else (if at then plus entry.1 (sums_of entries other) else sums_of entries other))
    by true true at a b c rest = rest
    by true false true a b c rest = let e : false ≡ true = sym b ∙ (eq_by_cmp_equiv total).symm key other ∙ (eq_by_cmp_equiv total).congr other entry.0 key c ∙ (eq_by_cmp_equiv total).symm entry.0 key ∙ a in cc e
    by true false false a b c rest = rest
    by false true true a b c rest = let e : false ≡ true = sym a ∙ alike b ∙ c in cc e
    by false true false a b c rest = ap (λ (at : Bool). if at then plus entry.1 (sums_of (without key entries) other) else sums_of (without key entries) other) c ∙ rest
    by false false true a b c rest = ap (λ (at : Bool). if at then plus entry.1 (sums_of (without key entries) other) else sums_of (without key entries) other) c ∙ ap (plus entry.1) rest
    by false false false a b c rest = ap (λ (at : Bool). if at then plus entry.1 (sums_of (without key entries) other) else sums_of (without key entries) other) c ∙ rest

no_longer : (key : List Cell) (entries : List Entry) → length (without key entries) ≤ length entries
unfolding without
no_longer key [] = omega arith
no_longer key (entry ∷ entries) = by (key_eq key entry.0) (no_longer key entries)
  where
    by : (b : Bool) → length (without key entries) ≤ length entries → length (if b then without key entries else entry ∷ without key entries) ≤ length (entry ∷ entries)
    by true rest = omega (arith, rest)
    by false rest = omega (arith, rest)

shorter : IsTotalOrder key_cmp → (entry : Entry) (entries : List Entry) → length (without entry.0 (entry ∷ entries)) ≤ length entries
unfolding without
shorter total entry entries = rw ((eq_by_cmp_equiv total).refl entry.0) (no_longer entry.0 entries)

-- the sums by key are the same
Same : List Entry → List Entry → Type 0
Same some other = (key : List Cell) → sums_of some key ≡ sums_of other key

same_without : IsTotalOrder key_cmp → (key : List Cell) (some other : List Entry) → Same some other → Same (without key some) (without key other)
unfolding Same
same_without total key some other same at =
    sums_without total key some at
    ∙ ap (λ (sums : Counts). if key_eq key at then nothing else sums) (same at)
    ∙ sym (sums_without total key other at)

-- the totals are those of a key and those of the others
from_others : (key : List Cell) (some other : List Entry) → Same some other → totals_of (without key some) ≡ totals_of (without key other) → totals_of some ≡ totals_of other
unfolding Same
from_others key some other same rest = split_off key some ∙ ap₂ plus (same key) rest ∙ sym (split_off key other)

same_totals : IsTotalOrder key_cmp → (most : ℕ) (some other : List Entry) → length some + length other ≤ most → Same some other → totals_of some ≡ totals_of other
same_totals total most [] [] few same = refl
same_totals total zero [] (entry ∷ other) few same = absurd (omega (arith, few))
same_totals total zero (entry ∷ some) other few same = absurd (omega (arith, few))
same_totals total (suc most) [] (entry ∷ other) few same =
    from_others entry.0 [] (entry ∷ other) same
    (same_totals total most (without entry.0 []) (without entry.0 (entry ∷ other)) (omega (arith, few, no_longer entry.0 [], shorter total entry other)) (same_without total entry.0 [] (entry ∷ other) same))
same_totals total (suc most) (entry ∷ some) other few same =
    from_others entry.0 (entry ∷ some) other same
    (same_totals total most (without entry.0 (entry ∷ some)) (without entry.0 other) (omega (arith, few, no_longer entry.0 other, shorter total entry some)) (same_without total entry.0 (entry ∷ some) other same))

pub outputs_conserve : IsTotalOrder key_cmp → SlicesConserve → OutputsConserve
unfolding Same
outputs_conserve total conserve = record {
  sums = kept;
  totals = λ config items purges are.
      let most : ℕ = length (rows_in purges) + length (entries_of items) in
      same_totals total most (rows_in purges) (entries_of items) (at_most most) (kept config items purges are);
}
  where
    at_most : (n : ℕ) → n ≤ n
    at_most n = omega arith

    kept : (config : PluginConfig) (items : List Item) (purges : List Purge) → ArePurgesOf config items purges → (key : List Cell) → sums_of (rows_in purges) key ≡ sums_of (entries_of items) key
    kept config items purges are key =
        conserve (limit_of config) (timed_items config items) purges are key
        ∙ ap (λ (entries : List Entry). sums_of entries key) (entries_timed (refresh_of config) items)

-- the totals with one item more
pub totals_more : (items : List Item) (item : Item) → totals_of (entries_of (items ++ item ∷ [])) ≡ plus (totals_of (entries_of items)) item.counts
totals_more [] item = counts_same _ _ (omega arith) (omega arith) (omega arith)
totals_more (x ∷ items) item = ap (plus x.counts) (totals_more items item) ∙ grouped x.counts (totals_of (entries_of items)) item.counts
