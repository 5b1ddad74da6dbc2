-- Rows in the order of their keys: each slice has a purge.
use Rattle.std.proofs.Common.{◌≡◌, ◌∙◌, ◌∷◌, [], List, Bool, true, false, cond, Some, refl, sym, ap, Ordering, Less, Equal, Greater, T}
use Rattle.std.specs.Prelude.{◌&&◌}
use Rattle.std.specs.List.{AllByRecursion}
use Rattle.std.specs.List.Sorted.{IsStrictlySortedBy}
use Rattle.std.specs.Map.{lookup}
use Rattle.std.specs.Cmp.{IsTotalOrder}
use Rattle.std.specs.Ordering.{is_lt}
use Rattle.std.specs.FinMap.{FinMap, entries, entries_sorted, from_entries, get-entries, get-from_entries}
use Rattle.std.specs.FinMap.Entries.{below_all, find, is_sorted}
use Rattle.acct_types.specs.declared.flow.Counts.{Counts}
use Rattle.acct_types.specs.declared.cell.Cell.{Cell}
use Rattle.acct_types.specs.declared.item.Purge.{Purge}
use Rattle.acct_types.specs.Cells.{key_cmp, key_eq}
use Rattle.plugin_cache.specs.Slices.{Entry, IsLetGo, OneForEach, Slice}
use Rattle.plugin_cache.specs.Sums.{keys_in}

first_of : (a b : Bool) → T (a && b) → T a
first_of true b p = tt
first_of false b p = p

second_of : (a b : Bool) → T (a && b) → T b
second_of true b p = p
second_of false b p = absurd p

less : (o : Ordering) → T (is_lt o) → o ≡ Less
less Less p = refl
less Equal p = absurd p
less Greater p = absurd p

all_above : (key : List Cell) (rows : List Entry) → T (below_all key_cmp key rows) → AllByRecursion (λ other. key_cmp key other ≡ Less) (keys_in rows)
all_above key [] p = tt
all_above key (row ∷ rows) p = (
  less (key_cmp key row.0) (first_of (is_lt (key_cmp key row.0)) (below_all key_cmp key rows) p),
  all_above key rows (second_of (is_lt (key_cmp key row.0)) (below_all key_cmp key rows) p),
)

strictly_sorted : (rows : List Entry) → T (is_sorted key_cmp rows) → IsStrictlySortedBy key_cmp (keys_in rows)
unfolding IsStrictlySortedBy
strictly_sorted [] p = tt
strictly_sorted (row ∷ rows) p = (
  all_above row.0 rows (first_of (below_all key_cmp row.0 rows) (is_sorted key_cmp rows) p),
  strictly_sorted rows (second_of (below_all key_cmp row.0 rows) (is_sorted key_cmp rows) p),
)

lookup_is_find : (rows : List Entry) (key : List Cell) → lookup (key_eq key) rows ≡ find key_cmp key rows
lookup_is_find [] key = refl
lookup_is_find (row ∷ rows) key = ap (cond (key_eq key row.0) (Some row.1)) (lookup_is_find rows key)

by_key : List Entry → FinMap key_cmp Counts
by_key rows = from_entries {R = key_cmp} rows

-- each slice of a cache has a purge
purge_there : IsTotalOrder key_cmp → (slice : Slice) → (purge : Purge) × IsLetGo slice purge
unfolding by_key
purge_there total slice = (
  record { window = slice.0; rows = entries (by_key slice.1) },
  record {
    window = refl;
    order = strictly_sorted (entries (by_key slice.1)) (entries_sorted (by_key slice.1));
    rows = λ key.
        lookup_is_find (entries (by_key slice.1)) key
        ∙ sym (get-entries (by_key slice.1) key)
        ∙ get-from_entries total slice.1 key
        ∙ sym (lookup_is_find slice.1 key);
  },
)

pub purges_there : IsTotalOrder key_cmp → (slices : List Slice) → (purges : List Purge) × OneForEach IsLetGo slices purges
purges_there total [] = ([], tt)
purges_there total (slice ∷ slices) =
    let first = purge_there total slice in
    let others = purges_there total slices in
    (first.0 ∷ others.0, (first.1, others.1))
