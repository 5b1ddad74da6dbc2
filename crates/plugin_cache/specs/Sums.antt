-- Sums by key.
use Rattle.std.specs.Prelude.{◌≡◌, Bool, List, [], ◌∷◌, ◌++◌, Option, Some, None, unwrap_or, if◌then◌else◌, map}
use Rattle.std.specs.List.{list_any}
use Rattle.std.specs.List.Sorted.{IsStrictlySortedBy}
use Rattle.std.specs.Map.{lookup}
use Rattle.acct_types.specs.Counts.{plus, nothing}
use Rattle.acct_types.specs.declared.flow.Counts.{Counts}
use Rattle.acct_types.specs.declared.cell.Cell.{Cell}
use Rattle.acct_types.specs.Cells.{key_eq, key_cmp}

-- the sums of a key over entries or rows
abbrev pub sums_of : List (List Cell × Counts) → List Cell → Counts
sums_of [] key = nothing
sums_of (entry ∷ entries) key = if key_eq key entry.0 then plus entry.1 (sums_of entries key) else sums_of entries key

-- an entry has this key
abbrev pub has_key : List (List Cell × Counts) → List Cell → Bool
has_key entries key = list_any (λ entry. key_eq key entry.0) entries

-- the row of a key: its sums, where an entry has the key
abbrev pub row_of : List (List Cell × Counts) → List Cell → Option Counts
row_of entries key = if has_key entries key then Some (sums_of entries key) else None

abbrev pub keys_in : List (List Cell × Counts) → List (List Cell)
keys_in rows = map (λ row. row.0) rows

-- what the row of a key has, and nothing without a row
abbrev pub count_in : List (List Cell × Counts) → List Cell → Counts
count_in rows key = unwrap_or (lookup (key_eq key) rows) nothing

-- The rows are those of the entries: each key of an entry once, in order, with its sums, and no other key.
pub record IsPurge (entries rows : List (List Cell × Counts)) : Type 0 where
  pub order : IsStrictlySortedBy key_cmp (keys_in rows)
  pub sums : (key : List Cell) → lookup (key_eq key) rows ≡ row_of entries key

-- the rows, with an entry added to its key's row, or in a new row at the end
abbrev pub added : List (List Cell × Counts) → List Cell → Counts → List (List Cell × Counts)
added [] key counts = (key, counts) ∷ []
added (row ∷ rows) key counts = if key_eq key row.0 then (row.0, plus row.1 counts) ∷ rows else row ∷ added rows key counts

-- the rows after each entry of a list
abbrev pub all_added : List (List Cell × Counts) → List (List Cell × Counts) → List (List Cell × Counts)
all_added rows [] = rows
all_added rows (entry ∷ entries) = all_added (added rows entry.0 entry.1) entries

-- entries have one list of rows
abbrev pub HaveOnePurge : Type 0
HaveOnePurge = (entries some other : List (List Cell × Counts)) → IsPurge entries some → IsPurge entries other → some ≡ other

-- Nothing is lost or made: over the rows each key has the sums that it has over the entries.
abbrev pub PurgesConserve : Type 0
PurgesConserve = (entries rows : List (List Cell × Counts)) → IsPurge entries rows → (key : List Cell) → sums_of rows key ≡ sums_of entries key

-- Entries are added one after another, each to the row of its key alone, and leave the row of each key.
pub record EntriesAddUp : Type 0 where
  pub one : (rows entries : List (List Cell × Counts)) (entry : List Cell × Counts) → added (all_added rows entries) entry.0 entry.1 ≡ all_added rows (entries ++ entry ∷ [])
  pub joined : (rows first next : List (List Cell × Counts)) → all_added rows (first ++ next) ≡ all_added (all_added rows first) next
  pub counts : (rows : List (List Cell × Counts)) (key : List Cell) (counts : Counts) (other : List Cell)
      → count_in (added rows key counts) other ≡ (if key_eq other key then plus (count_in rows other) counts else count_in rows other)
  pub rows : (entries : List (List Cell × Counts)) (key : List Cell) → lookup (key_eq key) (all_added [] entries) ≡ row_of entries key
