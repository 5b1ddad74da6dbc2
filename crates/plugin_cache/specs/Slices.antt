-- Slices of items, and the purges of a cache.
use Rattle.std.specs.Prelude.{◌≡◌, ◌==◌, ◌&&◌, ◌||◌, ◌<◌, ◌≤◌, ◌*◌, ◌/◌, ◌^◌, ◌++◌, ℕ, suc, Bool, true, false, not, nat_le, List, [], ◌∷◌, length, map, Option, Some, None, IfSome, MatchOption, if◌then◌else◌, ⊤}
use Rattle.std.specs.List.Sorted.{IsStrictlySortedBy}
use Rattle.std.specs.Map.{lookup}
use Rattle.acct_types.specs.Cells.{key_cmp, key_eq}
use Rattle.acct_types.specs.Counts.{CountsFit, IsBelow, plus}
use Rattle.acct_types.specs.declared.cell.Cell.{Cell}
use Rattle.acct_types.specs.declared.flow.Counts.{Counts}
use Rattle.acct_types.specs.declared.item.Item.{Item}
use Rattle.acct_types.specs.declared.item.Purge.{Purge}
use Rattle.plugin_cache.specs.Sums.{added, count_in, has_key, IsPurge, keys_in, sums_of}

-- what is counted under which key
abbrev pub Entry : Type 0
Entry = List Cell × Counts

-- an entry with the number of its window
abbrev pub Timed : Type 0
Timed = ℕ × Entry

-- entries of one window
abbrev pub Slice : Type 0
Slice = ℕ × List Entry

-- the number of the window of a moment in milliseconds, where windows have so many seconds: without them there is one window
abbrev pub window_of : Option ℕ → ℕ → ℕ
window_of None moment = 0
window_of (Some seconds) moment = moment / (1000 * seconds)

-- an item's entry with its window
abbrev pub timed : Option ℕ → Item → Timed
timed refresh item = (window_of refresh item.moment, (item.key, item.counts))

-- how many different keys the entries have
abbrev pub different_keys : List Entry → ℕ
different_keys [] = 0
different_keys (entry ∷ entries) = if has_key entries entry.0 then different_keys entries else suc (different_keys entries)

-- so many keys are all that there may be
abbrev pub is_full : Option ℕ → ℕ → Bool
is_full None keys = false
is_full (Some limit) keys = nat_le limit keys

-- an entry doesn't go with a slice: its window differs, or the slice has all its keys and this is a new one
abbrev pub is_cut : Option ℕ → Slice → Timed → Bool
is_cut limit slice item = not (item.0 == slice.0) || (is_full limit (different_keys slice.1) && not (has_key slice.1 item.1.0))

-- the slices of a list that begins with a slice
abbrev pub slices_after : Option ℕ → Slice → List Timed → List Slice
slices_after limit slice [] = slice ∷ []
slices_after limit slice (item ∷ items) =
    if is_cut limit slice item
    then slice ∷ slices_after limit (item.0, item.1 ∷ []) items
    else slices_after limit (slice.0, slice.1 ++ item.1 ∷ []) items

-- A list is cut before each entry whose window differs from that of the entry before it, and before each whose key would be
-- one key more than the limit in its slice. An empty list has no slice.
abbrev pub slices_of : Option ℕ → List Timed → List Slice
slices_of limit [] = []
slices_of limit (item ∷ items) = slices_after limit (item.0, item.1 ∷ []) items

-- the purge of a slice: its window, and its different keys in order with their sums
pub record IsPurgeOf (slice : Slice) (purge : Purge) : Type 0 where
  pub window : purge.window ≡ slice.0
  pub rows : IsPurge slice.1 purge.rows

-- one purge for each slice, in their order
abbrev pub OneForEach : (Slice → Purge → Type 0) → List Slice → List Purge → Type 0
OneForEach Is [] [] = ⊤
OneForEach Is [] (purge ∷ purges) = ⊥
OneForEach Is (slice ∷ slices) [] = ⊥
OneForEach Is (slice ∷ slices) (purge ∷ purges) = Is slice purge × OneForEach Is slices purges

-- A cache: how many keys and how many seconds a slice may have at most, and the window and the rows of the slice that it is at,
-- with the keys in the order in which they came.
pub record CacheState : Type 0 where
  pub limit : Option ℕ
  pub refresh : Option ℕ
  pub window : ℕ
  pub rows : List Entry

-- a cache that was given nothing
abbrev pub fresh : Option ℕ → Option ℕ → CacheState
fresh limit refresh = record { limit = limit; refresh = refresh; window = 0; rows = [] }

abbrev pub is_empty : List Entry → Bool
is_empty rows = length rows == 0

-- A cache has no more keys than its limit, which is at least 1, as are the seconds of its windows.
pub record IsWithin (limit refresh : Option ℕ) (rows : List Entry) : Type 0 where
  pub some_keys : IfSome limit (λ keys. 0 < keys)
  pub some_seconds : IfSome refresh (λ seconds. 0 < seconds)
  pub fits : IfSome limit (λ keys. length rows ≤ keys)

-- an item of this window and key doesn't go with the slice that a cache is at
abbrev pub completes : CacheState → ℕ → List Cell → Bool
completes cache window key = not (is_empty cache.rows) && (not (window == cache.window) || (is_full cache.limit (length cache.rows) && not (has_key cache.rows key)))

-- a cache after an entry, which begins the next slice where it completes one
abbrev pub after : CacheState → Timed → CacheState
after cache item = record {
  limit = cache.limit;
  refresh = cache.refresh;
  window = item.0;
  rows = if completes cache item.0 item.1.0 then item.1 ∷ [] else added cache.rows item.1.0 item.1.1;
}

-- the purge of the slice that a cache is at: its window, and its rows in the order of their keys
pub record IsLetGo (slice : Slice) (purge : Purge) : Type 0 where
  pub window : purge.window ≡ slice.0
  pub order : IsStrictlySortedBy key_cmp (keys_in purge.rows)
  pub rows : (key : List Cell) → lookup (key_eq key) purge.rows ≡ lookup (key_eq key) slice.1

-- the answer to an entry: a purge exactly where it completes a slice
abbrev pub AnswersEntry : CacheState → Timed → Option Purge → Type 0
AnswersEntry cache item answer = MatchOption answer (completes cache item.0 item.1.0 ≡ false) (λ purge. (completes cache item.0 item.1.0 ≡ true) × IsLetGo (cache.window, cache.rows) purge)

-- the answer at the end: a purge exactly where there are rows
abbrev pub AnswersEnd : CacheState → Option Purge → Type 0
AnswersEnd cache answer = MatchOption answer (is_empty cache.rows ≡ true) (λ purge. (is_empty cache.rows ≡ false) × IsLetGo (cache.window, cache.rows) purge)

-- the slices that a cache lets go, as its rows, over entries and then at the end
abbrev pub let_go : CacheState → List Timed → List Slice
let_go cache [] = if is_empty cache.rows then [] else (cache.window, cache.rows) ∷ []
let_go cache (item ∷ items) =
    if completes cache item.0 item.1.0
    then (cache.window, cache.rows) ∷ let_go (after cache item) items
    else let_go (after cache item) items

-- what was counted under which key, over all purges
abbrev pub rows_in : List Purge → List Entry
rows_in [] = []
rows_in (purge ∷ purges) = purge.rows ++ rows_in purges

abbrev pub entries_in : List Timed → List Entry
entries_in items = map (λ item. item.1) items

-- what a cache answers to a list of entries and then to the end are the purges of its slices
abbrev pub SlicesArePurged : Type 0
SlicesArePurged = (limit refresh : Option ℕ) (items : List Timed) (purges : List Purge)
    → OneForEach IsLetGo (let_go (fresh limit refresh) items) purges → OneForEach IsPurgeOf (slices_of limit items) purges

-- Nothing is lost or made: over all purges each key has the sums that it has over the entries.
abbrev pub SlicesConserve : Type 0
SlicesConserve = (limit : Option ℕ) (items : List Timed) (purges : List Purge)
    → OneForEach IsPurgeOf (slices_of limit items) purges → (key : List Cell) → sums_of (rows_in purges) key ≡ sums_of (entries_in items) key

-- none of the counts is above a limit
abbrev pub IsAtMost : ℕ → Counts → Type 0
IsAtMost limit counts = (counts.bytes ≤ limit) × (counts.packets ≤ limit) × (counts.flows ≤ limit)

-- no key has more than so many items below 2^96 give
abbrev pub SumUpTo : ℕ → List Entry → Type 0
SumUpTo items rows = (key : List Cell) → IsAtMost (items * 2 ^ 96) (count_in rows key)

-- The sums of fewer than 2^32 items stay below 2^128.
pub record FewItemsFit : Type 0 where
  pub none : SumUpTo 0 []
  pub one : (cache : CacheState) (item : Timed) (items : ℕ) → SumUpTo items cache.rows → IsBelow (2 ^ 96) item.1.1 → SumUpTo (suc items) (after cache item).rows
  pub fit : (rows : List Entry) (key : List Cell) (counts : Counts) (items : ℕ) → suc items < 2 ^ 32 → SumUpTo items rows → IsBelow (2 ^ 96) counts → CountsFit (plus (count_in rows key) counts)
