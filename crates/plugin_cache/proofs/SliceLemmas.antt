-- What a cache lets go, and the slices of its items.
use Rattle.std.proofs.Common.{◌≡◌, ◌∙◌, ◌==◌, ◌<◌, ◌≤◌, ◌∷◌, ◌++◌, [], ℕ, zero, suc, ◌*◌, ◌^◌, List, Bool, true, false, Option, Some, None, refl, sym, ap, ap₂, length, map, arith, append_assoc, unwrap_or, cond}
use Rattle.std.specs.Prelude.{if◌then◌else◌, ◌||◌, ◌&&◌, IfSome, is_some, nat_le, not}
use Rattle.std.specs.Cmp.{IsTotalOrder}
use Rattle.std.proofs.lemmas.Bool.{eqb-true}
use Rattle.std.proofs.lemmas.Cmp.{eq_by_cmp_equiv}
use Rattle.acct_types.specs.declared.flow.Counts.{Counts}
use Rattle.acct_types.specs.declared.cell.Cell.{Cell}
use Rattle.acct_types.specs.declared.item.Purge.{Purge}
use Rattle.acct_types.specs.Cells.{key_cmp, key_eq}
use Rattle.acct_types.specs.Counts.{IsBelow, nothing, plus}
use Rattle.plugin_cache.specs.Sums.{added, all_added, count_in, has_key, PurgesConserve, sums_of}
use Rattle.plugin_cache.specs.Slices.{after, CacheState, completes, different_keys, entries_in, Entry, FewItemsFit, fresh, is_cut, is_empty, is_full, IsAtMost, IsLetGo, IsPurgeOf, IsWithin, let_go, OneForEach, rows_in, Slice, slices_after, slices_of, SlicesArePurged, SlicesConserve, SumUpTo, Timed}
use Rattle.plugin_cache.proofs.SumLemmas.{Rows, adds_up, all_added_more, count_added, is_found, nothing_first, rows_of_entries}

-- ---- the rows of a slice

-- an entry takes a new row where its key is new
rows_with : (rows : Rows) (k : List Cell) (c : Counts) → length (added rows k c) ≡ (if has_key rows k then length rows else suc (length rows))
rows_with [] k c = refl
rows_with (e ∷ rows) k c = by (key_eq k e.0) (has_key rows k) (rows_with rows k c)
  where
    by : (b h : Bool) → length (added rows k c) ≡ (if h then length rows else suc (length rows))
        → length (if b then (e.0, plus e.1 c) ∷ rows else e ∷ added rows k c) ≡ (if b || h then suc (length rows) else suc (suc (length rows)))
    by true h rest = refl
    by false true rest = ap suc rest
    by false false rest = ap suc rest

-- a key has a row where it has an entry
has_row : IsTotalOrder key_cmp → (entries : Rows) (k : List Cell) → has_key (all_added [] entries) k ≡ has_key entries k
has_row total entries k = sym (is_found (all_added [] entries) k) ∙ ap (λ (o : Option Counts). is_some o) (rows_of_entries total entries k) ∙ by (has_key entries k)
  where
    by : (h : Bool) → is_some (if h then Some (sums_of entries k) else None) ≡ h
    by true = refl
    by false = refl

has_key_with : (entries : Rows) (e : Entry) (k : List Cell) → has_key (entries ++ e ∷ []) k ≡ (has_key entries k || key_eq k e.0)
has_key_with [] e k = by (key_eq k e.0)
  where
    by : (b : Bool) → (b || false) ≡ b
    by true = refl
    by false = refl
has_key_with (x ∷ entries) e k = by (key_eq k x.0) (has_key_with entries e k)
  where
    by : (b : Bool) → has_key (entries ++ e ∷ []) k ≡ (has_key entries k || key_eq k e.0) → (b || has_key (entries ++ e ∷ []) k) ≡ ((b || has_key entries k) || key_eq k e.0)
    by true rest = refl
    by false rest = rest

-- of two keys that are the same each is there where the other is
same_has : IsTotalOrder key_cmp → (entries : Rows) (a b : List Cell) → key_eq a b ≡ true → has_key entries a ≡ has_key entries b
same_has total [] a b same = refl
same_has total (e ∷ entries) a b same = ap₂ (λ (x y : Bool). x || y) one (same_has total entries a b same)
  where
    one : key_eq a e.0 ≡ key_eq b e.0
    one = (eq_by_cmp_equiv total).congr a b e.0 same

-- one more entry is one more key where its key is new
different_with : IsTotalOrder key_cmp → (entries : Rows) (e : Entry) → different_keys (entries ++ e ∷ []) ≡ (if has_key entries e.0 then different_keys entries else suc (different_keys entries))
different_with total [] e = refl
different_with total (x ∷ entries) e =
    ap₂ (λ (b : Bool) (n : ℕ). if b then n else suc n) (has_key_with entries e x.0) (different_with total entries e)
    ∙ by (has_key entries x.0) (key_eq x.0 e.0) (has_key entries e.0) (same_has total entries x.0 e.0)
    ∙ ap (λ (b : Bool). if b || has_key entries e.0 then different_keys (x ∷ entries) else suc (different_keys (x ∷ entries))) ((eq_by_cmp_equiv total).symm x.0 e.0)
  where
    by : (a b d : Bool) → (b ≡ true → a ≡ d) → (if a || b then (if d then different_keys entries else suc (different_keys entries)) else suc (if d then different_keys entries else suc (different_keys entries)))
        ≡ (if b || d then (if a then different_keys entries else suc (different_keys entries)) else suc (if a then different_keys entries else suc (different_keys entries)))
    by true true true same = refl
    by true true false same = cc (same refl)
    by false true true same = cc (same refl)
    by false true false same = refl
    by true false true same = refl
    by true false false same = refl
    by false false true same = refl
    by false false false same = refl

-- ---- a cache keeps within its limit

not_none : (count : ℕ) → (suc count == 0) ≡ false
not_none count = grind arith

room : (w : Bool) (limit count : ℕ) → 0 < limit → (not (count == 0) && (w || (nat_le limit count && true))) ≡ false → suc count ≤ limit
room w limit zero some kept = omega (arith, some)
room w limit (suc count) some kept = by w (nat_le limit (suc count)) refl (rw (not_none count) at kept)
  where
    by : (w full : Bool) → nat_le limit (suc count) ≡ full → (w || (full && true)) ≡ false → suc (suc count) ≤ limit
    by true full is kept = absurd (cc kept)
    by false true is kept = absurd (cc kept)
    by false false is kept = grind (arith, is)

pub keeps_within : (cache : CacheState) (window : ℕ) (k : List Cell) (c : Counts)
    → IsWithin cache.limit cache.refresh cache.rows → completes cache window k ≡ false → IsWithin cache.limit cache.refresh (added cache.rows k c)
keeps_within cache window k c within kept = record {
  some_keys = within.some_keys;
  some_seconds = within.some_seconds;
  fits = by cache.limit within.some_keys within.fits kept;
}
  where
    fits : (h : Bool) (limit : ℕ) → 0 < limit → length cache.rows ≤ limit
        → (not (is_empty cache.rows) && (not (window == cache.window) || (nat_le limit (length cache.rows) && not h))) ≡ false → (if h then length cache.rows else suc (length cache.rows)) ≤ limit
    fits true limit some before kept = before
    fits false limit some before kept = room (not (window == cache.window)) limit (length cache.rows) some kept

    by : (limit : Option ℕ) → IfSome limit (λ keys. 0 < keys) → IfSome limit (λ keys. length cache.rows ≤ keys)
        → (not (is_empty cache.rows) && (not (window == cache.window) || (is_full limit (length cache.rows) && not (has_key cache.rows k)))) ≡ false → IfSome limit (λ keys. length (added cache.rows k c) ≤ keys)
    by None some before kept = tt
    by (Some limit) some before kept = rw (rows_with cache.rows k c) (fits (has_key cache.rows k) limit some before kept)

-- ---- what is let go are the slices

-- a cache that is at a slice
abbrev at_slice : Option ℕ → Option ℕ → Slice → CacheState
at_slice limit refresh slice = record { limit = limit; refresh = refresh; window = slice.0; rows = all_added [] slice.1 }

abbrev summed : Slice → Slice
summed slice = (slice.0, all_added [] slice.1)

-- the rows of a slice with an entry, of which there is one for each different key
record HasRows (slice : Slice) : Type 0 where
  some : is_empty (all_added [] slice.1) ≡ false
  count : length (all_added [] slice.1) ≡ different_keys slice.1

first_rows : (window : ℕ) (e : Entry) → HasRows (window, e ∷ [])
first_rows window e = record { some = refl; count = refl }

more_rows : IsTotalOrder key_cmp → (slice : Slice) (e : Entry) → HasRows slice → HasRows (slice.0, slice.1 ++ e ∷ [])
more_rows total slice e has = record {
  some = rw (← more) (by (has_key rows e.0) has.some (rows_with rows e.0 e.1));
  count = ap length (sym more) ∙ rows_with rows e.0 e.1
      ∙ ap₂ (λ (b : Bool) (n : ℕ). if b then n else suc n) (has_row total slice.1 e.0) has.count ∙ sym (different_with total slice.1 e);
}
  where
    rows : Rows
    rows = all_added [] slice.1

    more : added rows e.0 e.1 ≡ all_added [] (slice.1 ++ e ∷ [])
    more = all_added_more slice.1 [] e

    by : (h : Bool) → is_empty rows ≡ false → length (added rows e.0 e.1) ≡ (if h then length rows else suc (length rows)) → is_empty (added rows e.0 e.1) ≡ false
    by true some count = ap (λ (n : ℕ). n == 0) count ∙ some
    by false some count = ap (λ (n : ℕ). n == 0) count ∙ not_none (length rows)

-- an entry completes the slice of a cache where it is cut from it
same_cut : IsTotalOrder key_cmp → (limit refresh : Option ℕ) (slice : Slice) (item : Timed) → HasRows slice
    → completes (at_slice limit refresh slice) item.0 item.1.0 ≡ is_cut limit slice item
same_cut total limit refresh slice item has =
    ap₂ (λ (b : Bool) (n : ℕ). not b && (not (item.0 == slice.0) || (is_full limit n && not (has_key (all_added [] slice.1) item.1.0)))) has.some has.count
    ∙ ap (λ (b : Bool). not (item.0 == slice.0) || (is_full limit (different_keys slice.1) && not b)) (has_row total slice.1 item.1.0)

same_window : (a b : ℕ) (full : Bool) → (not (a == b) || full) ≡ false → a ≡ b
same_window a b full kept = eqb-true a b (by (a == b) kept)
  where
    by : (e : Bool) → (not e || full) ≡ false → e ≡ true
    by true kept = refl
    by false kept = cc kept

lets_go : IsTotalOrder key_cmp → (limit refresh : Option ℕ) (items : List Timed) (slice : Slice) → HasRows slice
    → let_go (at_slice limit refresh slice) items ≡ map summed (slices_after limit slice items)
lets_go total limit refresh [] slice has = rw has.some refl
lets_go total limit refresh (item ∷ items) slice has =
    rw (same_cut total limit refresh slice item has)
    (by (is_cut limit slice item) refl (lets_go total limit refresh items (item.0, item.1 ∷ []) (first_rows item.0 item.1)) (lets_go total limit refresh items (slice.0, slice.1 ++ item.1 ∷ []) (more_rows total slice item.1 has)))
  where
    rows : Rows
    rows = all_added [] slice.1

    next : Bool → CacheState
    next b = record { limit = limit; refresh = refresh; window = item.0; rows = if b then item.1 ∷ [] else added rows item.1.0 item.1.1 }

    by : (b : Bool) → is_cut limit slice item ≡ b
        → let_go (at_slice limit refresh (item.0, item.1 ∷ [])) items ≡ map summed (slices_after limit (item.0, item.1 ∷ []) items)
        → let_go (at_slice limit refresh (slice.0, slice.1 ++ item.1 ∷ [])) items ≡ map summed (slices_after limit (slice.0, slice.1 ++ item.1 ∷ []) items)
        → (if b then (slice.0, rows) ∷ let_go (next b) items else let_go (next b) items)
        ≡ map summed (if b then slice ∷ slices_after limit (item.0, item.1 ∷ []) items else slices_after limit (slice.0, slice.1 ++ item.1 ∷ []) items)
    by true cut anew on = ap (λ (more : List Slice). (slice.0, rows) ∷ more) anew
    by false kept anew on =
        ap₂ (λ (window : ℕ) (rows : Rows). let_go (record { limit = limit; refresh = refresh; window = window; rows = rows }) items)
        (same_window item.0 slice.0 _ kept) (all_added_more slice.1 [] item.1)
        ∙ on

all_let_go : IsTotalOrder key_cmp → (limit refresh : Option ℕ) (items : List Timed) → let_go (fresh limit refresh) items ≡ map summed (slices_of limit items)
all_let_go total limit refresh [] = refl
all_let_go total limit refresh (item ∷ items) = lets_go total limit refresh items (item.0, item.1 ∷ []) (first_rows item.0 item.1)

-- the rows of a slice are its purge
purges_of : IsTotalOrder key_cmp → (slices : List Slice) (purges : List Purge) → OneForEach IsLetGo (map summed slices) purges → OneForEach IsPurgeOf slices purges
purges_of total [] [] are = tt
purges_of total [] (purge ∷ purges) are = are
purges_of total (slice ∷ slices) [] are = are
purges_of total (slice ∷ slices) (purge ∷ purges) are = (one, purges_of total slices purges are.1)
  where
    one : IsPurgeOf slice purge
    one = record {
      window = are.0.window;
      rows = record { order = are.0.order; sums = λ key. are.0.rows key ∙ rows_of_entries total slice.1 key };
    }

pub slices_are_purged : IsTotalOrder key_cmp → SlicesArePurged
slices_are_purged total limit refresh items purges are = purges_of total (slices_of limit items) purges (rw (← all_let_go total limit refresh items) are)

-- ---- nothing is lost

sums_joined : (a b : Rows) (k : List Cell) → sums_of (a ++ b) k ≡ plus (sums_of a k) (sums_of b k)
sums_joined [] b k = sym (nothing_first (sums_of b k))
sums_joined (e ∷ a) b k = by (key_eq k e.0) (sums_joined a b k)
  where
    by : (h : Bool) → sums_of (a ++ b) k ≡ plus (sums_of a k) (sums_of b k)
        → (if h then plus e.1 (sums_of (a ++ b) k) else sums_of (a ++ b) k) ≡ plus (if h then plus e.1 (sums_of a k) else sums_of a k) (sums_of b k)
    by true rest = ap (plus e.1) rest ∙ sym (adds_up e.1 (sums_of a k) (sums_of b k))
    by false rest = rest

abbrev joined : List Slice → Rows
joined [] = []
joined (slice ∷ slices) = slice.1 ++ joined slices

-- the slices of a list, one behind another, are the list
joined_after : (limit : Option ℕ) (items : List Timed) (slice : Slice) → joined (slices_after limit slice items) ≡ slice.1 ++ entries_in items
joined_after limit [] slice = refl
joined_after limit (item ∷ items) slice = by (is_cut limit slice item) (joined_after limit items (item.0, item.1 ∷ [])) (joined_after limit items (slice.0, slice.1 ++ item.1 ∷ []))
  where
    by : (b : Bool) → joined (slices_after limit (item.0, item.1 ∷ []) items) ≡ item.1 ∷ entries_in items
        → joined (slices_after limit (slice.0, slice.1 ++ item.1 ∷ []) items) ≡ (slice.1 ++ item.1 ∷ []) ++ entries_in items
        → joined (if b then slice ∷ slices_after limit (item.0, item.1 ∷ []) items else slices_after limit (slice.0, slice.1 ++ item.1 ∷ []) items) ≡ slice.1 ++ item.1 ∷ entries_in items
    by true anew on = ap (λ (rest : Rows). slice.1 ++ rest) anew
    by false anew on = on ∙ append_assoc slice.1 (item.1 ∷ []) (entries_in items)

all_joined : (limit : Option ℕ) (items : List Timed) → joined (slices_of limit items) ≡ entries_in items
all_joined limit [] = refl
all_joined limit (item ∷ items) = joined_after limit items (item.0, item.1 ∷ [])

sums_kept : PurgesConserve → (slices : List Slice) (purges : List Purge) → OneForEach IsPurgeOf slices purges → (k : List Cell) → sums_of (rows_in purges) k ≡ sums_of (joined slices) k
sums_kept conserve [] [] are k = refl
sums_kept conserve [] (purge ∷ purges) are k = absurd are
sums_kept conserve (slice ∷ slices) [] are k = absurd are
sums_kept conserve (slice ∷ slices) (purge ∷ purges) are k =
    sums_joined purge.rows (rows_in purges) k
    ∙ ap₂ plus (conserve slice.1 purge.rows are.0.rows k) (sums_kept conserve slices purges are.1 k)
    ∙ sym (sums_joined slice.1 (joined slices) k)

pub slices_conserve : PurgesConserve → SlicesConserve
slices_conserve conserve limit items purges are k =
    sums_kept conserve (slices_of limit items) purges are k ∙ ap (λ (entries : Rows). sums_of entries k) (all_joined limit items)

-- ---- few items fit

one_alone : (items : ℕ) (here : Bool) (c : Counts) → IsBelow (2 ^ 96) c → IsAtMost (suc items * 2 ^ 96) (unwrap_or (cond here (Some c) None) nothing)
one_alone items true c small = (omega (arith, small.0), omega (arith, small.1), omega (arith, small.2))
one_alone items false c small = (omega arith, omega arith, omega arith)

one_more : (items : ℕ) (here : Bool) (had c : Counts) → IsAtMost (items * 2 ^ 96) had → IsBelow (2 ^ 96) c → IsAtMost (suc items * 2 ^ 96) (if here then plus had c else had)
one_more items true had c before small = (omega (arith, before.0, small.0), omega (arith, before.1, small.1), omega (arith, before.2, small.2))
one_more items false had c before small = (omega (arith, before.0), omega (arith, before.1), omega (arith, before.2))

sums_after : IsTotalOrder key_cmp → (cache : CacheState) (item : Timed) (items : ℕ) → SumUpTo items cache.rows → IsBelow (2 ^ 96) item.1.1 → SumUpTo (suc items) (after cache item).rows
sums_after total cache item items before small key = by (completes cache item.0 item.1.0)
  where
    by : (b : Bool) → IsAtMost (suc items * 2 ^ 96) (count_in (if b then item.1 ∷ [] else added cache.rows item.1.0 item.1.1) key)
    by true = one_alone items (key_eq key item.1.0) item.1.1 small
    by false = rw (count_added total cache.rows item.1.0 item.1.1 key) (one_more items (key_eq key item.1.0) (count_in cache.rows key) item.1.1 (before key) small)

pub few_items_fit : IsTotalOrder key_cmp → FewItemsFit
few_items_fit total = record {
  none = λ key. (omega arith, omega arith, omega arith);
  one = sums_after total;
  fit = λ rows key counts items few before small.
      (omega (arith, few, (before key).0, small.0), omega (arith, few, (before key).1, small.1), omega (arith, few, (before key).2, small.2));
}
