-- Sums by key, and the entries of a map.
use Rattle.std.proofs.Common.{◌≡◌, ◌∙◌, ◌∷◌, ◌++◌, [], List, Bool, true, false, cond, Option, Some, None, unwrap_or, refl, sym, ap, ap₂, arith, Less, T}
use Rattle.std.specs.Prelude.{if◌then◌else◌, ◌||◌, ◌&&◌, is_some}
use Rattle.std.specs.List.{AllByRecursion}
use Rattle.std.specs.List.Sorted.{IsStrictlySortedBy}
use Rattle.std.specs.Map.{lookup}
use Rattle.std.specs.FinMap.Entries.{find, below_all, is_sorted, same_entries}
use Rattle.std.proofs.lemmas.Map.Keys.{sorted_head, sorted_tail}
use Rattle.indexmap.specs.IndexMap.{insert_entry}
use Rattle.acct_types.specs.declared.flow.Counts.{Counts}
use Rattle.acct_types.specs.declared.cell.Cell.{Cell}
use Rattle.acct_types.specs.Cells.{key_cmp, key_eq}
use Rattle.acct_types.specs.Counts.{nothing, plus}
use Rattle.plugin_cache.specs.Sums.{added, all_added, count_in, EntriesAddUp, has_key, HaveOnePurge, keys_in, PurgesConserve, row_of, sums_of}
use Rattle.std.specs.Cmp.{IsTotalOrder}
use Rattle.std.proofs.lemmas.Cmp.{eq_by_cmp_equiv}
use Rattle.std.proofs.lemmas.Map.Lookups.{CmpEqualImpliesEq}

abbrev pub Rows : Type 0
Rows = List (List Cell × Counts)

counts_same : (a b : Counts) → a.bytes ≡ b.bytes → a.packets ≡ b.packets → a.flows ≡ b.flows → a ≡ b
counts_same a b x y z = λ i. record { bytes = x i; packets = y i; flows = z i }

nothing_last : (c : Counts) → plus c nothing ≡ c
nothing_last c = counts_same _ _ (omega arith) (omega arith) (omega arith)

pub nothing_first : (c : Counts) → plus nothing c ≡ c
nothing_first c = counts_same _ _ (omega arith) (omega arith) (omega arith)

pub adds_up : (a b c : Counts) → plus (plus a b) c ≡ plus a (plus b c)
adds_up a b c = counts_same _ _ (omega arith) (omega arith) (omega arith)

-- a row for the key, from what it has
abbrev pub plus_or : Option Counts → Counts → Counts
plus_or None c = c
plus_or (Some v) c = plus v c

pub plus_or_is : (o : Option Counts) (c : Counts) → plus_or o c ≡ plus (unwrap_or o nothing) c
plus_or_is None c = sym (nothing_first c)
plus_or_is (Some v) c = refl

pub added_is : (rows : Rows) (k : List Cell) (c : Counts) → added rows k c ≡ insert_entry key_eq rows k (plus_or (lookup (key_eq k) rows) c)
added_is [] k c = refl
added_is (e ∷ rows) k c = by (key_eq k e.0) (added_is rows k c)
  where
    by : (b : Bool) → added rows k c ≡ insert_entry key_eq rows k (plus_or (lookup (key_eq k) rows) c)
        → (if b then (e.0, plus e.1 c) ∷ rows else e ∷ added rows k c) ≡ (if b then (e.0, plus_or (cond b (Some e.1) (lookup (key_eq k) rows)) c) ∷ rows else e ∷ insert_entry key_eq rows k (plus_or (cond b (Some e.1) (lookup (key_eq k) rows)) c))
    by true rest = refl
    by false rest = ap (λ (rows : Rows). e ∷ rows) rest

-- a key without a row is not there
pub no_key : (rows : Rows) (k : List Cell) → lookup (key_eq k) rows ≡ None → has_key rows k ≡ false
no_key [] k h = refl
no_key (e ∷ rows) k h = by (key_eq k e.0) h (no_key rows k)
  where
    by : (b : Bool) → cond b (Some e.1) (lookup (key_eq k) rows) ≡ None → (lookup (key_eq k) rows ≡ None → has_key rows k ≡ false) → (b || has_key rows k) ≡ false
    by true h rest = cc h
    by false h rest = rest h

-- a key is there where it has a row
pub is_found : (rows : Rows) (k : List Cell) → is_some (lookup (key_eq k) rows) ≡ has_key rows k
is_found [] k = refl
is_found (e ∷ rows) k = by (key_eq k e.0) (is_found rows k)
  where
    by : (b : Bool) → is_some (lookup (key_eq k) rows) ≡ has_key rows k → is_some (cond b (Some e.1) (lookup (key_eq k) rows)) ≡ (b || has_key rows k)
    by true rest = refl
    by false rest = rest

pub none_of : {X : Type 0} (o : Option X) → false ≡ is_some o → o ≡ None
none_of None h = refl
none_of (Some x) h = cc h

-- what is found, and then what is added
abbrev pub joined : Option Counts → Option Counts → Option Counts
joined None later = later
joined (Some first) later = Some (plus first (unwrap_or later nothing))

-- an entry adds to the row of its key, and to no other
pub row_added : (total : IsTotalOrder key_cmp) (rows : Rows) (k : List Cell) (c : Counts) (q : List Cell)
    → lookup (key_eq q) (added rows k c) ≡ (if key_eq q k then Some (plus_or (lookup (key_eq q) rows) c) else lookup (key_eq q) rows)
row_added total [] k c q = refl
row_added total (e ∷ rows) k c q = by (key_eq k e.0) refl (row_added total rows k c q)
  where
    here : (b : Bool) → cond b (Some (plus e.1 c)) (lookup (key_eq q) rows) ≡ (if b then Some (plus_or (cond b (Some e.1) (lookup (key_eq q) rows)) c) else cond b (Some e.1) (lookup (key_eq q) rows))
    here true = refl
    here false = refl

    later : (b d : Bool) → (b ≡ true → d ≡ true → ⊥) → cond d (Some e.1) (if b then Some (plus_or (lookup (key_eq q) rows) c) else lookup (key_eq q) rows)
        ≡ (if b then Some (plus_or (cond d (Some e.1) (lookup (key_eq q) rows)) c) else cond d (Some e.1) (lookup (key_eq q) rows))
    later true true apart = absurd (apart refl refl)
    later true false apart = refl
    later false d apart = refl

    apart : key_eq k e.0 ≡ false → key_eq q k ≡ true → key_eq q e.0 ≡ true → ⊥
    apart other same there = let e : true ≡ false = sym there ∙ (eq_by_cmp_equiv total).congr q k e.0 same ∙ other in cc e

    by : (b : Bool) → key_eq k e.0 ≡ b → lookup (key_eq q) (added rows k c) ≡ (if key_eq q k then Some (plus_or (lookup (key_eq q) rows) c) else lookup (key_eq q) rows)
        → lookup (key_eq q) (if b then (e.0, plus e.1 c) ∷ rows else e ∷ added rows k c) ≡ (if key_eq q k then Some (plus_or (lookup (key_eq q) (e ∷ rows)) c) else lookup (key_eq q) (e ∷ rows))
    by true same rest =
        let one : key_eq q e.0 ≡ key_eq q k = (eq_by_cmp_equiv total).symm q e.0 ∙ sym ((eq_by_cmp_equiv total).congr k e.0 q same) ∙ (eq_by_cmp_equiv total).symm k q in
        rw one (here (key_eq q k))
    by false other rest = rw rest (later (key_eq q k) (key_eq q e.0) (apart other))

-- without an entry a key has no sums
no_sums : (entries : Rows) (q : List Cell) → has_key entries q ≡ false → sums_of entries q ≡ nothing
no_sums [] q h = refl
no_sums (e ∷ entries) q h = by (key_eq q e.0) h (no_sums entries q)
  where
    by : (b : Bool) → (b || has_key entries q) ≡ false → (has_key entries q ≡ false → sums_of entries q ≡ nothing) → (if b then plus e.1 (sums_of entries q) else sums_of entries q) ≡ nothing
    by true h rest = cc h
    by false h rest = rest h

-- the row of a key after a list of entries
rows_all : (total : IsTotalOrder key_cmp) (entries rows : Rows) (q : List Cell) → lookup (key_eq q) (all_added rows entries) ≡ joined (lookup (key_eq q) rows) (row_of entries q)
rows_all total [] rows q = by (lookup (key_eq q) rows)
  where
    by : (o : Option Counts) → o ≡ joined o None
    by None = refl
    by (Some v) = ap Some (sym (nothing_last v))
rows_all total (e ∷ entries) rows q =
    rows_all total entries (added rows e.0 e.1) q
    ∙ ap (λ (o : Option Counts). joined o (row_of entries q)) (row_added total rows e.0 e.1 q)
    ∙ by (key_eq q e.0) (lookup (key_eq q) rows) (has_key entries q) (no_sums entries q)
  where
    by : (b : Bool) (o : Option Counts) (h : Bool) → (h ≡ false → sums_of entries q ≡ nothing) → joined (if b then Some (plus_or o e.1) else o) (if h then Some (sums_of entries q) else None)
        ≡ joined o (if b || h then Some (if b then plus e.1 (sums_of entries q) else sums_of entries q) else None)
    by true None true none = refl
    by true None false none = ap (λ (c : Counts). Some (plus e.1 c)) (sym (none refl))
    by true (Some v) true none = ap Some (adds_up v e.1 (sums_of entries q))
    by true (Some v) false none = ap Some (adds_up v e.1 nothing ∙ ap (λ (c : Counts). plus v (plus e.1 c)) (sym (none refl)))
    by false o h none = refl

-- the rows of a list of entries
pub rows_of_entries : (total : IsTotalOrder key_cmp) (entries : Rows) (q : List Cell) → lookup (key_eq q) (all_added [] entries) ≡ row_of entries q
rows_of_entries total entries q = rows_all total entries [] q

-- one more entry
pub all_added_more : (entries rows : Rows) (e : List Cell × Counts) → added (all_added rows entries) e.0 e.1 ≡ all_added rows (entries ++ e ∷ [])
all_added_more [] rows e = refl
all_added_more (x ∷ entries) rows e = all_added_more entries (added rows x.0 x.1) e

-- what a key has in the rows is what the entries sum to
pub count_of_entries : (total : IsTotalOrder key_cmp) (entries : Rows) (q : List Cell) → count_in (all_added [] entries) q ≡ sums_of entries q
count_of_entries total entries q = ap (λ (o : Option Counts). unwrap_or o nothing) (rows_of_entries total entries q) ∙ by (has_key entries q) (no_sums entries q)
  where
    by : (h : Bool) → (h ≡ false → sums_of entries q ≡ nothing) → unwrap_or (if h then Some (sums_of entries q) else None) nothing ≡ sums_of entries q
    by true none = refl
    by false none = sym (none refl)

-- ---- rows in order

rises : (k : List Cell) (rows : Rows) → AllByRecursion (λ y. key_cmp k y ≡ Less) (keys_in rows) → T (below_all key_cmp k rows)
rises k [] h = tt
rises k (e ∷ rows) h = let rest = rises k rows h.1 in rw h.0 rest

in_order : (rows : Rows) → IsStrictlySortedBy key_cmp (keys_in rows) → T (is_sorted key_cmp rows)
in_order [] h = tt
in_order (e ∷ rows) h = both _ _ (rises e.0 rows (sorted_head key_cmp e.0 (keys_in rows) h)) (in_order rows (sorted_tail key_cmp e.0 (keys_in rows) h))
  where
    both : (a b : Bool) → T a → T b → T (a && b)
    both true b p q = q
    both false b p q = p

found : (rows : Rows) (q : List Cell) → find key_cmp q rows ≡ lookup (key_eq q) rows
found [] q = refl
found (e ∷ rows) q = ap₂ (λ (b : Bool) (o : Option Counts). cond b (Some e.1) o) refl (found rows q)

pub one_purge : IsTotalOrder key_cmp → CmpEqualImpliesEq key_cmp → HaveOnePurge
one_purge total exact entries some other a b =
    same_entries key_cmp total exact some other (in_order some a.order) (in_order other b.order)
    (λ q. found some q ∙ a.sums q ∙ sym (b.sums q) ∙ sym (found other q))

-- a key below all others has no sums in them
none_above : (total : IsTotalOrder key_cmp) (q k : List Cell) (rows : Rows) → key_eq q k ≡ true → AllByRecursion (λ y. key_cmp k y ≡ Less) (keys_in rows) → sums_of rows q ≡ nothing
none_above total q k [] same h = refl
none_above total q k (e ∷ rows) same h =
    let other : key_eq q e.0 ≡ false = (eq_by_cmp_equiv total).congr q k e.0 same ∙ rw h.0 refl in
    rw other (none_above total q k rows same h.1)

-- in rows in order a key has what its row has
sums_of_rows : (total : IsTotalOrder key_cmp) (rows : Rows) (q : List Cell) → IsStrictlySortedBy key_cmp (keys_in rows) → sums_of rows q ≡ unwrap_or (lookup (key_eq q) rows) nothing
sums_of_rows total [] q h = refl
sums_of_rows total (e ∷ rows) q h = by (key_eq q e.0) refl (sums_of_rows total rows q (sorted_tail key_cmp e.0 (keys_in rows) h))
  where
    by : (b : Bool) → key_eq q e.0 ≡ b → sums_of rows q ≡ unwrap_or (lookup (key_eq q) rows) nothing → (if b then plus e.1 (sums_of rows q) else sums_of rows q) ≡ unwrap_or (cond b (Some e.1) (lookup (key_eq q) rows)) nothing
    by true same rest = ap (plus e.1) (none_above total q e.0 rows same (sorted_head key_cmp e.0 (keys_in rows) h)) ∙ nothing_last e.1
    by false other rest = rest

pub conserve : IsTotalOrder key_cmp → PurgesConserve
conserve total entries rows purge q =
    sums_of_rows total rows q purge.order ∙ ap (λ (o : Option Counts). unwrap_or o nothing) (purge.sums q ∙ sym (rows_of_entries total entries q)) ∙ count_of_entries total entries q

all_added-append : (rows first next : Rows) → all_added rows (first ++ next) ≡ all_added (all_added rows first) next
all_added-append rows [] next = refl
all_added-append rows (e ∷ first) next = all_added-append (added rows e.0 e.1) first next

-- a key has what it had, and what is added to it
pub count_added : (total : IsTotalOrder key_cmp) (rows : Rows) (k : List Cell) (c : Counts) (q : List Cell)
    → count_in (added rows k c) q ≡ (if key_eq q k then plus (count_in rows q) c else count_in rows q)
count_added total rows k c q = ap (λ (o : Option Counts). unwrap_or o nothing) (row_added total rows k c q) ∙ by (key_eq q k)
  where
    by : (b : Bool) → unwrap_or (if b then Some (plus_or (lookup (key_eq q) rows) c) else lookup (key_eq q) rows) nothing ≡ (if b then plus (count_in rows q) c else count_in rows q)
    by true = plus_or_is (lookup (key_eq q) rows) c
    by false = refl

pub add_up : IsTotalOrder key_cmp → EntriesAddUp
add_up total = record {
  one = λ rows entries entry. all_added_more entries rows entry;
  joined = all_added-append;
  counts = count_added total;
  rows = rows_of_entries total;
}
