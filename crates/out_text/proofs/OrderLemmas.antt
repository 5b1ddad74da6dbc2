-- The members of a row are its entries, in the order of their names.
use Rattle.std.proofs.Common.{◌≡◌, ◌∙◌, ◌++◌, ◌∷◌, [], ℕ, List, Bool, Less, Equal, Greater, Ordering, ap, ap₂, false, map, nat_cmp, refl, subst, sym, true}
use Rattle.std.specs.Prelude.{◌&&◌, if◌then◌else◌, not}
use Rattle.std.specs.Cmp.Lexicographic.{slice_cmp}
use Rattle.std.specs.List.{AllByRecursion, IsDistinct, filter, list_all}
use Rattle.std.specs.List.Sorted.{IsPermutation, IsStrictlySortedBy}
use Rattle.std.specs.Ordering.{is_eq, match_ordering, ordering_reverse}
use Rattle.std.specs.Str.{bytes_eq}
use Rattle.std.proofs.lemmas.Cmp.{nat_list_cmp_total}
use Rattle.std.proofs.lemmas.List.{map-append}
use Rattle.std.proofs.lemmas.List.Sorted.{IsPermutation-cons, IsPermutation-middle, IsPermutation-refl, IsPermutation-sym, IsPermutation-trans}
use Rattle.std.proofs.lemmas.Map.Text.{is_eq-slice_cmp}
use Rattle.acct_types.specs.Columns.{all_columns}
use Rattle.acct_types.specs.Primitives.{columns_of, is_set}
use Rattle.acct_types.specs.declared.cell.Cell.{Cell}
use Rattle.acct_types.specs.declared.flow.Counts.{Counts}
use Rattle.acct_types.specs.declared.primitives.Column.{Column}
use Rattle.acct_types.specs.declared.primitives.Primitives.{Primitives}
use Rattle.out_text.specs.declared.field.Field.{Field}
use Rattle.out_text.specs.declared.field.Field.TheVariants as field
use Rattle.out_text.specs.Headings.{json_name_of, titles_of}
use Rattle.out_text.specs.Objects.{by_name, put_by_name}
use Rattle.out_text.specs.Rows.{count_entries, count_fields, fields_of, row_entries, under_columns}
use Rattle.out_text.proofs.PlainLemmas.{both}

abbrev Entries : Type 0
Entries = List (Field × Cell)

abbrev compare : List ℕ → List ℕ → Ordering
compare a b = slice_cmp nat_cmp a b

abbrev name_in : Field × Cell → List ℕ
name_in e = json_name_of e.0

abbrev names_in : Entries → List (List ℕ)
names_in es = map (λ e. json_name_of e.0) es

-- what holds of all names still holds with one more
all_put : (P : List ℕ → Type 0) (e : Field × Cell) (es : Entries) → P (name_in e) → AllByRecursion P (names_in es) → AllByRecursion P (names_in (put_by_name e es))
all_put P e [] one all = (one, tt)
all_put P e (o ∷ os) one all = by (compare (name_in e) (name_in o)) (all_put P e os one all.1)
  where
    by : (r : Ordering) → AllByRecursion P (names_in (put_by_name e os)) → AllByRecursion P (names_in (match_ordering r (e ∷ o ∷ os) (e ∷ os) (o ∷ put_by_name e os)))
    by Less later = (one, all)
    by Equal later = (one, all.1)
    by Greater later = (all.0, later)

all_by_name : (P : List ℕ → Type 0) (es : Entries) → AllByRecursion P (names_in es) → AllByRecursion P (names_in (by_name es))
all_by_name P [] all = tt
all_by_name P (e ∷ es) all = all_put P e (by_name es) all.0 (all_by_name P es all.1)

all_weaker : (P Q : List ℕ → Type 0) → ((x : List ℕ) → P x → Q x) → (xs : List (List ℕ)) → AllByRecursion P xs → AllByRecursion Q xs
all_weaker P Q f [] all = tt
all_weaker P Q f (x ∷ xs) all = (f x all.0, all_weaker P Q f xs all.1)

put_sorted : (e : Field × Cell) (es : Entries) → IsStrictlySortedBy compare (names_in es) → IsStrictlySortedBy compare (names_in (put_by_name e es))
unfolding IsStrictlySortedBy
put_sorted e [] h = (tt, tt)
put_sorted e (o ∷ os) h = by (compare (name_in e) (name_in o)) refl (put_sorted e os h.1)
  where
    by : (r : Ordering) → compare (name_in e) (name_in o) ≡ r → IsStrictlySortedBy compare (names_in (put_by_name e os))
        → IsStrictlySortedBy compare (names_in (match_ordering r (e ∷ o ∷ os) (e ∷ os) (o ∷ put_by_name e os)))
    by Less is later =
        ((is, all_weaker (λ y. compare (name_in o) y ≡ Less) (λ y. compare (name_in e) y ≡ Less) (λ y below. nat_list_cmp_total.trans (name_in e) (name_in o) y is below) (names_in os) h.0), h)
    by Equal is later =
        (all_weaker (λ y. compare (name_in o) y ≡ Less) (λ y. compare (name_in e) y ≡ Less) (λ y below. nat_list_cmp_total.congr (name_in e) (name_in o) y is ∙ below) (names_in os) h.0, h.1)
    by Greater is later =
        (all_put (λ y. compare (name_in o) y ≡ Less) e os (nat_list_cmp_total.antisymm (name_in o) (name_in e) ∙ ap ordering_reverse is) h.0, later)

pub by_name_sorted : (es : Entries) → IsStrictlySortedBy compare (names_in (by_name es))
unfolding IsStrictlySortedBy
by_name_sorted [] = tt
by_name_sorted (e ∷ es) = put_sorted e (by_name es) (by_name_sorted es)

put_permutes : (e : Field × Cell) (es : Entries) → AllByRecursion (λ y. bytes_eq (name_in e) y ≡ false) (names_in es) → IsPermutation (e ∷ es) (put_by_name e es)
put_permutes e [] apart = IsPermutation-refl (e ∷ [])
put_permutes e (o ∷ os) apart = by (compare (name_in e) (name_in o)) refl (put_permutes e os apart.1)
  where
    by : (r : Ordering) → compare (name_in e) (name_in o) ≡ r → IsPermutation (e ∷ os) (put_by_name e os)
        → IsPermutation (e ∷ o ∷ os) (match_ordering r (e ∷ o ∷ os) (e ∷ os) (o ∷ put_by_name e os))
    by Less is later = IsPermutation-refl (e ∷ o ∷ os)
    by Equal is later =
        let same : true ≡ false = sym (ap is_eq is) ∙ is_eq-slice_cmp (name_in e) (name_in o) ∙ apart.0 in
        cc same
    by Greater is later =
        IsPermutation-trans (e ∷ o ∷ os) (o ∷ e ∷ os) (o ∷ put_by_name e os)
        (IsPermutation-sym (o ∷ e ∷ os) (e ∷ o ∷ os) (IsPermutation-middle (o ∷ []) e os)) (IsPermutation-cons o (e ∷ os) (put_by_name e os) later)

by_name_permutes : (es : Entries) → IsDistinct bytes_eq (names_in es) → IsPermutation es (by_name es)
unfolding IsDistinct
by_name_permutes [] apart = IsPermutation-refl []
by_name_permutes (e ∷ es) apart =
    IsPermutation-trans (e ∷ es) (e ∷ by_name es) (put_by_name e (by_name es))
    (IsPermutation-cons e es (by_name es) (by_name_permutes es apart.1))
    (put_permutes e (by_name es) (all_by_name (λ y. bytes_eq (name_in e) y ≡ false) es apart.0))

-- all fields
abbrev all_fields : List Field
all_fields = map field.Column all_columns ++ field.Packets ∷ field.Flows ∷ field.Bytes ∷ []

abbrev are_apart : List (List ℕ) → Bool
are_apart [] = true
are_apart (x ∷ xs) = list_all (λ y. not (bytes_eq x y)) xs && are_apart xs

off : (b : Bool) → not b ≡ true → b ≡ false
off true h = cc h
off false h = refl

all_off : (x : List ℕ) (xs : List (List ℕ)) → list_all (λ y. not (bytes_eq x y)) xs ≡ true → AllByRecursion (λ y. bytes_eq x y ≡ false) xs
all_off x [] h = tt
all_off x (y ∷ ys) h =
    let p = both (not (bytes_eq x y)) (list_all (λ z. not (bytes_eq x z)) ys) h in
    (off (bytes_eq x y) p.0, all_off x ys p.1)

apart_from_test : (xs : List (List ℕ)) → are_apart xs ≡ true → IsDistinct bytes_eq xs
unfolding IsDistinct
apart_from_test [] h = tt
apart_from_test (x ∷ xs) h =
    let p = both (list_all (λ y. not (bytes_eq x y)) xs) (are_apart xs) h in
    (all_off x xs p.0, apart_from_test xs p.1)

tested : are_apart (map json_name_of all_fields) ≡ true
unfolding all_columns titles_of
tested = refl

all_apart : IsDistinct bytes_eq (map json_name_of all_fields)
all_apart = apart_from_test (map json_name_of all_fields) tested

all_kept : (P : List ℕ → Type 0) (keeps : Field → Bool) (fs : List Field) → AllByRecursion P (map json_name_of fs) → AllByRecursion P (map json_name_of (filter keeps fs))
all_kept P keeps [] all = tt
all_kept P keeps (f ∷ fs) all = by (keeps f) (all_kept P keeps fs all.1)
  where
    by : (b : Bool) → AllByRecursion P (map json_name_of (filter keeps fs)) → AllByRecursion P (map json_name_of (if b then f ∷ filter keeps fs else filter keeps fs))
    by true later = (all.0, later)
    by false later = later

kept_apart : (keeps : Field → Bool) (fs : List Field) → IsDistinct bytes_eq (map json_name_of fs) → IsDistinct bytes_eq (map json_name_of (filter keeps fs))
unfolding IsDistinct
kept_apart keeps [] apart = tt
kept_apart keeps (f ∷ fs) apart = by (keeps f) (kept_apart keeps fs apart.1)
  where
    by : (b : Bool) → IsDistinct bytes_eq (map json_name_of (filter keeps fs)) → IsDistinct bytes_eq (map json_name_of (if b then f ∷ filter keeps fs else filter keeps fs))
    by true later = (all_kept (λ y. bytes_eq (json_name_of f) y ≡ false) keeps fs apart.0, later)
    by false later = later

abbrev keeps : ℕ → Bool → Field → Bool
keeps set flows (field.Column column) = is_set set column
keeps set flows field.Packets = true
keeps set flows field.Flows = flows
keeps set flows field.Bytes = true

fields_kept : (set : ℕ) (flows : Bool) (columns : List Column)
    → map field.Column (filter (λ column. is_set set column) columns) ++ count_fields flows
    ≡ filter (keeps set flows) (map field.Column columns ++ field.Packets ∷ field.Flows ∷ field.Bytes ∷ [])
fields_kept set true [] = refl
fields_kept set false [] = refl
fields_kept set flows (column ∷ columns) = by (is_set set column) (fields_kept set flows columns)
  where
    by : (b : Bool) → map field.Column (filter (λ c. is_set set c) columns) ++ count_fields flows
        ≡ filter (keeps set flows) (map field.Column columns ++ field.Packets ∷ field.Flows ∷ field.Bytes ∷ [])
        → map field.Column (if b then column ∷ filter (λ c. is_set set c) columns else filter (λ c. is_set set c) columns) ++ count_fields flows
        ≡ (if b then field.Column column ∷ filter (keeps set flows) (map field.Column columns ++ field.Packets ∷ field.Flows ∷ field.Bytes ∷ [])
        else filter (keeps set flows) (map field.Column columns ++ field.Packets ∷ field.Flows ∷ field.Bytes ∷ []))
    by true later = ap (λ (fs : List Field). field.Column column ∷ fs) later
    by false later = later

names_under : (columns : List Column) (cells : List Cell) → names_in (under_columns columns cells) ≡ map json_name_of (map field.Column columns)
names_under [] cells = refl
names_under (column ∷ columns) cells = ap (λ (names : List (List ℕ)). json_name_of (field.Column column) ∷ names) (names_under columns _)

names_of_counts : (flows : Bool) (c : Counts) → names_in (count_entries flows c) ≡ map json_name_of (count_fields flows)
names_of_counts true c = refl
names_of_counts false c = refl

names_of_row : (p : Primitives) (row : List Cell × Counts) → names_in (row_entries p row) ≡ map json_name_of (fields_of p)
unfolding row_entries
names_of_row p row =
    map-append (λ e. json_name_of e.0) (under_columns (columns_of p) row.0) (count_entries p.flows row.1)
    ∙ ap₂ (λ (a b : List (List ℕ)). a ++ b) (names_under (columns_of p) row.0) (names_of_counts p.flows row.1)
    ∙ sym (map-append json_name_of (map field.Column (columns_of p)) (count_fields p.flows))

pub members_are_entries : (p : Primitives) (row : List Cell × Counts) → IsPermutation (row_entries p row) (by_name (row_entries p row))
members_are_entries p row =
    let names = names_of_row p row ∙ ap (λ (fs : List Field). map json_name_of fs) (fields_kept p.set p.flows all_columns) in
    by_name_permutes (row_entries p row) (subst (λ (ns : List (List ℕ)). IsDistinct bytes_eq ns) (sym names) (kept_apart (keeps p.set p.flows) all_fields all_apart))
