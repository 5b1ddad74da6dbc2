-- Columns in their order.
use Rattle.std.proofs.Common.{◌≡◌, ◌∙◌, ◌==◌, ◌∷◌, ◌+◌, ◌<◌, [], List, ℕ, Bool, true, false, refl, sym, ap, subst, arith, ap₂, map, suc, zero, get_or, length, set}
use Rattle.std.specs.Prelude.{if◌then◌else◌, ◌&&◌, ◌||◌, ◌-◌, nat_lt, ◌^◌, ◌*◌, ◌/◌, ◌%◌, nat_eq}
use Rattle.std.specs.Int.{bit_at, trailing_zeros, w32}
use Rattle.std.specs.Int.Count.{count_trailing_zeros}
use Rattle.std.specs.List.{range_with_len}
use Rattle.std.proofs.lemmas.List.{get_or-map}
use Rattle.std.proofs.lemmas.List.FromFn.{get_or-range_with_len}
use Rattle.std.specs.Int.RustNames.{bit_or, bit_and}
use Rattle.std.proofs.Math.Pow.{pow-lt}
use Rattle.std.proofs.lemmas.Nat.{or_lt}
use Rattle.std.proofs.lemmas.Nat.Bits.{bit_at-trailing_zeros, bit_at_above, bit_at_clear_other, bit_at_clear_same, bit_at_set_same, bit_at_set_other, shr_and_one}
use mathlib.Core.Logic.{◌≢◌}
use Rattle.std.specs.List.{filter}
use Rattle.std.proofs.lemmas.Map.Views.{any-filter_same}
use borrow.Author.Tests.{eqb-true}
use Rattle.acct_types.specs.declared.primitives.Column.{Column}
use Rattle.acct_types.specs.declared.primitives.Column.TheVariants.{Tag, Tag2, Label, AcctWindow, SrcMac, DstMac, Vlan, SrcAs, DstAs, StdComm, AsPath, LocalPref, Med, PeerDstAs, PeerSrcIp, PeerDstIp, InIface, OutIface, SrcHost, DstHost, SrcNet, DstNet, SrcMask, DstMask, SrcPort, DstPort, Proto, Tos}
use Rattle.acct_types.specs.Primitives.{is_set}
use Rattle.acct_types.specs.Columns.{all_columns, has_column, in_order, place_of, same_column, with_column}

column_at : ℕ → Column
column_at place = get_or all_columns place Tag

at_its_place : (c : Column) → column_at (place_of c) ≡ c
unfolding column_at all_columns
at_its_place Tag = refl
at_its_place Tag2 = refl
at_its_place Label = refl
at_its_place AcctWindow = refl
at_its_place SrcMac = refl
at_its_place DstMac = refl
at_its_place Vlan = refl
at_its_place SrcAs = refl
at_its_place DstAs = refl
at_its_place StdComm = refl
at_its_place AsPath = refl
at_its_place LocalPref = refl
at_its_place Med = refl
at_its_place PeerDstAs = refl
at_its_place PeerSrcIp = refl
at_its_place PeerDstIp = refl
at_its_place InIface = refl
at_its_place OutIface = refl
at_its_place SrcHost = refl
at_its_place DstHost = refl
at_its_place SrcNet = refl
at_its_place DstNet = refl
at_its_place SrcMask = refl
at_its_place DstMask = refl
at_its_place SrcPort = refl
at_its_place DstPort = refl
at_its_place Proto = refl
at_its_place Tos = refl

pub same_columns : (a b : Column) → same_column a b ≡ true → a ≡ b
same_columns a b h = sym (at_its_place a) ∙ ap column_at (eqb-true (place_of a) (place_of b) h) ∙ at_its_place b

is_there : (c : Column) → has_column all_columns c ≡ true
unfolding all_columns
is_there Tag = refl
is_there Tag2 = refl
is_there Label = refl
is_there AcctWindow = refl
is_there SrcMac = refl
is_there DstMac = refl
is_there Vlan = refl
is_there SrcAs = refl
is_there DstAs = refl
is_there StdComm = refl
is_there AsPath = refl
is_there LocalPref = refl
is_there Med = refl
is_there PeerDstAs = refl
is_there PeerSrcIp = refl
is_there PeerDstIp = refl
is_there InIface = refl
is_there OutIface = refl
is_there SrcHost = refl
is_there DstHost = refl
is_there SrcNet = refl
is_there DstNet = refl
is_there SrcMask = refl
is_there DstMask = refl
is_there SrcPort = refl
is_there DstPort = refl
is_there Proto = refl
is_there Tos = refl

and_true : (b : Bool) → (b && true) ≡ b
and_true true = refl
and_true false = refl

-- a column is among the kept ones exactly where it is kept
among_kept : (keeps : Column → Bool) (c : Column) → has_column (filter keeps all_columns) c ≡ keeps c
among_kept keeps c =
    any-filter_same (λ other. same_column other c) keeps (keeps c) (λ k same. ap keeps (same_columns k c same)) all_columns
    ∙ ap (λ (b : Bool). keeps c && b) (is_there c)
    ∙ and_true (keeps c)

-- what is kept of all columns is in order
pub kept_in_order : (keeps : Column → Bool) → in_order (filter keeps all_columns) ≡ filter keeps all_columns
unfolding in_order
kept_in_order keeps = λ i. filter (λ c. among_kept keeps c i) all_columns

-- no column is set in 0
pub nothing_set : filter (λ column. is_set 0 column) all_columns ≡ []
unfolding all_columns
nothing_set = refl

pub tests_bit : (set : ℕ) (c : Column) → nat_eq (bit_and (set / 2 ^ place_of c) 1) 1 ≡ has_column (filter (λ d. is_set set d) all_columns) c
tests_bit set c = ap (λ (b : ℕ). nat_eq b 1) (shr_and_one set (place_of c)) ∙ sym (among_kept (λ d. is_set set d) c)

below_28 : (c : Column) → place_of c < 28
below_28 Tag = grind (arith)
below_28 Tag2 = grind (arith)
below_28 Label = grind (arith)
below_28 AcctWindow = grind (arith)
below_28 SrcMac = grind (arith)
below_28 DstMac = grind (arith)
below_28 Vlan = grind (arith)
below_28 SrcAs = grind (arith)
below_28 DstAs = grind (arith)
below_28 StdComm = grind (arith)
below_28 AsPath = grind (arith)
below_28 LocalPref = grind (arith)
below_28 Med = grind (arith)
below_28 PeerDstAs = grind (arith)
below_28 PeerSrcIp = grind (arith)
below_28 PeerDstIp = grind (arith)
below_28 InIface = grind (arith)
below_28 OutIface = grind (arith)
below_28 SrcHost = grind (arith)
below_28 DstHost = grind (arith)
below_28 SrcNet = grind (arith)
below_28 DstNet = grind (arith)
below_28 SrcMask = grind (arith)
below_28 DstMask = grind (arith)
below_28 SrcPort = grind (arith)
below_28 DstPort = grind (arith)
below_28 Proto = grind (arith)
below_28 Tos = grind (arith)

pub stays_within : (set : ℕ) (c : Column) → set < 2 ^ 28 → bit_or set (1 * 2 ^ place_of c % 4294967296) < 268435456
stays_within set c within =
    let place = below_28 c in
    let small : 2 ^ place_of c < 2 ^ 28 = pow-lt place in
    or_lt 28 set (1 * 2 ^ place_of c % 4294967296) within (grind (arith, small))

set_with : (set : ℕ) (c d : Column) (b : Bool) → same_column c d ≡ b
    → is_set (bit_or set (1 * 2 ^ place_of c % 4294967296)) d ≡ (b || is_set set d)
set_with set c d true same =
    let k : place_of c ≡ place_of d = eqb-true _ _ same in
    let within : place_of c < 32 = grind (arith, below_28 c) in
    subst (λ (i : ℕ). (bit_at (bit_or set (1 * 2 ^ place_of c % 4294967296)) i == 1) ≡ true) k
    (ap (λ (b : ℕ). b == 1) (bit_at_set_same w32 set (place_of c) within))
set_with set c d false other =
    let apart : place_of d ≢ place_of c = λ h. grind (arith, h, other) in
    let within : place_of c < 32 = grind (arith, below_28 c) in
    ap (λ (b : ℕ). b == 1) (bit_at_set_other w32 set (place_of c) within (place_of d) apart)

-- one more bit is one more column
pub one_more_set : (set : ℕ) (c : Column) → filter (λ d. is_set (bit_or set (1 * 2 ^ place_of c % 4294967296)) d) all_columns
    ≡ with_column c (filter (λ d. is_set set d) all_columns)
unfolding in_order
one_more_set set c = λ i. filter (λ d. (set_with set c d (same_column c d) refl ∙ ap (λ (b : Bool). same_column c d || b) (sym (among_kept (λ e. is_set set e) d))) i) all_columns

places_in_order : map place_of all_columns ≡ range_with_len 0 28
unfolding all_columns
places_in_order = refl

pub all_length : length all_columns ≡ 28
unfolding all_columns
all_length = refl

add_zero : (i : ℕ) → 0 + i ≡ i
add_zero i = grind (arith)

-- the column at a place has that place
pub placed : (i : ℕ) → i < 28 → place_of (get_or all_columns i Tag) ≡ i
placed i within =
    sym (get_or-map place_of all_columns i Tag 0 (subst (λ (n : ℕ). i < n) (sym all_length) within))
    ∙ ap (λ (places : List ℕ). get_or places i 0) places_in_order
    ∙ get_or-range_with_len 0 28 i 0 within
    ∙ add_zero i

-- tests that agree at each place keep the same
same_kept : {X : Type 0} (p q : X → Bool) (xs : List X) (d : X) → ((i : ℕ) → i < length xs → p (get_or xs i d) ≡ q (get_or xs i d)) → filter p xs ≡ filter q xs
same_kept p q [] d same = refl
same_kept p q (x ∷ xs) d same =
    let first : p x ≡ q x = same 0 (grind (arith)) in
    let others : filter p xs ≡ filter q xs = same_kept p q xs d (λ i within. same (suc i) (grind (arith, within))) in
    ap₂ (λ (b : Bool) (ys : List _). if b then x ∷ ys else ys) first others

-- the first that is kept, and the others
first_kept : {X : Type 0} (p q : X → Bool) (xs : List X) (k : ℕ) (d : X) → k < length xs
    → ((i : ℕ) → i < k → p (get_or xs i d) ≡ false) → p (get_or xs k d) ≡ true
    → q (get_or xs k d) ≡ false → ((i : ℕ) → i < length xs → i ≢ k → p (get_or xs i d) ≡ q (get_or xs i d))
    → filter p xs ≡ get_or xs k d ∷ filter q xs
first_kept p q [] k d within before at gone same = grind (arith, within)
first_kept p q (x ∷ xs) zero d within before at gone same =
    let others : filter p xs ≡ filter q xs = same_kept p q xs d (λ i below. same (suc i) (grind (arith, below)) (λ h. grind (arith, h))) in
    ap₂ (λ (b : Bool) (ys : List _). if b then x ∷ ys else ys) at others
    ∙ ap (λ (b : Bool). x ∷ (if b then x ∷ filter q xs else filter q xs)) (sym gone)
first_kept p q (x ∷ xs) (suc k) d within before at gone same =
    let skipped : p x ≡ false = before 0 (grind (arith)) in
    let skipped_too : q x ≡ false = sym (same 0 (grind (arith)) (λ h. grind (arith, h))) ∙ skipped in
    let others : filter p xs ≡ get_or xs k d ∷ filter q xs =
    first_kept p q xs k d (grind (arith, within)) (λ i below. before (suc i) (grind (arith, below))) at gone
    (λ i below apart. same (suc i) (grind (arith, below)) (λ h. apart (grind (arith, h)))) in
    ap (λ (b : Bool). if b then x ∷ filter p xs else filter p xs) skipped
    ∙ others
    ∙ ap (λ (b : Bool). get_or xs k d ∷ (if b then x ∷ filter q xs else filter q xs)) (sym skipped_too)

first_place : (set : ℕ) → 0 < set → set < 2 ^ 28 → trailing_zeros w32 set < 28
first_place set some within =
    let first = bit_at-trailing_zeros w32 set some (grind (arith, within)) in
    by (nat_lt (trailing_zeros w32 set) 28) refl first
  where
    by : (b : Bool) → nat_lt (trailing_zeros w32 set) 28 ≡ b
        → (trailing_zeros w32 set < 32) × (bit_at set (trailing_zeros w32 set) ≡ 1) × ((i : ℕ) → i < trailing_zeros w32 set → bit_at set i ≡ 0)
        → trailing_zeros w32 set < 28
    by true h first = grind (arith, h)
    by false h first = cc (first.1, bit_at_above set 28 (trailing_zeros w32 set) within (grind (arith, h)))

pub place_within : (set : ℕ) → (set == 0) ≡ false → set < 2 ^ 28 → count_trailing_zeros 32 set < length all_columns
place_within set some within = subst (λ (n : ℕ). trailing_zeros w32 set < n) (sym all_length) (first_place set (grind (arith, some)) within)

-- the lowest bit is the first column
pub first_set : (set : ℕ) → (set == 0) ≡ false → set < 2 ^ 28 →
    filter (λ d. is_set set d) all_columns
    ≡ get_or all_columns (count_trailing_zeros 32 set) Tag
    ∷ filter (λ d. is_set (bit_and set (4294967295 - 1 * 2 ^ count_trailing_zeros 32 set % 4294967296)) d) all_columns
first_set set some within =
    let k = trailing_zeros w32 set in
    let positive : 0 < set = grind (arith, some) in
    let place : k < 28 = first_place set positive within in
    let wide : k < 32 = grind (arith, place) in
    let first = bit_at-trailing_zeros w32 set positive (grind (arith, within)) in
    let cleared = bit_and set (4294967295 - 1 * 2 ^ k % 4294967296) in
    let at_place : (i : ℕ) → i < length all_columns → i < 28 = λ i below. subst (λ (n : ℕ). i < n) all_length below in
    first_kept (λ d. is_set set d) (λ d. is_set cleared d) all_columns k Tag
    (subst (λ (n : ℕ). k < n) (sym all_length) place)
    (λ i below. ap (λ (j : ℕ). bit_at set j == 1) (placed i (grind (arith, below, place))) ∙ ap (λ (b : ℕ). b == 1) (first.2 i below))
    (ap (λ (j : ℕ). bit_at set j == 1) (placed k place) ∙ ap (λ (b : ℕ). b == 1) first.1)
    (ap (λ (j : ℕ). bit_at cleared j == 1) (placed k place) ∙ ap (λ (b : ℕ). b == 1) (bit_at_clear_same w32 set k wide))
    (λ i below apart.
    let small = at_place i below in
    ap (λ (j : ℕ). bit_at set j == 1) (placed i small)
    ∙ ap (λ (b : ℕ). b == 1) (sym (bit_at_clear_other w32 set k wide i (grind (arith, small)) apart))
    ∙ ap (λ (j : ℕ). bit_at cleared j == 1) (sym (placed i small)))
