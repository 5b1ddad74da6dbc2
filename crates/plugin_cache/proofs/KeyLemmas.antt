-- The order and equality of keys as the code has them.
use Rattle.std.proofs.Common.{◌≡◌, ◌∙◌, ◌+◌, ◌<◌, [], ◌∷◌, List, Bool, get_or, length, map, false, Ordering, Less, Equal, Greater, refl, sym, ap, arith}
use Rattle.std.proofs.lemmas.List.{get_or-map, length-map}
use Rattle.std.proofs.lemmas.List.Sorted.{IsPermutation-map}
use Rattle.std.proofs.lemmas.Map.Keys.{sorted_from_all_adjacent, apart_from_distinct, IsDistinct-IsPermutation}
use Rattle.std.specs.Prelude.{IsSorted}
use Rattle.std.specs.List.{IsDistinct}
use Rattle.std.specs.List.Sorted.{IsPermutation, IsSortedBy, IsStrictlySortedBy}
use Rattle.std.specs.Map.{lookup}
use Rattle.indexmap.proofs.MapLemmas.{lookup_permutation}
use Rattle.std.specs.Ordering.{is_eq, is_lt, ordering_reverse}
use Rattle.acct_types.specs.declared.cell.Cell.{Cell}
use Rattle.acct_types.specs.contracts.key.KeyPartialEq.TheImpl as key
use Rattle.acct_types.specs.contracts.key.KeyEq.TheImpl.Laws as key_laws
use Rattle.acct_types.specs.contracts.key.KeyOrd.TheImpl as order
use Rattle.acct_types.specs.declared.flow.Counts.{Counts}
use Rattle.acct_types.specs.Cells.{key_cmp, key_eq}
use Rattle.std.specs.Cmp.{IsTotalOrder}
use Rattle.plugin_cache.specs.Sums.{keys_in}

-- the `==` of keys is that of the definitions
pub same_keys : ((a b : List Cell) → (key.eq-value).it a b ≡ key_eq a b) → (key.eq-value).it ≡ key_eq
same_keys same = λ i a b. same a b i

-- the order of keys is that of the definitions
pub same_orders : ((a b : List Cell) → (order.cmp-value).it a b ≡ key_cmp a b) → (order.cmp-value).it ≡ key_cmp
same_orders same = λ i a b. same a b i

-- keys that a sort put in order, of which no two are the same, rise
pub strictly_sorted : IsTotalOrder key_cmp → (keys : List (List Cell)) → IsSorted key_cmp keys → IsDistinct key_eq keys → IsStrictlySortedBy key_cmp keys
unfolding IsStrictlySortedBy
strictly_sorted total [] sorted apart = tt
strictly_sorted total (first ∷ keys) sorted apart =
    sorted_from_all_adjacent total (first ∷ keys) first
    (λ i lt. less (get_or (first ∷ keys) i first) (get_or (first ∷ keys) (i + 1) first) (sorted i first (omega arith) lt) (apart_from_distinct key_eq (first ∷ keys) i (i + 1) first apart (omega arith) lt))
  where
    by : (o : Ordering) → is_lt (ordering_reverse o) ≡ false → is_eq o ≡ false → o ≡ Less
    by Less a b = refl
    by Equal a b = cc b
    by Greater a b = cc a

    less : (a b : List Cell) → is_lt (key_cmp b a) ≡ false → key_eq a b ≡ false → key_cmp a b ≡ Less
    less a b not_below other = by (key_cmp a b) (ap is_lt (sym (total.antisymm b a)) ∙ not_below) other

-- what ascends by what it is seen as, seen so
pub sorted_images : {X Y : Type 0} (f : X → Y) (lt : Y → Y → Bool) (xs : List X) → IsSortedBy (λ a b. lt (f a) (f b)) xs → IsSortedBy lt (map f xs)
sorted_images f lt [] s k d a b = absurd (omega arith)
sorted_images f lt (x ∷ xs) s k d a b =
    let l = x ∷ xs in
    let within : k + 1 < length l = omega (arith, length-map l f) in
    (λ j. lt (get_or-map f l (k + 1) x d within j) (get_or-map f l k x d (omega arith) j)) ∙ s k x a within

module _ (entries rows : List (List Cell × Counts)) (moved : IsPermutation entries rows) (unique : IsDistinct (key.eq-value).it (keys_in entries)) where
  -- no two keys are the same in another order either
  pub still_apart : IsDistinct (key.eq-value).it (keys_in rows)
  still_apart = IsDistinct-IsPermutation (key.eq-value).it key_laws.laws-law.symm (keys_in entries) (keys_in rows) (IsPermutation-map (λ row. row.0) entries rows moved) unique

  -- each key then has the sums that it had
  pub same_sums : ((a b : List Cell) → (key.eq-value).it a b ≡ key_eq a b) → (k : List Cell) → lookup (key_eq k) rows ≡ lookup (key_eq k) entries
  same_sums same k =
      let moves : lookup ((key.eq-value).it k) rows ≡ lookup ((key.eq-value).it k) entries =
      lookup_permutation key_laws.laws-law entries rows moved still_apart ((key.eq-value).it k) (λ x y e. key_laws.laws-law.congr k x y e) in
      ap (λ (eq : List Cell → List Cell → Bool). lookup (eq k) rows) (sym (same_keys same))
      ∙ moves
      ∙ ap (λ (eq : List Cell → List Cell → Bool). lookup (eq k) entries) (same_keys same)
