-- The order of keys.
use Rattle.std.proofs.Common.{◌≡◌, ◌∙◌, ◌↔◌, ◌∷◌, [], List, refl, ap, subst}
use Rattle.std.specs.Cmp.{IsTotalOrder, IsEquivalence, tied_itself}
use Rattle.std.specs.Cmp.Lexicographic.{pointwise, slice_cmp, lists_ties}
use Rattle.std.specs.Ordering.{eq_by_cmp, nat_cmp, ordering_then}
use Rattle.std.specs.declared.cmp.Ordering.{Ordering}
use Rattle.std.specs.declared.cmp.Ordering.TheVariants.{Less, Equal, Greater}
use Rattle.std.proofs.lemmas.Cmp.{eq_by_cmp_equiv, lists_total}
use Rattle.std.proofs.lemmas.Map.Lookups.{CmpEqualImpliesEq, exact_unsigned}
use Rattle.acct_types.specs.declared.cell.Cell.{Cell}
use Rattle.acct_types.specs.declared.cell.Cell.TheVariants.{Number, Address, Mac, Words}
use Rattle.acct_types.specs.contracts.cell.CellPartialEq.TheImpl as cell_equality
use Rattle.acct_types.specs.contracts.cell.CellOrd.TheImpl as cell_order
use Rattle.acct_types.specs.contracts.cell.CellOrd.TheImpl.Laws as cell_laws
use Rattle.acct_types.specs.Cells.{cell_cmp, key_cmp, key_eq}
use Rattle.acct_types.proofs.OrderLemmas.{same_addr_cmp, tied_addresses}

same_cell_cmp : (a b : Cell) → (cell_order.cmp-value).it a b ≡ cell_cmp a b
same_cell_cmp (Number a) (Number b) = refl
same_cell_cmp (Number a) (Address b) = refl
same_cell_cmp (Number a) (Mac b) = refl
same_cell_cmp (Number a) (Words b) = refl
same_cell_cmp (Address a) (Number b) = refl
same_cell_cmp (Address a) (Address b) = same_addr_cmp a b
same_cell_cmp (Address a) (Mac b) = refl
same_cell_cmp (Address a) (Words b) = refl
same_cell_cmp (Mac a) (Number b) = refl
same_cell_cmp (Mac a) (Address b) = refl
same_cell_cmp (Mac a) (Mac b) = refl
same_cell_cmp (Mac a) (Words b) = refl
same_cell_cmp (Words a) (Number b) = refl
same_cell_cmp (Words a) (Address b) = refl
same_cell_cmp (Words a) (Mac b) = refl
same_cell_cmp (Words a) (Words b) = refl

-- the derived order of cells whole
cell_orders_same : (cell_order.cmp-value).it ≡ cell_cmp
cell_orders_same = λ i a b. same_cell_cmp a b i

pub key_orders_same : (a b : List Cell) → slice_cmp (cell_order.cmp-value).it a b ≡ key_cmp a b
key_orders_same a b = ap (λ (R : Cell → Cell → Ordering). slice_cmp R a b) cell_orders_same

cell_cmp-total : IsTotalOrder cell_cmp
cell_cmp-total = subst (λ (R : Cell → Cell → Ordering). IsTotalOrder R) cell_orders_same cell_laws.total-law

pub key_cmp-total : IsTotalOrder key_cmp
key_cmp-total = lists_total cell_cmp-total

pub key_equivalence : IsEquivalence key_eq
key_equivalence = eq_by_cmp_equiv key_cmp-total

pub key_equalities_same : (a b : List Cell) → pointwise (cell_equality.eq-value).it a b ≡ key_eq a b
key_equalities_same a b =
    lists_ties (cell_order.cmp-value).it cell_laws.matches_eq-law a b
    ∙ ap (λ (R : Cell → Cell → Ordering). eq_by_cmp (slice_cmp R) a b) cell_orders_same

-- lists whose elements are the same where they tie are the same where they tie
exact_lists : {X : Type 0} (R : X → X → Ordering) → CmpEqualImpliesEq R → (xs ys : List X) → slice_cmp R xs ys ≡ Equal → xs ≡ ys
exact_lists R exact [] [] h = refl
exact_lists R exact [] (y ∷ ys) h = cc h
exact_lists R exact (x ∷ xs) [] h = cc h
exact_lists R exact (x ∷ xs) (y ∷ ys) h = by (R x y) refl h (λ tied. exact_lists R exact xs ys tied)
  where
    by : (o : Ordering) → R x y ≡ o → ordering_then o (slice_cmp R xs ys) ≡ Equal → (slice_cmp R xs ys ≡ Equal → xs ≡ ys) → x ∷ xs ≡ y ∷ ys
    by Less is h rest = cc h
    by Greater is h rest = cc h
    by Equal is h rest = λ i. exact x y is i ∷ rest h i

exact_cells : (a b : Cell) → cell_cmp a b ≡ Equal → a ≡ b
exact_cells (Number a) (Number b) h = ap Number (exact_unsigned a b h)
exact_cells (Number a) (Address b) h = cc h
exact_cells (Number a) (Mac b) h = cc h
exact_cells (Number a) (Words b) h = cc h
exact_cells (Address a) (Number b) h = cc h
exact_cells (Address a) (Address b) h = ap Address (tied_addresses a b h)
exact_cells (Address a) (Mac b) h = cc h
exact_cells (Address a) (Words b) h = cc h
exact_cells (Mac a) (Number b) h = cc h
exact_cells (Mac a) (Address b) h = cc h
exact_cells (Mac a) (Mac b) h = ap Mac (exact_unsigned a b h)
exact_cells (Mac a) (Words b) h = cc h
exact_cells (Words a) (Number b) h = cc h
exact_cells (Words a) (Address b) h = cc h
exact_cells (Words a) (Mac b) h = cc h
exact_cells (Words a) (Words b) h = ap Words (exact_lists nat_cmp exact_unsigned a b h)

pub exact_keys : (a b : List Cell) → key_cmp a b ≡ Equal → a ≡ b
exact_keys a b h = exact_lists cell_cmp exact_cells a b h

-- keys tie exactly where they are the same
pub same_where_tied : (a b : List Cell) → (key_cmp a b ≡ Equal) ↔ (a ≡ b)
same_where_tied a b = (exact_keys a b, λ same. subst (λ (k : List Cell). key_cmp a k ≡ Equal) same (tied_itself key_cmp-total a))
