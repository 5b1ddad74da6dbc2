-- Keys that are equal are hashed alike.
use Rattle.std.specs.Prelude.{◌≡◌, true, List, [], ◌∷◌}
use Rattle.std.proofs.Common.{ap, refl}
use Rattle.std.proofs.lemmas.Bool.{and_parts, eqb-true}
use Rattle.std.specs.Cmp.Lexicographic.{bytes_decides, pointwise}
use Rattle.acct_types.specs.declared.addr.Addr.{Addr}
use Rattle.acct_types.specs.declared.addr.Addr.TheVariants.{V4, V6}
use Rattle.acct_types.specs.declared.cell.Cell.{Cell}
use Rattle.acct_types.specs.declared.cell.Cell.TheVariants.{Number, Address, Mac, Words}
use Rattle.acct_types.specs.contracts.addr.AddrPartialEq.TheImpl as addr_equality
use Rattle.acct_types.specs.contracts.cell.CellPartialEq.TheImpl as cell_equality
use Rattle.acct_types.specs.Packed.{packed}

-- what the derived tests find equal is the same
same_addresses : (a b : Addr) → (addr_equality.eq-value).it a b ≡ true → a ≡ b
same_addresses (V4 a) (V4 b) h = ap V4 (eqb-true a b h)
same_addresses (V4 a) (V6 b) h = cc h
same_addresses (V6 a) (V4 b) h = cc h
same_addresses (V6 a) (V6 b) h = ap V6 (eqb-true a b h)

same_cells : (a b : Cell) → (cell_equality.eq-value).it a b ≡ true → a ≡ b
same_cells (Number a) (Number b) h = ap Number (eqb-true a b h)
same_cells (Number a) (Address b) h = cc h
same_cells (Number a) (Mac b) h = cc h
same_cells (Number a) (Words b) h = cc h
same_cells (Address a) (Number b) h = cc h
same_cells (Address a) (Address b) h = ap Address (same_addresses a b h)
same_cells (Address a) (Mac b) h = cc h
same_cells (Address a) (Words b) h = cc h
same_cells (Mac a) (Number b) h = cc h
same_cells (Mac a) (Address b) h = cc h
same_cells (Mac a) (Mac b) h = ap Mac (eqb-true a b h)
same_cells (Mac a) (Words b) h = cc h
same_cells (Words a) (Number b) h = cc h
same_cells (Words a) (Address b) h = cc h
same_cells (Words a) (Mac b) h = cc h
same_cells (Words a) (Words b) h = ap Words ((bytes_decides a b).0 h)

same_keys : (a b : List Cell) → pointwise (cell_equality.eq-value).it a b ≡ true → a ≡ b
same_keys [] [] h = refl
same_keys [] (y ∷ ys) h = cc h
same_keys (x ∷ xs) [] h = cc h
same_keys (x ∷ xs) (y ∷ ys) h = let both = and_parts _ _ h in λ i. same_cells x y both.0 i ∷ same_keys xs ys both.1 i

pub same_cells_hash : (a b : List Cell) → pointwise (cell_equality.eq-value).it a b ≡ true → packed a ∷ [] ≡ packed b ∷ []
same_cells_hash a b h = ap (λ (cells : List Cell). packed cells ∷ []) (same_keys a b h)
