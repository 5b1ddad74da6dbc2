use Rattle.std.proofs.Common.{◌≡◌, ◌∷◌, [], ℕ, List, get_or, refl, arith}
use Rattle.std.specs.Int.{w32, to_be_bytes}
use Rattle.acct_types.specs.declared.addr.Addr.TheVariants.{V4}
use Rattle.acct_types.specs.declared.cell.Cell.TheVariants as cell
use Rattle.acct_types.specs.Packed.{packed_cell}
use Rattle.acct_types.proofs.PackedLemmas.{IsOne_pushed, is_one}
use Rattle.acct_types.proofs.key.Key.push_v4.Goals as goal

four : (n : ℕ) (bytes : List ℕ) → bytes ≡ to_be_bytes w32 n
    → packed_cell (cell.Address (V4 n)) ≡ 4 ∷ get_or bytes 0 0 ∷ get_or bytes 1 0 ∷ get_or bytes 2 0 ∷ get_or bytes 3 0 ∷ []
unfolding packed_cell
four n bytes e = rw e refl

pub append-requires : goal.append-requires
append-requires c = (is_one (cell.Address (V4 c.args.number)) _ (omega arith) (four c.args.number _ c.to_be_bytes.ensures)).packed

pub returns-clause-ok : goal.returns-clause-ok
returns-clause-ok c =
    IsOne_pushed (cell.Address (V4 c.args.number)) _ _ _ _
    (is_one (cell.Address (V4 c.args.number)) _ (omega arith) (four c.args.number _ c.to_be_bytes.ensures)) c.append.ensures.ok
