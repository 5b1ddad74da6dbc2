use Rattle.std.proofs.Common.{◌≡◌, ◌∙◌, ◌∷◌, ◌++◌, [], ℕ, List, append-nil, arith, refl}
use Rattle.std.specs.Int.{w128, to_be_bytes}
use Rattle.acct_types.specs.declared.addr.Addr.TheVariants.{V6}
use Rattle.acct_types.specs.declared.cell.Cell.TheVariants as cell
use Rattle.acct_types.specs.Packed.{packed_cell}
use Rattle.acct_types.proofs.PackedLemmas.{IsOne_pushed, is_one}
use Rattle.acct_types.proofs.key.Key.push_v6.Goals as goal

copied : (n : ℕ) (bytes : List ℕ) → bytes ≡ to_be_bytes w128 n → packed_cell (cell.Address (V6 n)) ≡ 5 ∷ (bytes ++ [])
unfolding packed_cell
copied n bytes e = rw (e, append-nil) refl

pub append-requires : goal.append-requires
append-requires c =
    (is_one (cell.Address (V6 c.args.number)) _ (omega arith) (copied c.args.number _ (c.copy_from_slice.ensures.after ∙ c.to_be_bytes.ensures))).packed

pub returns-clause-ok : goal.returns-clause-ok
returns-clause-ok c =
    IsOne_pushed (cell.Address (V6 c.args.number)) _ _ _ _
    (is_one (cell.Address (V6 c.args.number)) _ (omega arith) (copied c.args.number _ (c.copy_from_slice.ensures.after ∙ c.to_be_bytes.ensures)))
    c.append.ensures.ok
