use Rattle.std.proofs.Common.{◌≡◌, ◌∙◌, ◌<◌, ◌≤◌, ◌^◌, ◌∷◌, ◌++◌, [], ℕ, List, append-nil, get_or, arith}
use Rattle.std.specs.Int.{w16, w32, w64, to_be_bytes}
use Rattle.acct_types.specs.declared.cell.Cell.TheVariants as cell
use Rattle.acct_types.specs.Packed.{packed_cell, packed_number}
use Rattle.acct_types.proofs.PackedLemmas.{IsOne, IsOne_pushed, is_one, packed_one, packed_two, packed_four, packed_eight}
use Rattle.acct_types.proofs.key.Key.push_number.Goals as goal

number_is : (n : ℕ) (octets : List ℕ) → n < 2 ^ 64 → packed_number n ≡ octets → IsOne (cell.Number n) octets
unfolding packed_cell
number_is n octets fits is = is_one (cell.Number n) octets fits is

one : (n : ℕ) → n < 2 ^ 8 → IsOne (cell.Number n) (0 ∷ n ∷ [])
one n low = number_is n _ (omega arith) (packed_one n low)

two : (n : ℕ) (bytes : List ℕ) → 2 ^ 8 ≤ n → n < 2 ^ 16 → bytes ≡ to_be_bytes w16 n
    → IsOne (cell.Number n) (1 ∷ get_or bytes 0 0 ∷ get_or bytes 1 0 ∷ [])
two n bytes above low e = rw e (number_is n _ (omega arith) (packed_two n above low))

four : (n : ℕ) (bytes : List ℕ) → 2 ^ 16 ≤ n → n < 2 ^ 32 → bytes ≡ to_be_bytes w32 n
    → IsOne (cell.Number n) (2 ∷ get_or bytes 0 0 ∷ get_or bytes 1 0 ∷ get_or bytes 2 0 ∷ get_or bytes 3 0 ∷ [])
four n bytes above low e = rw e (number_is n _ (omega arith) (packed_four n above low))

eight : (n : ℕ) (bytes : List ℕ) → 2 ^ 32 ≤ n → n < 2 ^ 64 → bytes ≡ to_be_bytes w64 n → IsOne (cell.Number n) (3 ∷ (bytes ++ []))
eight n bytes above fits e = rw (e, append-nil) (number_is n _ fits (packed_eight n above))

pub append-requires : goal.append-requires
append-requires c = (one _ c.if-number-lt256.true).packed

pub returns-then-number-lt256-clause-ok : goal.returns-then-number-lt256-clause-ok
returns-then-number-lt256-clause-ok c =
    IsOne_pushed _ _ _ _ _ (one _ c.if-number-lt256.true) c.append.ensures.ok

pub append-requires-then-number-lt65536 : goal.append-requires-then-number-lt65536
append-requires-then-number-lt65536 c = (two _ _ c.if-number-lt256.false c.if-number-lt65536.true c.to_be_bytes.ensures).packed

pub returns-then-number-lt65536-clause-ok : goal.returns-then-number-lt65536-clause-ok
returns-then-number-lt65536-clause-ok c =
    IsOne_pushed _ _ _ _ _ (two _ _ c.if-number-lt256.false c.if-number-lt65536.true c.to_be_bytes.ensures)
    c.append-then-number-lt65536.ensures.ok

pub append-requires-then-number-lt4294967296 : goal.append-requires-then-number-lt4294967296
append-requires-then-number-lt4294967296 c =
    (four _ _ c.if-number-lt65536.false c.if-number-lt4294967296.true c.to_be_bytes-then-number-lt4294967296.ensures).packed

pub returns-then-number-lt4294967296-clause-ok : goal.returns-then-number-lt4294967296-clause-ok
returns-then-number-lt4294967296-clause-ok c =
    IsOne_pushed _ _ _ _ _
    (four _ _ c.if-number-lt65536.false c.if-number-lt4294967296.true c.to_be_bytes-then-number-lt4294967296.ensures)
    c.append-then-number-lt4294967296.ensures.ok

pub append-requires-2 : goal.append-requires-2
append-requires-2 c =
    (eight _ _ c.if-number-lt4294967296.false (omega arith) (c.copy_from_slice.ensures.after ∙ c.to_be_bytes-2.ensures)).packed

pub returns-clause-ok : goal.returns-clause-ok
returns-clause-ok c =
    IsOne_pushed _ _ _ _ _
    (eight _ _ c.if-number-lt4294967296.false (omega arith) (c.copy_from_slice.ensures.after ∙ c.to_be_bytes-2.ensures))
    c.append-2.ensures.ok
