use Rattle.std.proofs.Common.{sym, eq-eqb, ne_eqb, arith}
use Rattle.std.proofs.lemmas.List.Sums.{position_or_len_is}
use Rattle.acct_types.specs.Packed.{ends_words}
use Rattle.acct_types.proofs.packed.words_end.Goals as goal

pub returns-then-octet-eq0 : goal.returns-then-octet-eq0
returns-then-octet-eq0 c =
    sym (position_or_len_is ends_words _ _ 0 (omega arith) (λ k below. ne_eqb _ _ (c.loop-place.invariant k below)) (λ _. eq-eqb _ _ c.if-octet-eq0.true))

pub returns : goal.returns
returns c = sym (position_or_len_is ends_words _ _ 0 (omega arith) (λ k below. ne_eqb _ _ (c.loop-place.invariant k (omega arith))) (λ within. absurd (omega arith)))
