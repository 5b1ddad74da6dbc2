use Rattle.std.proofs.Common.{◌≡◌, ◌∙◌, ◌∷◌, ◌++◌, [], true, List, ℕ, ap, refl, append_assoc}
use Rattle.acct_types.specs.declared.cell.Cell.TheVariants as cell
use Rattle.acct_types.specs.Cells.{are_plain}
use Rattle.acct_types.specs.Packed.{cells_in, packed_cell}
use Rattle.acct_types.proofs.PackedLemmas.{IsOne, IsPacked-append, cells_in-append, is_one}
use Rattle.acct_types.proofs.key.Key.push_words.Goals as goal

-- a 7, the words and a 0 at the end of octets
spelled : (octets words : List ℕ) → ((octets ++ 7 ∷ []) ++ words) ++ 0 ∷ [] ≡ octets ++ packed_cell (cell.Words words)
unfolding packed_cell
spelled octets words = simp append_assoc

words_are : (words : List ℕ) → are_plain words ≡ true → IsOne (cell.Words words) (packed_cell (cell.Words words))
words_are words plain = is_one (cell.Words words) _ plain refl

-- what stands after the pushes
after : (old a b c words : List ℕ) → a ≡ old ++ 7 ∷ [] → b ≡ a ++ words → c ≡ b ++ 0 ∷ [] → c ≡ old ++ packed_cell (cell.Words words)
after old a b c words tag body end = rw (end, body, tag) (spelled old words)

pub invariant_of-self-2 : goal.invariant_of-self-2
invariant_of-self-2 c =
    rw (after _ _ _ _ _ (rw c.in_ok-reserve.ensures.items at c.push_reserved.ensures.items) c.in_ok-extend_from_slice.ensures.ok c.push_reserved-2.ensures.items)
    (IsPacked-append _ _ c.self.invariant (words_are c.args.words.now c.requires).packed)

pub returns-clause-ok : goal.returns-clause-ok
returns-clause-ok c =
    ap cells_in (after _ _ _ _ _ (rw c.in_ok-reserve.ensures.items at c.push_reserved.ensures.items) c.in_ok-extend_from_slice.ensures.ok c.push_reserved-2.ensures.items)
    ∙ cells_in-append _ _ c.self.invariant (words_are c.args.words.now c.requires).packed
    ∙ (λ i. c.self.view_is i ++ (words_are c.args.words.now c.requires).read i)
