use Rattle.std.proofs.Common.{◌∙◌, ap, sym}
use Rattle.std.specs.Cmp.Lexicographic.{texts_ties}
use Rattle.std.specs.Ordering.{is_eq}
use Rattle.acct_types.specs.Cells.{key_eq}
use Rattle.acct_types.proofs.KeyLemmas.{key_equalities_same}
use Rattle.acct_types.proofs.PackedOrder.{octets_ordered}
use Rattle.acct_types.proofs.key.KeyPartialEq.eq.Goals as goal

pub returns : goal.returns
returns c =
    c.eq.ensures
    ∙ texts_ties c.as_slice.result.now c.as_slice-2.result.now
    ∙ ap is_eq (octets_ordered _ _ _ _ c.as_slice.ensures c.as_slice-2.ensures c.self.invariant c.other.invariant)
    ∙ (λ i. key_eq (c.self.view_is i) (c.other.view_is i))
    ∙ sym (key_equalities_same c.args.self.now c.args.other.now)
