use Rattle.std.proofs.Common.{◌∙◌, sym}
use Rattle.acct_types.specs.Cells.{key_cmp}
use Rattle.acct_types.proofs.KeyLemmas.{key_orders_same}
use Rattle.acct_types.proofs.PackedOrder.{octets_ordered}
use Rattle.acct_types.proofs.key.KeyOrd.cmp.Goals as goal

pub returns : goal.returns
returns c =
    c.cmp.ensures
    ∙ octets_ordered _ _ _ _ c.as_slice.ensures c.as_slice-2.ensures c.self.invariant c.other.invariant
    ∙ (λ i. key_cmp (c.self.view_is i) (c.other.view_is i))
    ∙ sym (key_orders_same c.args.self.now c.args.other.now)
