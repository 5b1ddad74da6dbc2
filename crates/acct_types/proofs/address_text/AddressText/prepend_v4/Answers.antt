use Rattle.std.proofs.Common.{ap, ◌∙◌, ◌++◌, List, ℕ}
use Rattle.std.specs.Net.Text.{ipv4_text}
use Rattle.acct_types.proofs.TextLemmas.{four_decimals}
use Rattle.acct_types.proofs.address_text.AddressText.prepend_v4.Goals as goal

pub returns : goal.returns
returns c =
    four_decimals c.to_be_bytes.result c.args.self.now _ _ _ _ _ _ _ c.prepend_decimal.ensures.text c.prepend.ensures
    c.prepend_decimal-2.ensures.text c.prepend-2.ensures c.prepend_decimal-3.ensures.text c.prepend-3.ensures c.prepend_decimal-4.ensures.text
    ∙ ap (λ (octets : List ℕ). ipv4_text octets ++ c.args.self.now) c.to_be_bytes.ensures
