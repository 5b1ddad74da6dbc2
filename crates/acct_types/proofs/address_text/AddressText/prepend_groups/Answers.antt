use Rattle.std.proofs.Common.{arith}
use Rattle.std.proofs.lemmas.Grind.{common_steps}
use Rattle.acct_types.proofs.TextLemmas.{groups_from_first}
use Rattle.acct_types.proofs.address_text.AddressText.prepend_groups.Goals as goal

pub returns-clause-text : goal.returns-clause-text
returns-clause-text c = grind (arith, common_steps, groups_from_first)
