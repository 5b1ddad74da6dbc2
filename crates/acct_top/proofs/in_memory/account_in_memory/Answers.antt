use Rattle.std.proofs.Common.{refl}
use Rattle.acct_top.proofs.in_memory.account_in_memory.Goals as goal

-- src/in_memory.rt
pub returns-clause-holds : goal.returns-clause-holds
returns-clause-holds c = c.account_alone.ensures.holds refl
