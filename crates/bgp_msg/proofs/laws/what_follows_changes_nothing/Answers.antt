use Rattle.bgp_msg.proofs.FrameLemmas.{fault_before, found_before, waits_with_few}
use Rattle.bgp_msg.proofs.laws.what_follows_changes_nothing.Goals as goal

pub returns-clause-message : goal.returns-clause-message
returns-clause-message c = found_before

pub returns-clause-fault : goal.returns-clause-fault
returns-clause-fault c = fault_before

pub returns-clause-waits : goal.returns-clause-waits
returns-clause-waits c = waits_with_few
