use Rattle.acct_types.proofs.PackedLemmas.{none_IsPacked, none_read}
use Rattle.acct_types.proofs.key.Key.new.Goals as goal

pub invariant_of-result : goal.invariant_of-result
invariant_of-result c = rw c.new.ensures.items none_IsPacked

pub returns : goal.returns
returns c = rw c.new.ensures.items none_read
