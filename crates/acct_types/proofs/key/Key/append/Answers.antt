use Rattle.acct_types.proofs.PackedLemmas.{IsPacked-append, cells_in-append}
use Rattle.acct_types.proofs.key.Key.append.Goals as goal

pub invariant_of-self-2 : goal.invariant_of-self-2
invariant_of-self-2 c = rw c.in_ok-add_octets.ensures.ok (IsPacked-append _ _ c.self.invariant c.requires)

pub returns-clause-ok : goal.returns-clause-ok
returns-clause-ok c =
    rw (c.in_ok-add_octets.ensures.ok, ← c.self.view_is) (cells_in-append _ _ c.self.invariant c.requires)
