use Rattle.acct_types.proofs.PackedLemmas.{CellsFit-plain}
use Rattle.acct_types.proofs.key.Key.cells.Goals as goal

pub returns-clause-plain : goal.returns-clause-plain
returns-clause-plain c = rw (← c.self.view_is) (CellsFit-plain _ c.self.invariant.fit)
