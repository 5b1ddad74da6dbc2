use Rattle.std.proofs.Common.{◌∙◌, Some, ap, sym}
use Rattle.std.specs.Cmp.Lexicographic.{lists_agrees}
use Rattle.acct_types.specs.contracts.cell.CellOrd.TheImpl.Laws as cell_laws
use Rattle.acct_types.proofs.key.KeyPartialOrd.partial_cmp.Goals as goal

pub returns : goal.returns
returns c = ap Some c.cmp.ensures ∙ sym (lists_agrees cell_laws.matches_partial_cmp-law c.args.self.now c.args.other.now)
