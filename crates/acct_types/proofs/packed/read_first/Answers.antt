use Rattle.acct_types.proofs.PackedLemmas.{CellFits-plain, first_of}
use Rattle.acct_types.proofs.packed.read_first.Goals as goal

pub read_cell-size-requires : goal.read_cell-size-requires
read_cell-size-requires c = rw c.after-octets.ensures (first_of _ c.requires.packed c.requires.some).within

pub after-requires : goal.after-requires
after-requires c =
    rw (c.read_cell-size.ensures.size, c.after-octets.ensures) (first_of _ c.requires.packed c.requires.some).within

pub returns-clause-cells : goal.returns-clause-cells
returns-clause-cells c =
    rw (c.read_cell-size.ensures.cell, c.after.ensures, c.read_cell-size.ensures.size, c.after-octets.ensures)
    (first_of _ c.requires.packed c.requires.some).cells

pub returns-clause-plain : goal.returns-clause-plain
returns-clause-plain c =
    rw (c.read_cell-size.ensures.cell, c.after-octets.ensures)
    (CellFits-plain _ (first_of _ c.requires.packed c.requires.some).fits)

pub returns-clause-rest : goal.returns-clause-rest
returns-clause-rest c =
    rw (c.after.ensures, c.read_cell-size.ensures.size, c.after-octets.ensures)
    (first_of _ c.requires.packed c.requires.some).rest
